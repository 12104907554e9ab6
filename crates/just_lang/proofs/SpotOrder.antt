-- Places and their numbers, sorted: each number is there, and no later place comes before an earlier one.
use Rattle.std.proofs.Common.{◌≡◌, ◌==◌, ℕ, zero, suc, ◌+◌, ◌<◌, ◌≤◌, inl, inr, Bool, true, false, not, cond, List, [], ◌∷◌, ◌++◌, length, map, take, get_or, refl, ap, sym, ◌∙◌, subst, arith, nat_lt, append_assoc, Ordering, Less, Equal, Greater}
use Rattle.std.specs.List.{All, Contains}
use Rattle.std.specs.List.Sorted.{IsPermutation, IsSorted}
use Rattle.std.specs.Ordering.{nat_cmp, ordering_then, is_lt}
use Rattle.std.specs.Cmp.{IsTotalOrder, nat_cmp_is}
use Rattle.std.proofs.lemmas.Cmp.{then_total, on_total, nat_cmp_total}
use Rattle.std.proofs.lemmas.Bool.{cases_Bool, eqb-true}
use Rattle.std.proofs.lemmas.List.{length-append, length_push, get_or_at, length-take-le, take_more, length-map}
use Rattle.std.proofs.lemmas.List.Elements.{All-cons, All-head, All-tail}
use Rattle.std.proofs.lemmas.List.MinMax.{ranks_by}
use Rattle.std.proofs.lemmas.List.Sorted.{sorted_far, All-permutation, Contains-permutation, IsPermutation-map}
use Rattle.just_lang_spots.specs.declared.spot.Spot.{Spot}
use Rattle.just_lang_spots.specs.Spots.{comes_before}
use Rattle.just_lang.specs.SpotOrder.{Key, numbered_from, spot_of_key, spot_at, nowhere}

-- keys in their order: by file, line, column and number
abbrev pub key_cmp : Key → Key → Ordering
key_cmp a b = ordering_then (ordering_then (ordering_then (nat_cmp a.0 b.0) (nat_cmp a.1 b.1)) (nat_cmp a.2 b.2)) (nat_cmp a.3 b.3)

pub keys_total : IsTotalOrder key_cmp
keys_total = then_total (then_total (then_total (on_total (λ k. k.0) nat_cmp_total) (on_total (λ k. k.1) nat_cmp_total)) (on_total (λ k. k.2) nat_cmp_total)) (on_total (λ k. k.3) nat_cmp_total)

then_assoc : (x y z : Ordering) → ordering_then (ordering_then x y) z ≡ ordering_then x (ordering_then y z)
then_assoc Less y z = refl
then_assoc Equal y z = refl
then_assoc Greater y z = refl

-- the same, one number after the other
in_turn : (a b : Key) → key_cmp a b ≡ ordering_then (nat_cmp a.0 b.0) (ordering_then (nat_cmp a.1 b.1) (ordering_then (nat_cmp a.2 b.2) (nat_cmp a.3 b.3)))
in_turn a b =
    then_assoc (ordering_then (nat_cmp a.0 b.0) (nat_cmp a.1 b.1)) (nat_cmp a.2 b.2) (nat_cmp a.3 b.3)
    ∙ then_assoc (nat_cmp a.0 b.0) (nat_cmp a.1 b.1) (ordering_then (nat_cmp a.2 b.2) (nat_cmp a.3 b.3))

less_first : (a b : ℕ) (rest : Ordering) → nat_lt a b ≡ true → is_lt (ordering_then (nat_cmp a b) rest) ≡ true
less_first a b rest h = ap (λ t. is_lt (ordering_then (cond t Less (cond (a == b) Equal Greater)) rest)) h

same_first : (x : ℕ) (rest : Ordering) → is_lt (ordering_then (nat_cmp x x) rest) ≡ is_lt rest
same_first x rest = ap (λ o. is_lt (ordering_then o rest)) (sym (nat_cmp_is x x Equal refl))

level : (x y : ℕ) (behind : Bool) (rest : Ordering) → (behind ≡ true → is_lt rest ≡ true) → cond (not (x == y)) (nat_lt x y) behind ≡ true → is_lt (ordering_then (nat_cmp x y) rest) ≡ true
level x y behind rest next h =
    elim (x == y) as (λ b. (x == y) ≡ b → cond (not b) (nat_lt x y) behind ≡ true → is_lt (ordering_then (nat_cmp x y) rest) ≡ true) [
      | true ↦ λ e t. subst (λ z. is_lt (ordering_then (nat_cmp x z) rest) ≡ true) (eqb-true x y e) (same_first x rest ∙ next t)
      | false ↦ λ e t. less_first x y rest t
    ] refl h

-- what comes before has the lesser key
pub before_less : (a b : Key) → comes_before (spot_of_key a) (spot_of_key b) ≡ true → is_lt (key_cmp a b) ≡ true
before_less a b h =
    let last : Ordering = nat_cmp a.3 b.3 in
    ap is_lt (in_turn a b)
    ∙ level a.0 b.0 (cond (not (a.1 == b.1)) (nat_lt a.1 b.1) (nat_lt a.2 b.2)) (ordering_then (nat_cmp a.1 b.1) (ordering_then (nat_cmp a.2 b.2) last)) (λ t.
    level a.1 b.1 (nat_lt a.2 b.2) (ordering_then (nat_cmp a.2 b.2) last) (λ u. less_first a.2 b.2 last u) t) h

-- a key of the place of that number
abbrev pub IsKeyOf : List Spot → Key → Type 0
IsKeyOf spots k = (k.3 < length spots) × (get_or spots k.3 nowhere ≡ spot_of_key k)

-- no later key's place comes before an earlier one's
pub keys_in_order : (ks : List Key) → IsSorted key_cmp ks → (i j : ℕ) (d : Key) → i ≤ j → j < length ks → comes_before (spot_of_key (get_or ks j d)) (spot_of_key (get_or ks i d)) ≡ false
keys_in_order ks sorted i j d le lt =
    let far : is_lt (key_cmp (get_or ks j d) (get_or ks i d)) ≡ false = sorted_far (λ x y. is_lt (key_cmp x y)) (ranks_by keys_total (λ k. k)) ks sorted i j d le lt in
    elim (cases_Bool (comes_before (spot_of_key (get_or ks j d)) (spot_of_key (get_or ks i d)))) [
      | inl t ↦ absurd (let less = before_less (get_or ks j d) (get_or ks i d) t in cc)
      | inr f ↦ f
    ]

below : (front : List Spot) (s : Spot) (ss : List Spot) (n : ℕ) → n ≡ length front → n < length (front ++ s ∷ ss)
below front s ss n e = rw (length-append front (s ∷ ss)) (omega arith)

-- each key is that of a place of its list
keys_behind : (front ss : List Spot) (n : ℕ) → n ≡ length front → All (IsKeyOf (front ++ ss)) (numbered_from n ss)
keys_behind front [] n e = λ k d lt. absurd (omega (arith, lt))
keys_behind front (s ∷ ss) n e =
    let size : length (front ++ s ∷ []) ≡ length front + 1 = length_push front s in
    All-cons (IsKeyOf (front ++ s ∷ ss)) (s.file, s.line, s.column, n) (numbered_from (suc n) ss) (below front s ss n e, get_or_at front s ss nowhere n (sym e)) (subst (λ l. All (IsKeyOf l) (numbered_from (suc n) ss)) (append_assoc front (s ∷ []) ss) (keys_behind (front ++ s ∷ []) ss (suc n) (omega arith)))

pub keys_of : (spots : List Spot) → All (IsKeyOf spots) (numbered_from 0 spots)
keys_of spots = keys_behind [] spots 0 refl

-- each number is that of a key
number_there : (ss : List Spot) (first n : ℕ) → n < length ss → Contains (map (λ (k : Key). k.3) (numbered_from first ss)) (first + n)
number_there [] first n h = absurd (omega (arith, h))
number_there (s ∷ ss) first zero h = (0, omega arith, omega arith)
number_there (s ∷ ss) first (suc n) h =
    let c = number_there ss (suc first) n (omega (arith, h)) in
    let same : suc first + n ≡ first + suc n = omega arith in
    let d : Contains (map (λ (k : Key). k.3) (numbered_from (suc first) ss)) (first + suc n) = subst (λ x. Contains (map (λ (k : Key). k.3) (numbered_from (suc first) ss)) x) same c in
    (suc d.0, omega (arith, d.1), d.2)

pub numbers_there : (spots : List Spot) (n : ℕ) → n < length spots → Contains (map (λ (k : Key). k.3) (numbered_from 0 spots)) n
numbers_there spots n h =
    let same : 0 + n ≡ n = omega arith in
    subst (λ k. Contains (map (λ (k : Key). k.3) (numbered_from 0 spots)) k) same (number_there spots 0 n h)

-- the keys of the places up to one, and of that one
numbered_end : (n : ℕ) (xs : List Spot) (x : Spot) → numbered_from n (xs ++ x ∷ []) ≡ numbered_from n xs ++ (x.file, x.line, x.column, n + length xs) ∷ []
numbered_end n [] x = ap (λ k. (x.file, x.line, x.column, k) ∷ []) (omega arith)
numbered_end n (y ∷ xs) x =
    let same : suc n + length xs ≡ n + suc (length xs) = omega arith in
    ap (λ ks. (y.file, y.line, y.column, n) ∷ ks) (numbered_end (suc n) xs x ∙ ap (λ k. numbered_from (suc n) xs ++ (x.file, x.line, x.column, k) ∷ []) same)

pub numbered_more : (spots : List Spot) (i : ℕ) (d : Spot) → i < length spots
    → numbered_from 0 (take (i + 1) spots) ≡ numbered_from 0 (take i spots) ++ ((get_or spots i d).file, (get_or spots i d).line, (get_or spots i d).column, i) ∷ []
numbered_more spots i d h =
    let many : length (take i spots) ≡ i = length-take-le i spots (omega arith) in
    let size : 0 + length (take i spots) ≡ i = omega (arith, many) in
    ap (numbered_from 0) (take_more spots i d h) ∙ numbered_end 0 (take i spots) (get_or spots i d)
    ∙ ap (λ k. numbered_from 0 (take i spots) ++ ((get_or spots i d).file, (get_or spots i d).line, (get_or spots i d).column, k) ∷ []) size

-- ---- the numbers of sorted keys

mapped_within : (spots : List Spot) (ks : List Key) → All (IsKeyOf spots) ks → All (λ m. m < length spots) (map (λ (k : Key). k.3) ks)
mapped_within spots [] h = λ k d lt. absurd (omega (arith, lt))
mapped_within spots (k ∷ ks) h =
    All-cons (λ m. m < length spots) k.3 (map (λ (x : Key). x.3) ks) (All-head (IsKeyOf spots) k ks h).0 (mapped_within spots ks (All-tail (IsKeyOf spots) k ks h))

pub numbers_within : (spots : List Spot) (keys sorted : List Key) (numbers : List ℕ) → keys ≡ numbered_from 0 spots → IsPermutation keys sorted → numbers ≡ map (λ k. k.3) sorted → All (λ n. n < length spots) numbers
numbers_within spots keys sorted numbers is moved are =
    let all : All (IsKeyOf spots) sorted = All-permutation (IsKeyOf spots) keys sorted moved (subst (λ (ks : List Key). All (IsKeyOf spots) ks) (sym is) (keys_of spots)) in
    subst (λ (ns : List ℕ). All (λ n. n < length spots) ns) (sym are) (mapped_within spots sorted all)

pub numbers_whole : (spots : List Spot) (keys sorted : List Key) (numbers : List ℕ) → keys ≡ numbered_from 0 spots → IsPermutation keys sorted → numbers ≡ map (λ k. k.3) sorted → (n : ℕ) → n < length spots → Contains numbers n
numbers_whole spots keys sorted numbers is moved are n h =
    let here : Contains (map (λ (k : Key). k.3) keys) n = subst (λ (ks : List Key). Contains (map (λ (k : Key). k.3) ks) n) (sym is) (numbers_there spots n h) in
    subst (λ (ns : List ℕ). Contains ns n) (sym are) (Contains-permutation (map (λ (k : Key). k.3) keys) (map (λ (k : Key). k.3) sorted) n (IsPermutation-map (λ (k : Key). k.3) keys sorted moved) here)

-- the number at a place of some is that of the key there
number_at : (ks : List Key) (i : ℕ) (d : Key) → i < length ks → get_or (map (λ (k : Key). k.3) ks) i 0 ≡ (get_or ks i d).3
number_at [] i d h = absurd (omega (arith, h))
number_at (k ∷ ks) zero d h = refl
number_at (k ∷ ks) (suc i) d h = number_at ks i d (omega (arith, h))

no_key : Key
no_key = (0, 0, 0, 0)

-- the place of the number there is that of the key
spot_there : (spots : List Spot) (ks : List Key) (i : ℕ) → All (IsKeyOf spots) ks → i < length ks → spot_at spots (map (λ (k : Key). k.3) ks) i ≡ spot_of_key (get_or ks i no_key)
spot_there spots ks i all h = ap (λ n. get_or spots n nowhere) (number_at ks i no_key h) ∙ (all i no_key h).1

pub numbers_ordered : (spots : List Spot) (keys sorted : List Key) (numbers : List ℕ) → keys ≡ numbered_from 0 spots → IsPermutation keys sorted → IsSorted key_cmp sorted → numbers ≡ map (λ k. k.3) sorted
    → (i j : ℕ) → i ≤ j → j < length numbers → comes_before (spot_at spots numbers j) (spot_at spots numbers i) ≡ false
numbers_ordered spots keys sorted numbers is moved order are i j le lt =
    let all : All (IsKeyOf spots) sorted = All-permutation (IsKeyOf spots) keys sorted moved (subst (λ (ks : List Key). All (IsKeyOf spots) ks) (sym is) (keys_of spots)) in
    let size : length numbers ≡ length sorted = ap length are ∙ length-map sorted (λ (k : Key). k.3) in
    let far : comes_before (spot_of_key (get_or sorted j no_key)) (spot_of_key (get_or sorted i no_key)) ≡ false = keys_in_order sorted order i j no_key le (omega arith) in
    subst (λ (ns : List ℕ). comes_before (spot_at spots ns j) (spot_at spots ns i) ≡ false) (sym are)
    (subst (λ (s : Spot). comes_before (spot_at spots (map (λ (k : Key). k.3) sorted) j) s ≡ false) (sym (spot_there spots sorted i all (omega arith)))
    (subst (λ (s : Spot). comes_before s (spot_of_key (get_or sorted i no_key)) ≡ false) (sym (spot_there spots sorted j all (omega arith))) far))
