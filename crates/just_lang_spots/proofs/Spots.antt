-- The first of some places, by parts of their list.
use Rattle.std.proofs.Common.{◌≡◌, ℕ, suc, List, [], ◌∷◌, ◌++◌, Option, Some, None, refl, sym, ◌∙◌, ap, arith, true, false, Bool, drop, length, get_or, ◌<◌, ◌+◌, add-one, drop-cons}
use Rattle.std.specs.Prelude.{◌==◌, nat_lt, not, if◌then◌else◌}
use Rattle.std.specs.List.{flat_map}
use Rattle.just_lang_spots.specs.declared.spot.Spot.{Spot}
use Rattle.just_lang_spots.specs.Spots.{comes_before, earlier, first_spot}

-- numbers first, and where these are one a further test
abbrev pub lex : ℕ → ℕ → Bool → Bool
lex m n rest = if not (m == n) then nat_lt m n else rest

lex_trans : (m n o : ℕ) (p q r : Bool) → (p ≡ true → q ≡ true → r ≡ true) → lex m n p ≡ true → lex n o q ≡ true → lex m o r ≡ true
lex_trans m n o p q r inner h k = grind arith

not_lex_trans : (m n o : ℕ) (p q r : Bool) → (p ≡ false → q ≡ false → r ≡ false) → lex m n p ≡ false → lex n o q ≡ false → lex m o r ≡ false
not_lex_trans m n o p q r inner h k = grind arith

lt_trans : (m n o : ℕ) → nat_lt m n ≡ true → nat_lt n o ≡ true → nat_lt m o ≡ true
lt_trans m n o h k = grind arith

not_lt_trans : (m n o : ℕ) → nat_lt m n ≡ false → nat_lt n o ≡ false → nat_lt m o ≡ false
not_lt_trans m n o h k = grind arith

-- what comes before something that comes before a third thing comes before that
before_trans : (a b c : Spot) → comes_before c b ≡ true → comes_before b a ≡ true → comes_before c a ≡ true
before_trans a b c h k =
    lex_trans c.file b.file a.file (lex c.line b.line (nat_lt c.column b.column)) (lex b.line a.line (nat_lt b.column a.column)) (lex c.line a.line (nat_lt c.column a.column))
    (lex_trans c.line b.line a.line (nat_lt c.column b.column) (nat_lt b.column a.column) (nat_lt c.column a.column) (lt_trans c.column b.column a.column)) h k

-- and what doesn't, doesn't
pub not_before_trans : (a b c : Spot) → comes_before c b ≡ false → comes_before b a ≡ false → comes_before c a ≡ false
not_before_trans a b c h k =
    not_lex_trans c.file b.file a.file (lex c.line b.line (nat_lt c.column b.column)) (lex b.line a.line (nat_lt b.column a.column)) (lex c.line a.line (nat_lt c.column a.column))
    (not_lex_trans c.line b.line a.line (nat_lt c.column b.column) (nat_lt b.column a.column) (nat_lt c.column a.column) (not_lt_trans c.column b.column a.column)) h k

pub earlier_none : (found : Option Spot) → earlier found None ≡ found
earlier_none None = refl
earlier_none (Some a) = refl

-- three places, by which of two neighbours comes first
assoc_by : (a b c : Spot) (x y : Bool) → comes_before b a ≡ x → comes_before c b ≡ y → earlier (earlier (Some a) (Some b)) (Some c) ≡ earlier (Some a) (earlier (Some b) (Some c))
assoc_by a b c true true h k = let e : comes_before c a ≡ true = before_trans a b c k h in simp (h, k, e)
assoc_by a b c true false h k = simp (h, k)
assoc_by a b c false true h k = simp (h, k)
assoc_by a b c false false h k = let e : comes_before c a ≡ false = not_before_trans a b c k h in simp (h, k, e)

pub earlier_assoc : (a b c : Option Spot) → earlier (earlier a b) c ≡ earlier a (earlier b c)
earlier_assoc None b c = refl
earlier_assoc (Some a) None c = refl
earlier_assoc (Some a) (Some b) None = earlier_none (earlier (Some a) (Some b))
earlier_assoc (Some a) (Some b) (Some c) = assoc_by a b c (comes_before b a) (comes_before c b) refl refl

-- one more place: what was found behind it, and what is still to come
pub first_step_spot : (found next : Option Spot) (xs : List Spot) (i : ℕ) (d : Spot) → i < length xs → next ≡ earlier found (Some (get_or xs i d))
    → earlier next (first_spot (drop (i + 1) xs)) ≡ earlier found (first_spot (drop i xs))
first_step_spot found next xs i d h e =
    ap (λ o. earlier o (first_spot (drop (i + 1) xs))) e ∙ earlier_assoc found (Some (get_or xs i d)) (first_spot (drop (i + 1) xs))
    ∙ ap (λ n. earlier found (earlier (Some (get_or xs i d)) (first_spot (drop n xs)))) (add-one i) ∙ ap (λ ys. earlier found (first_spot ys)) (sym (drop-cons xs i d h))

pub first_spot_append : (xs ys : List Spot) → first_spot (xs ++ ys) ≡ earlier (first_spot xs) (first_spot ys)
first_spot_append [] ys = refl
first_spot_append (x ∷ xs) ys = ap (earlier (Some x)) (first_spot_append xs ys) ∙ sym (earlier_assoc (Some x) (first_spot xs) (first_spot ys))

-- the first of more places, behind what was found
pub first_behind : (found : Option Spot) (xs ys : List Spot) → earlier found (first_spot (xs ++ ys)) ≡ earlier (earlier found (first_spot xs)) (first_spot ys)
first_behind found xs ys = ap (earlier found) (first_spot_append xs ys) ∙ sym (earlier_assoc found (first_spot xs) (first_spot ys))

-- one more thing of a list: what was found behind it, and what is still to come
pub first_step : {X : Type 0} (f : X → List Spot) (found here next : Option Spot) (xs : List X) (i : ℕ) (x : X) → i < length xs → x ≡ get_or xs i x
    → here ≡ first_spot (f x) → next ≡ earlier found here
    → earlier next (first_spot (flat_map f (drop (i + 1) xs))) ≡ earlier found (first_spot (flat_map f (drop i xs)))
first_step f found here next xs i x less is h k =
    let cons : drop i xs ≡ x ∷ drop (i + 1) xs = rw (add-one, drop-cons xs i x) (ap (λ y. y ∷ drop (suc i) xs) (sym is)) in
    ap (λ s. earlier s (first_spot (flat_map f (drop (i + 1) xs)))) (k ∙ ap (earlier found) h)
    ∙ sym (first_behind found (f x) (flat_map f (drop (i + 1) xs)))
    ∙ ap (λ ys. earlier found (first_spot (flat_map f ys))) (sym cons)
