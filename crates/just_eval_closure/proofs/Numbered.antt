-- The order of places tells all of them apart, and what a register keeps as it grows.
use Rattle.std.proofs.Common.{◌≡◌, ℕ, zero, suc, ◌+◌, Bool, true, false, ◌||◌, cond, not, List, [], ◌∷◌, ◌++◌, length, Option, Some, None, is_some, bytes_eq, refl, ap, sym, ◌∙◌, subst, arith, slice_get}
use Rattle.std.specs.Prelude.{if◌then◌else◌}
use Rattle.std.specs.BTreeMap.{BTreeMap, get, Updates, is_at}
use Rattle.std.specs.Cmp.Lexicographic.{slice_cmp}
use Rattle.std.specs.List.{list_any, position_or_len}
use Rattle.std.specs.Map.{lookup}
use Rattle.std.specs.Option.{option_cmp}
use Rattle.std.specs.declared.cmp.Ordering.{Ordering}
use Rattle.std.specs.declared.cmp.Ordering.TheVariants.{Less, Equal, Greater}
use Rattle.std.specs.Ordering.{nat_cmp, ordering_then, is_eq}
use Rattle.std.proofs.lemmas.Cmp.{nat_cmp_total, tied_itself}
use Rattle.std.proofs.lemmas.List.Folds.{list_any-append}
use Rattle.std.proofs.lemmas.Map.Lookups.{exact_bytes, exact_unsigned}
use Rattle.just_lang_types.specs.declared.key.Key.{Key}
use Rattle.just_lang_types.specs.declared.key.Value.{Value}
use Rattle.just_lang_types.specs.declared.place.Place.{Place}
use Rattle.just_lang_types.specs.declared.recipe.Modulepath.{Modulepath}
use Rattle.just_eval_closure.specs.Hashes.{place_hash}
use Rattle.just_eval_closure.specs.Numbers.{text_cmp, texts_cmp, value_cmp, path_cmp, key_cmp, place_cmp, number_in, is_there, first_or, AreNumbered}
use Rattle.just_eval_closure.specs.Places.{place, is_place, is_listed, number_of, places_with}
use Rattle.just_lang_types.specs.Keys.{same_path}
use Rattle.just_eval_closure.proofs.Equal.{bytes_is, bytes_self, same_path_is, same_path_self}
use Rattle.just_eval_closure.proofs.Places.{at_last, is_place_is, is_place_self}

-- ---- orders

-- two orders one behind the other tie where both do
then_ties : (a b : Ordering) → ordering_then a b ≡ Equal → (a ≡ Equal) × (b ≡ Equal)
then_ties Less b h = absurd (let no : ⊥ = cc in no)
then_ties Equal b h = (refl, h)
then_ties Greater b h = absurd (let no : ⊥ = cc in no)

both_tie : (a b : Ordering) → a ≡ Equal → b ≡ Equal → ordering_then a b ≡ Equal
both_tie a b h g = ap (λ o. ordering_then o b) h ∙ g

less_equal : Less ≡ Equal → ⊥
less_equal h = let no : ⊥ = cc in no

greater_equal : Greater ≡ Equal → ⊥
greater_equal h = let no : ⊥ = cc in no

module _ {A : Type 0} (R : A → A → Ordering) (exact : (x y : A) → R x y ≡ Equal → x ≡ y) where
  -- lists that tie are equal
  lists_exact : (xs ys : List A) → slice_cmp R xs ys ≡ Equal → xs ≡ ys
  lists_exact [] [] h = refl
  lists_exact [] (y ∷ ys) h = absurd (less_equal h)
  lists_exact (x ∷ xs) [] h = absurd (greater_equal h)
  lists_exact (x ∷ xs) (y ∷ ys) h =
      let both = then_ties (R x y) (slice_cmp R xs ys) h in ap (λ z. z ∷ xs) (exact x y both.0) ∙ ap (λ zs. y ∷ zs) (lists_exact xs ys both.1)

module _ {A : Type 0} (R : A → A → Ordering) (itself : (x : A) → R x x ≡ Equal) where
  -- a list ties with itself
  lists_itself : (xs : List A) → slice_cmp R xs xs ≡ Equal
  lists_itself [] = refl
  lists_itself (x ∷ xs) = both_tie (R x x) (slice_cmp R xs xs) (itself x) (lists_itself xs)

number_itself : (n : ℕ) → nat_cmp n n ≡ Equal
number_itself n = tied_itself nat_cmp_total n

text_itself : (t : List ℕ) → text_cmp t t ≡ Equal
text_itself t = lists_itself nat_cmp number_itself t

texts_itself : (ts : List (List ℕ)) → texts_cmp ts ts ≡ Equal
texts_itself ts = lists_itself text_cmp text_itself ts

value_itself : (v : Value) → value_cmp v v ≡ Equal
value_itself v = texts_itself v.elements

round_itself : (r : Option ℕ) → option_cmp nat_cmp r r ≡ Equal
round_itself None = refl
round_itself (Some n) = number_itself n

-- a place ties with itself
place_itself : (x : Place) → place_cmp x x ≡ Equal
place_itself x =
    both_tie (option_cmp nat_cmp x.round x.round) (key_cmp x.key x.key) (round_itself x.round) (both_tie (path_cmp x.key.recipe x.key.recipe) (slice_cmp value_cmp x.key.arguments x.key.arguments) (texts_itself x.key.recipe.components) (lists_itself value_cmp value_itself x.key.arguments))

texts_exact : (a b : List (List ℕ)) → texts_cmp a b ≡ Equal → a ≡ b
texts_exact a b h = lists_exact text_cmp exact_bytes a b h

value_exact : (a b : Value) → value_cmp a b ≡ Equal → a ≡ b
value_exact a b h = ap (λ e. record { elements = e }) (texts_exact a.elements b.elements h)

path_exact : (a b : Modulepath) → path_cmp a b ≡ Equal → a ≡ b
path_exact a b h = ap (λ c. record { components = c }) (texts_exact a.components b.components h)

key_exact : (a b : Key) → key_cmp a b ≡ Equal → a ≡ b
key_exact a b h =
    let both = then_ties (path_cmp a.recipe b.recipe) (slice_cmp value_cmp a.arguments b.arguments) h in
    ap (λ r. record { recipe = r; arguments = a.arguments }) (path_exact a.recipe b.recipe both.0) ∙ ap (λ v. record { recipe = b.recipe; arguments = v }) (lists_exact value_cmp value_exact a.arguments b.arguments both.1)

round_exact : (a b : Option ℕ) → option_cmp nat_cmp a b ≡ Equal → a ≡ b
round_exact None None h = refl
round_exact None (Some m) h = absurd (less_equal h)
round_exact (Some n) None h = absurd (greater_equal h)
round_exact (Some n) (Some m) h = ap (λ k. Some k) (exact_unsigned n m h)

-- places that tie are equal
place_exact : (a b : Place) → place_cmp a b ≡ Equal → a ≡ b
place_exact a b h =
    let both = then_ties (option_cmp nat_cmp a.round b.round) (key_cmp a.key b.key) h in
    ap (λ r. place r a.key) (round_exact a.round b.round both.0) ∙ ap (λ k. place b.round k) (key_exact a.key b.key both.1)

pub is_equal : (o : Ordering) → is_eq o ≡ true → o ≡ Equal
is_equal Less h = absurd (let no : ⊥ = cc in no)
is_equal Equal h = refl
is_equal Greater h = absurd (let no : ⊥ = cc in no)

-- tests that imply each other give one answer
one_answer : (a b : Bool) → (a ≡ true → b ≡ true) → (b ≡ true → a ≡ true) → a ≡ b
one_answer true b f g = sym (f refl)
one_answer false true f g = g refl
one_answer false false f g = refl

-- the order ties exactly where a place is that of the other's key in its round
tie_is : (x y : Place) → is_at (place_cmp x) y ≡ is_place y.round y.key x
tie_is x y =
    one_answer (is_at (place_cmp x) y) (is_place y.round y.key x) (λ h. subst (λ z. is_place y.round y.key z ≡ true) (sym (place_exact x y (is_equal (place_cmp x y) h))) (is_place_self y.round y.key)) (λ h. subst (λ z. is_eq (place_cmp z y) ≡ true) (sym (is_place_is y.round y.key x h)) (ap (λ o. is_eq o) (place_itself y)))

-- ---- a register as it grows

-- no test holds and fails
apart : true ≡ false → ⊥
apart e = let no : ⊥ = cc in no

-- one more in front of a sum
shift : (a b : ℕ) → 1 + (a + b) ≡ suc a + b
shift a b = omega arith

-- one more is the next
one_up : (n : ℕ) → 1 + n ≡ suc n
one_up n = omega arith

-- where none of a list passes, the first place that may is behind it
len_append : {A : Type 0} (p : A → Bool) (xs : List A) (y : A) → list_any p xs ≡ false → position_or_len p (xs ++ y ∷ []) ≡ length xs + cond (p y) 0 1
len_append p [] y none = elim (p y) as (λ b. cond (not b) (1 + 0) 0 ≡ 0 + cond b 0 1) [ true ↦ refl | false ↦ refl ]
len_append p (x ∷ xs) y none =
    elim (p x) as (λ b. (b || list_any p xs) ≡ false → cond (not b) (1 + position_or_len p (xs ++ y ∷ [])) 0 ≡ suc (length xs) + cond (p y) 0 1) [
      | true ↦ λ h. absurd (apart h)
      | false ↦ λ h. ap (λ n. 1 + n) (len_append p xs y h) ∙ shift (length xs) (cond (p y) 0 1)
    ] none

-- where one of a list passes, what is behind it changes nothing
pub len_left : {A : Type 0} (p : A → Bool) (xs ys : List A) → list_any p xs ≡ true → position_or_len p (xs ++ ys) ≡ position_or_len p xs
len_left p [] ys some = absurd (apart (sym some))
len_left p (x ∷ xs) ys some =
    elim (p x) as (λ b. (b || list_any p xs) ≡ true → cond (not b) (1 + position_or_len p (xs ++ ys)) 0 ≡ cond (not b) (1 + position_or_len p xs) 0) [
      | true ↦ λ h. refl
      | false ↦ λ h. ap (λ n. 1 + n) (len_left p xs ys h)
    ] some

-- nothing more
nothing_more : (n : ℕ) → n + 0 ≡ n
nothing_more n = omega arith

-- whether a key is listed with a place more
pub listed_more : (list : List Place) (x : Place) (r : Option ℕ) (k : Key) (a b : Bool) → is_listed list r k ≡ a → is_place r k x ≡ b → is_listed (list ++ x ∷ []) r k ≡ (a || (b || false))
listed_more list x r k a b h g = list_any-append (is_place r k) list (x ∷ []) ∙ ap (λ c. c || (is_place r k x || false)) h ∙ ap (λ c. a || (c || false)) g

-- the number of a key that is listed, and of one that isn't
number_there : (list : List Place) (r : Option ℕ) (k : Key) → is_listed list r k ≡ true → number_in list r k ≡ Some (number_of list r k)
number_there list r k h = ap (λ b. if b then Some (number_of list r k) else None) h

number_absent : (list : List Place) (r : Option ℕ) (k : Key) → is_listed list r k ≡ false → number_in list r k ≡ None
number_absent list r k h = ap (λ b. if b then Some (number_of list r k) else None) h

-- what the number of a key in a round becomes as a place comes behind the list
grown_by : (list : List Place) (x : Place) (r : Option ℕ) (k : Key) (a b : Bool) → is_listed list r k ≡ a → is_place r k x ≡ b → (b ≡ true → a ≡ false) → number_in (list ++ x ∷ []) r k ≡ cond b (Some (length list)) (number_in list r k)
grown_by list x r k true true h g only = absurd (apart (only refl))
grown_by list x r k true false h g only =
    number_there (list ++ x ∷ []) r k (listed_more list x r k true false h g) ∙ ap (λ n. Some n) (len_left (is_place r k) list (x ∷ []) h) ∙ sym (number_there list r k h)
grown_by list x r k false true h g only =
    number_there (list ++ x ∷ []) r k (listed_more list x r k false true h g) ∙ ap (λ n. Some n) (len_append (is_place r k) list x h ∙ ap (λ c. length list + cond c 0 1) g ∙ nothing_more (length list))
grown_by list x r k false false h g only =
    number_absent (list ++ x ∷ []) r k (listed_more list x r k false false h g) ∙ sym (number_absent list r k h)

-- the same, as the place is new
grown_new : (list : List Place) (x q : Place) → is_listed list x.round x.key ≡ false → number_in (list ++ x ∷ []) q.round q.key ≡ cond (is_place q.round q.key x) (Some (length list)) (number_in list q.round q.key)
grown_new list x q new = grown_by list x q.round q.key _ _ refl refl (λ h. subst (λ y. is_listed list y.round y.key ≡ false) (is_place_is q.round q.key x h) new)

-- ---- by hashes

-- the order ties exactly where the other is that of the place's key in its round
there_is : (q x : Place) → is_eq (place_cmp q x) ≡ is_place q.round q.key x
there_is q x =
    one_answer (is_eq (place_cmp q x)) (is_place q.round q.key x) (λ h. subst (λ z. is_place q.round q.key z ≡ true) (place_exact q x (is_equal (place_cmp q x) h)) (is_place_self q.round q.key)) (λ h. subst (λ z. is_eq (place_cmp q z) ≡ true) (sym (is_place_is q.round q.key x h)) (ap (λ o. is_eq o) (place_itself q)))

-- a place that isn't the last one stands where it stood
there_more : (q x : Place) → is_place q.round q.key x ≡ false → (list : List Place) (n : ℕ) → is_there q (slice_get (list ++ x ∷ []) n) ≡ is_there q (slice_get list n)
there_more q x h [] zero = there_is q x ∙ h
there_more q x h [] (suc n) = refl
there_more q x h (y ∷ ys) zero = refl
there_more q x h (y ∷ ys) (suc n) = there_more q x h ys n

-- one that stands at a number where it didn't stand is the last one
there_last : (q x : Place) (list : List Place) (n : ℕ) → is_there q (slice_get list n) ≡ false → is_there q (slice_get (list ++ x ∷ []) n) ≡ true → n ≡ length list
there_last q x [] zero h g = refl
there_last q x [] (suc n) h g = absurd (apart (sym g))
there_last q x (y ∷ ys) zero h g = absurd (apart (sym g ∙ h))
there_last q x (y ∷ ys) (suc n) h g = ap (λ m. suc m) (there_last q x ys n h g)

-- the last one stands there
last_there : (q x : Place) (list : List Place) → is_there q (slice_get (list ++ x ∷ []) (length list)) ≡ is_place q.round q.key x
last_there q x list = ap (λ o. is_there q o) (at_last list x) ∙ there_is q x

-- another place leaves what its hash gives
first_more : (q x : Place) (list : List Place) (o other : Option ℕ) → is_place q.round q.key x ≡ false → first_or (list ++ x ∷ []) q o other ≡ first_or list q o other
first_more q x list None other h = refl
first_more q x list (Some n) other h = ap (λ b. if b then Some n else other) (there_more q x h list n)

-- a choice of a number isn't nothing
chosen : (b : Bool) (n : ℕ) (other : Option ℕ) → (if b then Some n else other) ≡ None → b ≡ false
chosen true n other h = absurd (let no : ⊥ = cc in no)
chosen false n other h = refl

choice : (b : Bool) (n m : ℕ) → (b ≡ true → n ≡ m) → (if b then Some n else Some m) ≡ Some m
choice true n m h = ap (λ k. Some k) (h refl)
choice false n m h = refl

-- what the hash of a new place gives, where its number is kept by itself
first_other : (q x : Place) (list : List Place) (o other : Option ℕ) → first_or list q o other ≡ None → first_or (list ++ x ∷ []) q o (Some (length list)) ≡ Some (length list)
first_other q x list None other h = refl
first_other q x list (Some n) other h =
    choice (is_there q (slice_get (list ++ x ∷ []) n)) n (length list) (λ g. there_last q x list n (chosen (is_there q (slice_get list n)) n other h) g)

-- a place whose number is kept by itself
other_by : (list : List Place) (firsts : BTreeMap ℕ ℕ) (m n : BTreeMap Place ℕ) (x : Place) → AreNumbered list firsts m → Updates place_cmp m n x (Some (length list)) → is_listed list x.round x.key ≡ false → AreNumbered (list ++ x ∷ []) firsts n
other_by list firsts m n x numbered updates new q =
    ap (λ o. first_or (list ++ x ∷ []) q (get nat_cmp firsts (place_hash q)) o) (updates.0 q ∙ ap (λ b. cond b (Some (length list)) (get place_cmp m q)) (tie_is x q)) ∙ pick (is_place q.round q.key x) refl ∙ sym (grown_new list x q new)
  where
    pick : (b : Bool) → is_place q.round q.key x ≡ b → first_or (list ++ x ∷ []) q (get nat_cmp firsts (place_hash q)) (cond b (Some (length list)) (get place_cmp m q)) ≡ cond (is_place q.round q.key x) (Some (length list)) (number_in list q.round q.key)
    pick true h =
        first_other q x list (get nat_cmp firsts (place_hash q)) (get place_cmp m q) (numbered q ∙ number_absent list q.round q.key (subst (λ y. is_listed list y.round y.key ≡ false) (is_place_is q.round q.key x h) new)) ∙ ap (λ b. cond b (Some (length list)) (number_in list q.round q.key)) (sym h)
    pick false h =
        first_more q x list (get nat_cmp firsts (place_hash q)) (get place_cmp m q) h ∙ numbered q ∙ ap (λ b. cond b (Some (length list)) (number_in list q.round q.key)) (sym h)

-- one whose number is kept by its hash, which is new
first_by : (list : List Place) (m n : BTreeMap ℕ ℕ) (others : BTreeMap Place ℕ) (x : Place) → AreNumbered list m others → get nat_cmp m (place_hash x) ≡ None → Updates nat_cmp m n (place_hash x) (Some (length list)) → is_listed list x.round x.key ≡ false → AreNumbered (list ++ x ∷ []) n others
first_by list m n others x numbered free updates new q =
    ap (λ o. first_or (list ++ x ∷ []) q o (get place_cmp others q)) (updates.0 (place_hash q)) ∙ pick (is_at (nat_cmp (place_hash x)) (place_hash q)) refl ∙ sym (grown_new list x q new)
  where
    last : (b : Bool) → is_place q.round q.key x ≡ b → get place_cmp others q ≡ number_in list q.round q.key → (if b then Some (length list) else get place_cmp others q) ≡ cond (is_place q.round q.key x) (Some (length list)) (number_in list q.round q.key)
    last true h is = ap (λ b. cond b (Some (length list)) (number_in list q.round q.key)) (sym h)
    last false h is = is ∙ ap (λ b. cond b (Some (length list)) (number_in list q.round q.key)) (sym h)

    differ : (b : Bool) → is_place q.round q.key x ≡ b → is_at (nat_cmp (place_hash x)) (place_hash q) ≡ false → is_place q.round q.key x ≡ false
    differ true h e =
        let same : x ≡ q = is_place_is q.round q.key x h in
        absurd (apart (sym (ap (λ o. is_eq o) (number_itself (place_hash x))) ∙ ap (λ y. is_eq (nat_cmp (place_hash x) (place_hash y))) same ∙ e))
    differ false h e = h

    pick : (b : Bool) → is_at (nat_cmp (place_hash x)) (place_hash q) ≡ b → first_or (list ++ x ∷ []) q (cond b (Some (length list)) (get nat_cmp m (place_hash q))) (get place_cmp others q) ≡ cond (is_place q.round q.key x) (Some (length list)) (number_in list q.round q.key)
    pick true e =
        let hashes : place_hash x ≡ place_hash q = exact_unsigned (place_hash x) (place_hash q) (is_equal (nat_cmp (place_hash x) (place_hash q)) e) in
        let is : get place_cmp others q ≡ number_in list q.round q.key = sym (ap (λ o. first_or list q o (get place_cmp others q)) (sym (ap (λ k. get nat_cmp m k) hashes) ∙ free)) ∙ numbered q in
        ap (λ b. if b then Some (length list) else get place_cmp others q) (last_there q x list) ∙ last (is_place q.round q.key x) refl is
    pick false e =
        let no = differ (is_place q.round q.key x) refl e in
        first_more q x list (get nat_cmp m (place_hash q)) (get place_cmp others q) no ∙ numbered q ∙ ap (λ b. cond b (Some (length list)) (number_in list q.round q.key)) (sym no)

-- maps without entries are those of the empty list
pub numbered_none : (firsts : BTreeMap ℕ ℕ) (others : BTreeMap Place ℕ) → firsts.entries ≡ [] → others.entries ≡ [] → AreNumbered [] firsts others
numbered_none firsts others none nothing x =
    ap (λ es. first_or [] x (lookup (is_at (nat_cmp (place_hash x))) es) (get place_cmp others x)) none ∙ ap (λ es. lookup (is_at (place_cmp x)) es) nothing

-- what a choice of a number says of its test
found_by : (b : Bool) (n : ℕ) → is_some (if b then Some n else None) ≡ true → b ≡ true
found_by true n h = refl
found_by false n h = absurd (let no : ⊥ = cc in no)

absent_by : (b : Bool) (n : ℕ) → is_some (if b then Some n else None) ≡ false → b ≡ false
absent_by true n h = absurd (let no : ⊥ = cc in no)
absent_by false n h = refl

-- a place that has a number is listed
pub found_listed : (list : List Place) (r : Option ℕ) (k : Key) → is_some (number_in list r k) ≡ true → is_listed list r k ≡ true
found_listed list r k h = found_by (is_listed list r k) (number_of list r k) h

-- a place that has none isn't
pub absent_unlisted : (list : List Place) (r : Option ℕ) (k : Key) → is_some (number_in list r k) ≡ false → is_listed list r k ≡ false
absent_unlisted list r k h = absent_by (is_listed list r k) (number_of list r k) h

-- what a choice of a number says of the number
number_by : (b : Bool) (m n : ℕ) → (if b then Some m else None) ≡ Some n → n ≡ m
number_by true m n h = let same : m ≡ n = cc in sym same
number_by false m n h = absurd (let no : ⊥ = cc in no)

test_by : (b : Bool) (m n : ℕ) → (if b then Some m else None) ≡ Some n → b ≡ true
test_by true m n h = refl
test_by false m n h = absurd (let no : ⊥ = cc in no)

none_by : (b : Bool) (m : ℕ) → (if b then Some m else None) ≡ None → b ≡ false
none_by true m h = absurd (let no : ⊥ = cc in no)
none_by false m h = refl

-- where none of a list passes, the place is its length
len_absent : {A : Type 0} (p : A → Bool) (xs : List A) → list_any p xs ≡ false → position_or_len p xs ≡ length xs
len_absent p [] none = refl
len_absent p (x ∷ xs) none =
    elim (p x) as (λ b. (b || list_any p xs) ≡ false → cond (not b) (1 + position_or_len p xs) 0 ≡ suc (length xs)) [
      | true ↦ λ h. absurd (apart h)
      | false ↦ λ h. ap (λ n. 1 + n) (len_absent p xs h) ∙ one_up (length xs)
    ] none

-- the number that is found is that of the key in the round
pub found_number : (list : List Place) (r : Option ℕ) (k : Key) (n : ℕ) → number_in list r k ≡ Some n → n ≡ number_of list r k
found_number list r k n h = number_by (is_listed list r k) (number_of list r k) n h

-- where none is found it is the number of places
pub absent_number : (list : List Place) (r : Option ℕ) (k : Key) → number_in list r k ≡ None → number_of list r k ≡ length list
absent_number list r k h = len_absent (is_place r k) list (none_by (is_listed list r k) (number_of list r k) h)

-- a key that has a number adds no place, any other adds one
pub found_places : (list : List Place) (r : Option ℕ) (k : Key) (n : ℕ) → number_in list r k ≡ Some n → places_with list r k ≡ list
found_places list r k n h = ap (λ b. if b then list else list ++ place r k ∷ []) (test_by (is_listed list r k) (number_of list r k) n h)

pub absent_places : (list : List Place) (r : Option ℕ) (k : Key) → number_in list r k ≡ None → places_with list r k ≡ list ++ place r k ∷ []
absent_places list r k h = ap (λ b. if b then list else list ++ place r k ∷ []) (none_by (is_listed list r k) (number_of list r k) h)

-- a key without a number isn't listed
pub none_unlisted : (list : List Place) (r : Option ℕ) (k : Key) → number_in list r k ≡ None → is_listed list r k ≡ false
none_unlisted list r k h = none_by (is_listed list r k) (number_of list r k) h

-- the order of paths ties exactly where they are the same
pub path_tie : (a b : Modulepath) → is_at (path_cmp a) b ≡ same_path a b
path_tie a b =
    one_answer (is_at (path_cmp a) b) (same_path a b) (λ h. subst (λ c. same_path a c ≡ true) (path_exact a b (is_equal (path_cmp a b) h)) (same_path_self a)) (λ h. subst (λ c. is_eq (path_cmp a c) ≡ true) (same_path_is a b h) (ap (λ o. is_eq o) (texts_itself a.components)))

-- where the key that is entered is a copy
pub numbered_other : (list new : List Place) (firsts : BTreeMap ℕ ℕ) (m n : BTreeMap Place ℕ) (x : Place) (copy : Key) (k : ℕ) → AreNumbered list firsts m → Updates place_cmp m n (record { round = x.round; key = copy }) (Some k) → copy ≡ x.key → k ≡ length list → new ≡ list ++ x ∷ [] → is_listed list x.round x.key ≡ false → AreNumbered new firsts n
numbered_other list new firsts m n x copy k numbered updates same number is fresh =
    let entered : Updates place_cmp m n (record { round = x.round; key = x.key }) (Some (length list)) = subst (λ j. Updates place_cmp m n (record { round = x.round; key = x.key }) (Some j)) number (subst (λ c. Updates place_cmp m n (record { round = x.round; key = c }) (Some k)) same updates) in
    subst (λ l. AreNumbered l firsts n) (sym is) (other_by list firsts m n x numbered entered fresh)

-- where its hash is new
pub numbered_first : (list new : List Place) (m n : BTreeMap ℕ ℕ) (others : BTreeMap Place ℕ) (x : Place) (hash k : ℕ) → AreNumbered list m others → hash ≡ place_hash x → is_some (get nat_cmp m hash) ≡ false → Updates nat_cmp m n hash (Some k) → k ≡ length list → new ≡ list ++ x ∷ [] → is_listed list x.round x.key ≡ false → AreNumbered new n others
numbered_first list new m n others x hash k numbered same free updates number is fresh =
    let entered : Updates nat_cmp m n (place_hash x) (Some (length list)) = subst (λ j. Updates nat_cmp m n (place_hash x) (Some j)) number (subst (λ j. Updates nat_cmp m n j (Some k)) same updates) in
    subst (λ l. AreNumbered l n others) (sym is) (first_by list m n others x numbered (nothing_at (get nat_cmp m (place_hash x)) (subst (λ j. is_some (get nat_cmp m j) ≡ false) same free)) entered fresh)
  where
    nothing_at : (o : Option ℕ) → is_some o ≡ false → o ≡ None
    nothing_at None h = refl
    nothing_at (Some j) h = absurd (apart h)

-- the order of texts ties exactly where they are equal
pub text_tie : (a b : List ℕ) → is_at (text_cmp a) b ≡ bytes_eq a b
text_tie a b =
    one_answer (is_at (text_cmp a) b) (bytes_eq a b) (λ h. subst (λ c. bytes_eq a c ≡ true) (exact_bytes a b (is_equal (text_cmp a b) h)) (bytes_self a)) (λ h. subst (λ c. is_eq (text_cmp a c) ≡ true) (bytes_is a b h) (ap (λ o. is_eq o) (text_itself a)))
