-- Lists of items, one more at a time.
use Rattle.std.proofs.Common.{◌≡◌, ℕ, suc, ◌+◌, ◌<◌, Bool, true, false, List, [], ◌∷◌, ◌++◌, map, length, take, drop, get_or, ◌||◌, cond, refl, sym, ap, ◌∙◌, add-one, append_assoc}
use Rattle.std.specs.Prelude.{filter}
use Rattle.std.specs.List.{list_any}
use Rattle.std.proofs.lemmas.List.{take_more}
use Rattle.std.proofs.Math.Seq.{drop-cons}
use Rattle.just_lang_syntax.specs.declared.ast.AstItem.{AstItem}
use Rattle.just_lang_spots.specs.declared.entries.Entry.{Entry}
use Rattle.just_lang_spots.specs.Entries.{entry, entries}

-- one more behind some, in front of others
pub map_more : {A B : Type 0} (f : A → B) (xs : List A) (x : A) (ys : List B) → map f (xs ++ x ∷ []) ++ ys ≡ map f xs ++ (f x ∷ ys)
map_more f [] x ys = refl
map_more f (y ∷ xs) x ys = ap (λ k. f y ∷ k) (map_more f xs x ys)

pub entries_more : (xs : List Entry) (x : Entry) (ys : List (ℕ × AstItem)) → entries (xs ++ x ∷ []) ++ ys ≡ entries xs ++ (entry x ∷ ys)
entries_more xs x ys = map_more entry xs x ys

-- the one at a place stands in front of those behind it
pub drop_here : {A : Type 0} (xs : List A) (i : ℕ) (x : A) → i < length xs → x ≡ get_or xs i x → drop i xs ≡ x ∷ drop (i + 1) xs
drop_here xs i x h e = rw add-one (drop-cons xs i x h ∙ ap (λ y. y ∷ drop (suc i) xs) (sym e))

pub take_here : {A : Type 0} (xs : List A) (i : ℕ) (x : A) → i < length xs → x ≡ get_or xs i x → take (i + 1) xs ≡ take i xs ++ x ∷ []
take_here xs i x h e = take_more xs i x h ∙ ap (λ y. take i xs ++ y ∷ []) (sym e)

pub map_end : {A B : Type 0} (f : A → B) (xs : List A) (x : A) → map f (xs ++ x ∷ []) ≡ map f xs ++ f x ∷ []
map_end f [] x = refl
map_end f (y ∷ xs) x = ap (λ k. f y ∷ k) (map_end f xs x)

-- the items up to a place and at it
pub entries_take : (xs : List Entry) (i : ℕ) (x : Entry) → i < length xs → x ≡ get_or xs i x → entries (take (i + 1) xs) ≡ entries (take i xs) ++ entry x ∷ []
entries_take xs i x h e = ap entries (take_here xs i x h e) ∙ map_end entry (take i xs) x

-- the items from a place on
pub entries_drop : (xs : List Entry) (i : ℕ) (x : Entry) → i < length xs → x ≡ get_or xs i x → entries (drop i xs) ≡ entry x ∷ entries (drop (i + 1) xs)
entries_drop xs i x h e = ap entries (drop_here xs i x h e)

pub entries_end : (xs : List Entry) (x : Entry) → entries (xs ++ x ∷ []) ≡ entries xs ++ entry x ∷ []
entries_end xs x = map_end entry xs x

-- of a list one of whose tests holds or not
if_front : {A : Type 0} (b : Bool) (x : A) (xs : List A) → cond b (x ∷ []) [] ++ xs ≡ cond b (x ∷ xs) xs
if_front true x xs = refl
if_front false x xs = refl

-- one more of those that pass the test: what is kept, and what is still to come
pub kept_step : (test : Bool) (old new : List Entry) (x : Entry) (rest more : List (ℕ × AstItem)) → entries new ≡ entries old ++ cond test (entry x ∷ []) []
    → more ≡ cond test (entry x ∷ rest) rest → entries new ++ rest ≡ entries old ++ more
kept_step test old new x rest more h e =
    ap (λ ys. ys ++ rest) h ∙ append_assoc (entries old) (cond test (entry x ∷ []) []) rest ∙ ap (λ ys. entries old ++ ys) (if_front test (entry x) rest ∙ sym e)

-- the same by what the test told of the one there
pub kept_where : (p : ℕ × AstItem → Bool) (items : List Entry) (i : ℕ) (x : Entry) (test : Bool) (old new : List Entry) (all : List (ℕ × AstItem)) → i < length items → x ≡ get_or items i x
    → test ≡ p (entry x) → entries new ≡ entries old ++ cond test (entry x ∷ []) [] → entries old ++ filter p (entries (drop i items)) ≡ all → entries new ++ filter p (entries (drop (i + 1) items)) ≡ all
kept_where p items i x test old new all lt is told more same =
    let rest = filter p (entries (drop (i + 1) items)) in
    kept_step test old new x rest (filter p (entries (drop i items))) more (ap (filter p) (entries_drop items i x lt is) ∙ ap (λ b. cond b (entry x ∷ rest) rest) (sym told)) ∙ same

-- a test of one at least from a place on
pub any_here : {A : Type 0} (f : A → Bool) (xs : List A) (i : ℕ) (d : A) → i < length xs → list_any f (drop i xs) ≡ (f (get_or xs i d) || list_any f (drop (i + 1) xs))
any_here f xs i d h = ap (list_any f) (drop-cons xs i d h) ∙ ap (λ n. f (get_or xs i d) || list_any f (drop n xs)) (sym (add-one i))

pub any_found : {A : Type 0} (f : A → Bool) (xs : List A) (i : ℕ) (d : A) (r : Bool) → i < length xs → r ≡ f (get_or xs i d) → r ≡ true → list_any f (drop i xs) ≡ list_any f xs → true ≡ list_any f xs
any_found f xs i d r h e t k = ap (λ b. b || list_any f (drop (i + 1) xs)) (sym t ∙ e) ∙ sym (any_here f xs i d h) ∙ k

pub any_passed : {A : Type 0} (f : A → Bool) (xs : List A) (i : ℕ) (d : A) (r : Bool) → i < length xs → r ≡ f (get_or xs i d) → r ≡ false → list_any f (drop i xs) ≡ list_any f xs
    → list_any f (drop (i + 1) xs) ≡ list_any f xs
any_passed f xs i d r h e n k = ap (λ b. b || list_any f (drop (i + 1) xs)) (sym n ∙ e) ∙ sym (any_here f xs i d h) ∙ k
