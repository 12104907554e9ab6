-- The numbers of assignments by their names.
use Rattle.std.proofs.Common.{◌≡◌, ℕ, suc, ◌+◌, ◌<◌, ◌≤◌, Bool, true, false, cond, List, ◌∷◌, length, get_or, drop, drop-cons, Option, Some, None, is_some, bytes_eq, refl, sym, ap, ◌∙◌, subst, arith}
use Rattle.std.specs.Prelude.{if◌then◌else◌}
use Rattle.std.specs.BTreeMap.{BTreeMap, get, Updates}
use Rattle.std.proofs.lemmas.List.{drop_all}
use Rattle.just_path_text.specs.Environ.{or_else}
use Rattle.just_lang_types.specs.declared.scope.Assignment.{Assignment}
use Rattle.just_eval_closure.specs.Numbers.{text_cmp}
use Rattle.just_eval_closure.proofs.Equal.{bytes_is}
use Rattle.just_eval_closure.proofs.Numbered.{text_tie}
use Rattle.just_eval.specs.Numbers.{AreNumbers, Enters}
use Rattle.just_eval.specs.Uses.{named_from, named}

-- the number of each name is in the map, or among the assignments from the place n on
abbrev pub Indexes : List Assignment → ℕ → BTreeMap (List ℕ) ℕ → Type 0
Indexes all n numbers = (name : List ℕ) → or_else (get text_cmp numbers name) (named_from n (drop n all) name) ≡ named all name

or_none : (o : Option ℕ) → or_else o None ≡ o
or_none None = refl
or_none (Some n) = refl

or_moved : (a b c : Option ℕ) → or_else (or_else a b) c ≡ or_else a (or_else b c)
or_moved None b c = refl
or_moved (Some x) b c = refl

module _ (all : List Assignment) (n : ℕ) (a : Assignment) (lt : n < length all) (is : a ≡ get_or all n a) where
  here : drop n all ≡ a ∷ drop (suc n) all
  here = drop-cons all n a lt ∙ ap (λ z. z ∷ drop (suc n) all) (sym is)

  one : n + 1 ≡ suc n
  one = omega arith

  has : (name : List ℕ) → bytes_eq a.name name ≡ true → named_from n (drop n all) name ≡ Some n
  has name h = ap (λ bs. named_from n bs name) here ∙ ap (λ b. if b then Some n else named_from (suc n) (drop (suc n) all) name) h

  lacks : (name : List ℕ) → bytes_eq a.name name ≡ false → named_from n (drop n all) name ≡ named_from (n + 1) (drop (n + 1) all) name
  lacks name h = ap (λ bs. named_from n bs name) here ∙ ap (λ b. if b then Some n else named_from (suc n) (drop (suc n) all) name) h ∙ sym (ap (λ k. named_from k (drop k all) name) one)

  -- a name more
  pub one_entered : (m i : BTreeMap (List ℕ) ℕ) → Enters m a.name n i → Indexes all n m → Indexes all (n + 1) i
  one_entered m i enters before q = pick (bytes_eq a.name q) refl
    where
      pick : (b : Bool) → bytes_eq a.name q ≡ b → or_else (get text_cmp i q) (named_from (n + 1) (drop (n + 1) all) q) ≡ named all q
      pick true h =
          ap (λ o. or_else o (named_from (n + 1) (drop (n + 1) all) q)) (enters q ∙ ap (λ b. or_else (get text_cmp m q) (if b then Some n else None)) h) ∙ or_moved (get text_cmp m q) (Some n) (named_from (n + 1) (drop (n + 1) all) q)
          ∙ ap (λ o. or_else (get text_cmp m q) o) (sym (has q h)) ∙ before q
      pick false h =
          ap (λ o. or_else o (named_from (n + 1) (drop (n + 1) all) q)) (enters q ∙ ap (λ b. or_else (get text_cmp m q) (if b then Some n else None)) h) ∙ or_moved (get text_cmp m q) None (named_from (n + 1) (drop (n + 1) all) q)
          ∙ ap (λ o. or_else (get text_cmp m q) o) (sym (lacks q h)) ∙ before q

-- a name that is new
pub entered_new : (m i : BTreeMap (List ℕ) ℕ) (name : List ℕ) (n : ℕ) (copy : List ℕ) → copy ≡ name → get text_cmp m name ≡ None → Updates text_cmp m i copy (Some n) → Enters m name n i
entered_new m i name n copy same new updates q =
    updates.0 q ∙ ap (λ b. cond b (Some n) (get text_cmp m q)) (text_tie copy q ∙ ap (λ c. bytes_eq c q) same) ∙ pick (bytes_eq name q) refl
  where
    pick : (b : Bool) → bytes_eq name q ≡ b → cond (bytes_eq name q) (Some n) (get text_cmp m q) ≡ or_else (get text_cmp m q) (if bytes_eq name q then Some n else None)
    pick true h =
        ap (λ b. cond b (Some n) (get text_cmp m q)) h ∙ ap (λ o. or_else o (Some n)) (sym (subst (λ z. get text_cmp m z ≡ None) (bytes_is name q h) new)) ∙ ap (λ b. or_else (get text_cmp m q) (if b then Some n else None)) (sym h)
    pick false h = ap (λ b. cond b (Some n) (get text_cmp m q)) h ∙ sym (or_none (get text_cmp m q)) ∙ ap (λ b. or_else (get text_cmp m q) (if b then Some n else None)) (sym h)

first_stays : (o more : Option ℕ) → is_some o ≡ true → o ≡ or_else o more
first_stays None more h = absurd (let no : ⊥ = cc in no)
first_stays (Some x) more h = refl

-- one that is there
pub entered_again : (m : BTreeMap (List ℕ) ℕ) (name : List ℕ) (n : ℕ) → is_some (get text_cmp m name) ≡ true → Enters m name n m
entered_again m name n old q = pick (bytes_eq name q) refl
  where
    pick : (b : Bool) → bytes_eq name q ≡ b → get text_cmp m q ≡ or_else (get text_cmp m q) (if bytes_eq name q then Some n else None)
    pick true h = first_stays (get text_cmp m q) (if bytes_eq name q then Some n else None) (subst (λ z. is_some (get text_cmp m z) ≡ true) (bytes_is name q h) old)
    pick false h = sym (ap (λ b. or_else (get text_cmp m q) (if b then Some n else None)) h ∙ or_none (get text_cmp m q))

-- what isn't some is none
pub none_of : (o : Option ℕ) → is_some o ≡ false → o ≡ None
none_of None h = refl
none_of (Some x) h = absurd (let no : ⊥ = cc in no)

pub all_numbered : (all : List Assignment) (n : ℕ) (numbers : BTreeMap (List ℕ) ℕ) → length all ≤ n → Indexes all n numbers → AreNumbers all numbers
all_numbered all n numbers le indexes name = sym (ap (λ bs. or_else (get text_cmp numbers name) (named_from n bs name)) (drop_all n all le) ∙ or_none (get text_cmp numbers name)) ∙ indexes name
