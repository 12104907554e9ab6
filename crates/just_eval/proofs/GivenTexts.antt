-- What the command line gives to the variables of a module, override after override.
use Rattle.std.proofs.Common.{◌≡◌, ℕ, suc, ◌+◌, ◌<◌, ◌≤◌, Bool, true, false, ◌&&◌, cond, List, [], ◌∷◌, length, get_or, drop, drop-cons, Option, Some, None, bytes_eq, refl, sym, ap, ◌∙◌, arith}
use Rattle.std.specs.BTreeMap.{BTreeMap, get, Updates, is_at}
use Rattle.std.specs.Map.{lookup}
use Rattle.std.proofs.lemmas.List.{drop_all}
use Rattle.just_path_text.specs.Environ.{or_else}
use Rattle.just_lang_types.specs.declared.recipe.Modulepath.{Modulepath}
use Rattle.just_lang_types.specs.declared.scope.Override.{Override}
use Rattle.just_lang_types.specs.Keys.{same_path}
use Rattle.just_eval_closure.specs.Numbers.{text_cmp}
use Rattle.just_eval_closure.proofs.Numbered.{text_tie}
use Rattle.just_eval.specs.Overrides.{override_in, override_of, Keeps, AreGiven}

-- what is given is given by those from the place n on, or is in the map
abbrev pub IsGivenFrom : List Override → Modulepath → ℕ → BTreeMap (List ℕ) (List ℕ) → Type 0
IsGivenFrom all path n given = (name : List ℕ) → or_else (override_of (drop n all) path name) (get text_cmp given name) ≡ override_of all path name

or_moved : (a b c : Option (List ℕ)) → or_else a (or_else b c) ≡ or_else (or_else a b) c
or_moved None b c = refl
or_moved (Some x) b c = refl

or_none : (a : Option (List ℕ)) → or_else a None ≡ a
or_none None = refl
or_none (Some x) = refl

chosen : (o : Override) (b : Bool) (g : Option (List ℕ)) → cond b (Some o.value) g ≡ or_else (override_in o b) g
chosen o true g = refl
chosen o false g = refl

-- nothing is in the map at first
pub given_none : (all : List Override) (path : Modulepath) (given : BTreeMap (List ℕ) (List ℕ)) → given.entries ≡ [] → IsGivenFrom all path 0 given
given_none all path given none name = ap (λ es. or_else (override_of all path name) (lookup (is_at (text_cmp name)) es)) none ∙ or_none (override_of all path name)

-- in the end all is
pub given_all : (all : List Override) (path : Modulepath) (n : ℕ) (given : BTreeMap (List ℕ) (List ℕ)) → length all ≤ n → IsGivenFrom all path n given → AreGiven all path given
given_all all path n given le from name = sym (ap (λ os. or_else (override_of os path name) (get text_cmp given name)) (drop_all n all le)) ∙ from name

module _ (all : List Override) (path : Modulepath) (n : ℕ) (o : Override) (lt : n < length all) (is : o ≡ get_or all n o) where
  here : drop n all ≡ o ∷ drop (suc n) all
  here = drop-cons all n o lt ∙ ap (λ z. z ∷ drop (suc n) all) (sym is)

  one : n + 1 ≡ suc n
  one = omega arith

  -- what an override gives is in the map
  pub given_more : (m i : BTreeMap (List ℕ) (List ℕ)) → Keeps o path m i → IsGivenFrom all path n m → IsGivenFrom all path (n + 1) i
  given_more m i keeps before name =
      ap (λ k. or_else (override_of (drop k all) path name) (get text_cmp i name)) one ∙ ap (λ g. or_else (override_of (drop (suc n) all) path name) g) (keeps name)
      ∙ or_moved (override_of (drop (suc n) all) path name) (override_in o (same_path o.module path && bytes_eq o.name name)) (get text_cmp m name)
      ∙ sym (ap (λ os. or_else (override_of os path name) (get text_cmp m name)) here) ∙ before name

-- an override of the module
pub kept_given : (o : Override) (path : Modulepath) (m i : BTreeMap (List ℕ) (List ℕ)) → same_path o.module path ≡ true → Updates text_cmp m i o.name (Some o.value) → Keeps o path m i
kept_given o path m i ours updates name =
    updates.0 name ∙ ap (λ b. cond b (Some o.value) (get text_cmp m name)) (text_tie o.name name)
    ∙ chosen o (bytes_eq o.name name) (get text_cmp m name) ∙ sym (ap (λ b. or_else (override_in o (b && bytes_eq o.name name)) (get text_cmp m name)) ours)

-- one of another module
pub passed_given : (o : Override) (path : Modulepath) (m : BTreeMap (List ℕ) (List ℕ)) → same_path o.module path ≡ false → Keeps o path m m
passed_given o path m other name = sym (ap (λ b. or_else (override_in o (b && bytes_eq o.name name)) (get text_cmp m name)) other)
