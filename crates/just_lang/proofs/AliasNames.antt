-- The aliases of a module have names of their own.
use Rattle.std.proofs.Common.{◌≢◌, ℕ, List, [], ◌∷◌, ◌++◌, map, append_assoc, sym, subst}
use Rattle.std.specs.Prelude.{Some, None, filter_map}
use Rattle.std.specs.List.{AllByRecursion, cons_option}
use Rattle.std.specs.Option.{option_and_then}
use Rattle.just_lang_syntax.specs.declared.ast.AstItem.{AstItem}
use Rattle.just_lang_syntax.specs.declared.ast.AstItem.TheVariants as item
use Rattle.just_lang_types.specs.declared.scope.Alias.{Alias}
use Rattle.just_lang_types.specs.declared.scope.Disabled.{Disabled}
use Rattle.just_lang_rulebook.specs.DuplicateSpots.{alias_name}
use Rattle.just_lang_justfile.specs.declared.linker.AliasTarget.{AliasTarget}
use Rattle.just_lang_justfile.specs.declared.linker.AliasTarget.TheVariants as target
use Rattle.just_lang_justfile.specs.Aliases.{recipe_alias, module_alias, recipe_aliases_of, module_aliases_of, disabled_aliases_of}
use Rattle.just_lang_justfile.specs.Links.{Links}
use Rattle.just_lang_justfile.specs.Recipes.{if_empty, disabled_for}
use Rattle.just_lang.proofs.Found.{AreNamed}
use Rattle.just_lang.proofs.Parameters.{first_names}

-- ---- one more name in a list

all_insert : (P : List ℕ → Type 0) (xs : List (List ℕ)) (n : List ℕ) (ys : List (List ℕ)) → P n → AllByRecursion P (xs ++ ys) → AllByRecursion P (xs ++ n ∷ ys)
all_insert P [] n ys p h = (p, h)
all_insert P (x ∷ xs) n ys p h = (h.0, all_insert P xs n ys p h.1)

named_insert : (xs : List (List ℕ)) (n : List ℕ) (ys : List (List ℕ)) → AllByRecursion (λ (y : List ℕ). y ≢ n) (xs ++ ys) → AreNamed (xs ++ ys) → AreNamed (xs ++ n ∷ ys)
named_insert [] n ys far h = (far, h)
named_insert (x ∷ xs) n ys far h = (all_insert (λ (y : List ℕ). y ≢ x) xs n ys (λ e. far.0 (sym e)) h.0, named_insert xs n ys far.1 h.1)

-- the same in the last of three lists
all_last : (P : List ℕ → Type 0) (xs ys : List (List ℕ)) (n : List ℕ) (zs : List (List ℕ)) → P n → AllByRecursion P (xs ++ (ys ++ zs)) → AllByRecursion P (xs ++ (ys ++ n ∷ zs))
all_last P xs ys n zs p h = subst (AllByRecursion P) (append_assoc xs ys (n ∷ zs)) (all_insert P (xs ++ ys) n zs p (subst (AllByRecursion P) (sym (append_assoc xs ys zs)) h))

named_last : (xs ys : List (List ℕ)) (n : List ℕ) (zs : List (List ℕ)) → AllByRecursion (λ (y : List ℕ). y ≢ n) (xs ++ (ys ++ zs)) → AreNamed (xs ++ (ys ++ zs)) → AreNamed (xs ++ (ys ++ n ∷ zs))
named_last xs ys n zs far h =
    subst AreNamed (append_assoc xs ys (n ∷ zs))
    (named_insert (xs ++ ys) n zs (subst (AllByRecursion (λ (y : List ℕ). y ≢ n)) (sym (append_assoc xs ys zs)) far) (subst AreNamed (sym (append_assoc xs ys zs)) h))

-- ---- the aliases of a module

abbrev pub names : List Alias → List (List ℕ)
names xs = map (λ (a : Alias). a.name) xs

abbrev pub disabled_names : List Disabled → List (List ℕ)
disabled_names xs = map (λ (d : Disabled). d.name) xs

-- the names of aliases of recipes, of modules, and of those that can't be run
abbrev pub names_of_all : List Alias → List Alias → List Disabled → List (List ℕ)
names_of_all recipes modules disabled = names recipes ++ (names modules ++ disabled_names disabled)

-- those with one alias more, by the modules for which it can't be run and by its target
abbrev pub with_one : List ℕ → List (List ℕ) → AliasTarget → List Alias → List Alias → List Disabled → List (List ℕ)
with_one name absent t recipes modules disabled =
    names_of_all (cons_option (option_and_then (recipe_alias name) (if_empty absent (Some t) None)) recipes) (cons_option (option_and_then (module_alias name) (if_empty absent (Some t) None)) modules)
    (cons_option (disabled_for name absent) disabled)

one_among : (P : List ℕ → Type 0) (name : List ℕ) (absent : List (List ℕ)) (t : AliasTarget) (recipes modules : List Alias) (disabled : List Disabled)
    → P name → AllByRecursion P (names_of_all recipes modules disabled) → AllByRecursion P (with_one name absent t recipes modules disabled)
one_among P name [] (target.Recipe p) recipes modules disabled is h = (is, h)
one_among P name [] (target.Module p) recipes modules disabled is h = all_insert P (names recipes) name (names modules ++ disabled_names disabled) is h
one_among P name [] target.Nothing recipes modules disabled is h = h
one_among P name (m ∷ ms) t recipes modules disabled is h = all_last P (names recipes) (names modules) name (disabled_names disabled) is h

one_named : (name : List ℕ) (absent : List (List ℕ)) (t : AliasTarget) (recipes modules : List Alias) (disabled : List Disabled)
    → AllByRecursion (λ (y : List ℕ). y ≢ name) (names_of_all recipes modules disabled) → AreNamed (names_of_all recipes modules disabled) → AreNamed (with_one name absent t recipes modules disabled)
one_named name [] (target.Recipe p) recipes modules disabled far h = (far, h)
one_named name [] (target.Module p) recipes modules disabled far h = named_insert (names recipes) name (names modules ++ disabled_names disabled) far h
one_named name [] target.Nothing recipes modules disabled far h = h
one_named name (m ∷ ms) t recipes modules disabled far h = named_last (names recipes) (names modules) name (disabled_names disabled) far h

-- the names that the aliases among some items give
abbrev pub given : List (ℕ × AstItem) → List (List ℕ)
given xs = first_names (filter_map (λ (x : ℕ × AstItem). alias_name x.0 x.1) xs)

module _ (links : Links) (number : ℕ) where
  -- those of the aliases that they make
  abbrev pub made : List (ℕ × AstItem) → List (List ℕ)
  made xs = names_of_all (recipe_aliases_of links number xs) (module_aliases_of links number xs) (disabled_aliases_of links number xs)

  all_made : (P : List ℕ → Type 0) (xs : List (ℕ × AstItem)) → AllByRecursion P (given xs) → AllByRecursion P (made xs)
  all_made P [] h = tt
  all_made P ((n, item.Alias name path comment) ∷ xs) h =
      one_among P name.text (links.modules_of_alias number path) (links.alias_target number path) (recipe_aliases_of links number xs) (module_aliases_of links number xs) (disabled_aliases_of links number xs)
      h.0 (all_made P xs h.1)
  all_made P ((n, item.Recipe r) ∷ xs) h = all_made P xs h
  all_made P ((n, item.Blank) ∷ xs) h = all_made P xs h
  all_made P ((n, item.Comment text) ∷ xs) h = all_made P xs h
  all_made P ((n, item.Import optional path comment) ∷ xs) h = all_made P xs h
  all_made P ((n, item.Module attributes optional name path comment) ∷ xs) h = all_made P xs h
  all_made P ((n, item.Assignment export name value comment) ∷ xs) h = all_made P xs h
  all_made P ((n, item.Unexport name comment) ∷ xs) h = all_made P xs h
  all_made P ((n, item.Setting name value comment) ∷ xs) h = all_made P xs h

  pub made_named : (xs : List (ℕ × AstItem)) → AreNamed (given xs) → AreNamed (made xs)
  made_named [] h = tt
  made_named ((n, item.Alias name path comment) ∷ xs) h =
      one_named name.text (links.modules_of_alias number path) (links.alias_target number path) (recipe_aliases_of links number xs) (module_aliases_of links number xs) (disabled_aliases_of links number xs)
      (all_made (λ (y : List ℕ). y ≢ name.text) xs h.0) (made_named xs h.1)
  made_named ((n, item.Recipe r) ∷ xs) h = made_named xs h
  made_named ((n, item.Blank) ∷ xs) h = made_named xs h
  made_named ((n, item.Comment text) ∷ xs) h = made_named xs h
  made_named ((n, item.Import optional path comment) ∷ xs) h = made_named xs h
  made_named ((n, item.Module attributes optional name path comment) ∷ xs) h = made_named xs h
  made_named ((n, item.Assignment export name value comment) ∷ xs) h = made_named xs h
  made_named ((n, item.Unexport name comment) ∷ xs) h = made_named xs h
  made_named ((n, item.Setting name value comment) ∷ xs) h = made_named xs h
