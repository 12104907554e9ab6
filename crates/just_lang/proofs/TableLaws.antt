-- What the tables of a project say of recipes and aliases that can't be run.
use Rattle.std.proofs.Common.{◌≡◌, ℕ, zero, suc, ◌+◌, ◌<◌, ◌≤◌, List, [], ◌∷◌, length, get_or, Option, Some, None, refl, sym, ap, ◌∙◌, subst, arith}
use Rattle.std.specs.Prelude.{slice_get}
use Rattle.std.proofs.lemmas.List.{length-map, take_all}
use Rattle.std.proofs.lemmas.Option.{slice_get_within, get_or_from_slice_get}
use Rattle.just_lang_syntax.specs.declared.ast.Name.{Name}
use Rattle.just_lang_layout.specs.declared.layout.Module.{Module}
use Rattle.just_lang_names.specs.declared.names.Names.{Names}
use Rattle.just_lang_names.specs.Names.{AreNames, layout_of, wins_of}
use Rattle.just_lang.specs.Cycles.{all_recipes, recipes_before, recipes_from, recipes_needed}
use Rattle.just_lang.specs.DisablingTables.{texts, IsDisabling}
use Rattle.just_lang.specs.Disabling.{AreCauses, modules_of_cause, modules_of_recipe, modules_of_alias}
use Rattle.just_lang.specs.declared.tables.Tables.{Tables}
use Rattle.just_lang.specs.Befores.{AreBeforeEach}
use Rattle.just_lang.specs.Tables.{AreTables, causes_of}
use denote.Ref.{Bor}

-- ---- recipes

-- behind the last place nothing is there
nothing_there : (xs : List (Option ℕ)) (i : ℕ) → length xs ≤ i → get_or xs i None ≡ None
nothing_there [] i h = refl
nothing_there (x ∷ xs) zero h = absurd (omega (arith, h))
nothing_there (x ∷ xs) (suc i) h = nothing_there xs i (omega (arith, h))

beyond : (xs : List ℕ) (i : ℕ) → slice_get xs i ≡ None → length xs ≤ i
beyond [] i h = omega arith
beyond (x ∷ xs) zero h = absurd (cc)
beyond (x ∷ xs) (suc i) h = let r = beyond xs i h in omega (arith, r)

pub are_tables : (tables : Tables) → AreNames tables.names.now → AreBeforeEach (wins_of tables.names.now) (layout_of tables.names.now) tables.before.now → IsDisabling tables.disabling.now
    → tables.disabling.now.recipes.now.names.now ≡ tables.names.now → AreTables tables
are_tables tables a b c d = record { names_are = a; before_are = b; disabling_is = c; same = d }

module _ (tables : Tables) (are : AreTables tables) where
  pub causes_are : AreCauses (wins_of tables.names.now) (layout_of tables.names.now) (causes_of tables)
  causes_are = subst (λ (n : Names). AreCauses (wins_of n) (layout_of n) (causes_of tables)) are.same are.disabling_is.causes_are

  -- the same over either copy of the names
  pub over_names : (f : Names → List (List ℕ)) (ts : List (List ℕ)) → ts ≡ f tables.disabling.now.recipes.now.names.now → ts ≡ f tables.names.now
  over_names f ts h = h ∙ ap f are.same

  pub modules_at : (number place before sum : ℕ) (ts : List (List ℕ)) → slice_get tables.before.now number ≡ Some before → sum ≡ before + place
      → ts ≡ modules_of_recipe (wins_of tables.disabling.now.recipes.now.names.now) (layout_of tables.disabling.now.recipes.now.names.now) (causes_of tables) sum
      → ts ≡ modules_of_recipe (wins_of tables.names.now) (layout_of tables.names.now) (causes_of tables) (recipes_before (wins_of tables.names.now) (layout_of tables.names.now) number + place)
  modules_at number place before sum ts at is h =
      let less : number < length tables.before.now = slice_get_within tables.before.now number before at in
      let size = are.before_are.size in
      let counted : before ≡ recipes_before (wins_of tables.names.now) (layout_of tables.names.now) number =
      sym (get_or_from_slice_get tables.before.now number before 0 at) ∙ are.before_are.each number (omega (arith, less, size)) in
      over_names (λ n. modules_of_recipe (wins_of n) (layout_of n) (causes_of tables) sum) ts h
      ∙ ap (λ k. modules_of_recipe (wins_of tables.names.now) (layout_of tables.names.now) (causes_of tables) k) (is ∙ ap (λ k. k + place) counted)

  pub none_behind : (number place : ℕ) (ts : List (List ℕ)) → slice_get tables.before.now number ≡ None → ts ≡ []
      → ts ≡ modules_of_recipe (wins_of tables.names.now) (layout_of tables.names.now) (causes_of tables) (recipes_before (wins_of tables.names.now) (layout_of tables.names.now) number + place)
  none_behind number place ts at h =
      let wins = wins_of tables.names.now in
      let layout = layout_of tables.names.now in
      let size = are.before_are.size in
      let last = beyond tables.before.now number at in
      let less : length layout.modules ≤ number = omega (arith, size, last) in
      let all : recipes_before wins layout number ≡ length (all_recipes wins layout) = ap (λ (ms : List Module). length (recipes_from wins layout.files 0 ms)) (take_all number layout.modules less) in
      let many : length (causes_of tables) ≡ length (all_recipes wins layout) = causes_are.size ∙ length-map (all_recipes wins layout) (recipes_needed wins layout) in
      let none : get_or (causes_of tables) (recipes_before wins layout number + place) None ≡ None =
      nothing_there (causes_of tables) (recipes_before wins layout number + place) (omega (arith, all, many)) in
      h ∙ sym (ap (λ (o : Option ℕ). modules_of_cause wins layout o) none)

  -- ---- aliases

  pub alias_modules : (number : ℕ) (path : List Name) (modules : List (Bor (List ℕ))) (ts : List (List ℕ))
      → texts modules ≡ modules_of_alias (wins_of tables.disabling.now.recipes.now.names.now) (layout_of tables.disabling.now.recipes.now.names.now) (causes_of tables) number path
      → ts ≡ texts modules → ts ≡ modules_of_alias (wins_of tables.names.now) (layout_of tables.names.now) (causes_of tables) number path
  alias_modules number path modules ts h is = over_names (λ n. modules_of_alias (wins_of n) (layout_of n) (causes_of tables) number path) ts (is ∙ h)
