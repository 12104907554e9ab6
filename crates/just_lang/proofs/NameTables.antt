-- What the tables of names say of the modules, each at its place.
use Rattle.std.proofs.Common.{◌≡◌, ℕ, ◌+◌, ◌<◌, ◌≤◌, List, [], ◌∷◌, ◌++◌, length, get_or, Option, Some, None, true, refl, sym, ap, ◌∙◌, subst, arith}
use Rattle.std.specs.Prelude.{slice_get, filter_map}
use Rattle.std.specs.List.{AllByRecursion as ByRecursion}
use Rattle.std.specs.Option.{option_and_then}
use Rattle.std.proofs.lemmas.Option.{slice_get_within, get_or_from_slice_get}
use Rattle.just_lang_syntax.specs.declared.ast.AstItem.{AstItem}
use Rattle.just_lang_syntax.specs.declared.ast.AstItem.TheVariants as item
use Rattle.just_lang_syntax.specs.declared.ast.AstRecipe.{AstRecipe}
use Rattle.just_lang_layout.specs.declared.layout.File.{File}
use Rattle.just_lang_layout.specs.declared.layout.Module.{Module}
use Rattle.just_lang_spots.specs.declared.spot.Spot.{Spot}
use Rattle.just_lang_spots.specs.Entries.{entries, IsIndex}
use Rattle.just_lang_spots.specs.Items.{item_name, is_assignment, variable_in}
use Rattle.just_lang_spots.specs.Spots.{earlier}
use Rattle.just_lang_spots.specs.Standing.{Wins, unbeaten}
use Rattle.just_lang_names.specs.declared.names.ModuleNames.{ModuleNames}
use Rattle.just_lang_names.specs.declared.names.Names.{Names}
use Rattle.just_lang_names.specs.Names.{AreNames, AreModuleNames, layout_of, wins_of}
use Rattle.just_lang_names.specs.Standing.{recipe_items, standing_recipe_items}
use Rattle.just_lang_names.specs.Targets.{recipe_at}
use Rattle.just_lang.specs.declared.recipe.StandingRecipe as code
use Rattle.just_lang.specs.Cycles.{IsFirstSpot, IsCircularAmong, IsCircularVariable, place_of_recipe}
use Rattle.just_lang.specs.CycleTables.{standings, standing_in, AreBefore, AreStanding}
use Rattle.just_lang.proofs.KeptNames.{last_of_kept}
use Rattle.just_lang.proofs.Modules.{IsCircularBelow, standing_assignments, below_more, below_all}
use Rattle.just_lang.proofs.RecipeGraphs.{IsTableAt, table_at, tables_length, place_found}
use Rattle.just_lang.proofs.Standings.{AreStandingBelow, standing_more, standing_all_modules}

table_for : (wins : Wins) (files : List File) (ms : List Module) (ns : List ModuleNames) → AreModuleNames wins files ms ns → (k : ℕ) (n : ModuleNames) → slice_get ns k ≡ Some n → IsTableAt wins files ms k n
table_for wins files [] [] are k n e = absurd (cc)
table_for wins files [] (y ∷ ns) are k n e = absurd are
table_for wins files (m ∷ ms) [] are k n e = absurd are
table_for wins files (m ∷ ms) (y ∷ ns) are k n e =
    table_at wins files (m ∷ ms) (y ∷ ns) are k n (slice_get_within (y ∷ ns) k n e) (sym (get_or_from_slice_get (y ∷ ns) k n n e))

module _ (names : Names) (are : AreNames names) where
  at : (k : ℕ) (n : ModuleNames) → k < length names.modules.items → n ≡ get_or names.modules.items k n → IsTableAt (wins_of names) (layout_of names).files (layout_of names).modules k n
  at k n h e = table_at (wins_of names) (layout_of names).files (layout_of names).modules names.modules.items are.modules_are k n h e

  -- ---- variables

  pub assignments_at : (k : ℕ) (n : ModuleNames) → k < length names.modules.items → n ≡ get_or names.modules.items k n → ByRecursion (λ x. is_assignment x ≡ true) (entries n.variables.items)
  assignments_at k n h e =
      let t = at k n h e in
      subst (λ (xs : List (ℕ × AstItem)). ByRecursion (λ x. is_assignment x ≡ true) xs) (sym t.names_are.variables_are) (standing_assignments (wins_of names) (layout_of names).files t.of_module)

  pub index_at : (k : ℕ) (n : ModuleNames) → k < length names.modules.items → n ≡ get_or names.modules.items k n → IsIndex (entries n.variables.items) n.variable_places
  index_at k n h e =
      let t = at k n h e in
      subst (λ (xs : List (ℕ × AstItem)). IsIndex xs n.variable_places) (sym t.names_are.variables_are) t.names_are.variable_places_are

  pub circular_more : (k : ℕ) (n : ModuleNames) (found here next : Option Spot) → k < length names.modules.items → n ≡ get_or names.modules.items k n
      → IsFirstSpot (IsCircularBelow (wins_of names) (layout_of names) k) found → IsFirstSpot (IsCircularAmong (filter_map variable_in (entries n.variables.items))) here → next ≡ earlier found here
      → IsFirstSpot (IsCircularBelow (wins_of names) (layout_of names) (k + 1)) next
  circular_more k n found here next h e p q is =
      let t = at k n h e in
      below_more (wins_of names) (layout_of names) k t.of_module t.at found here next p
      (subst (λ (xs : List (ℕ × AstItem)). IsFirstSpot (IsCircularAmong (filter_map variable_in xs)) here) t.names_are.variables_are q) is

  pub circular_all : (k : ℕ) (first : Option Spot) → length names.modules.items ≤ k → IsFirstSpot (IsCircularBelow (wins_of names) (layout_of names) k) first
      → IsFirstSpot (IsCircularVariable (wins_of names) (layout_of names)) first
  circular_all k first h p =
      let size = tables_length (wins_of names) (layout_of names).files (layout_of names).modules names.modules.items are.modules_are in
      below_all (wins_of names) (layout_of names) k first (omega (arith, size, h)) p

  -- ---- recipes

  pub recipes_more : (k : ℕ) (n : ModuleNames) (list list' : List code.StandingRecipe) (before before' : List ℕ) → k < length names.modules.items → n ≡ get_or names.modules.items k n
      → before' ≡ before ++ length list ∷ [] → standings list' ≡ standings list ++ filter_map (standing_in k) (entries n.recipes.items) → AreStandingBelow (wins_of names) (layout_of names) k list before
      → AreStandingBelow (wins_of names) (layout_of names) (k + 1) list' before'
  recipes_more k n list list' before before' h e b l old =
      let t = at k n h e in
      standing_more (wins_of names) (layout_of names) k t.of_module (entries n.recipes.items) list list' before before' t.at t.names_are.recipes_are b l old

  pub recipes_all : (k : ℕ) (list : List code.StandingRecipe) (before : List ℕ) → length names.modules.items ≤ k → AreStandingBelow (wins_of names) (layout_of names) k list before
      → AreStanding (wins_of names) (layout_of names) list before
  recipes_all k list before h old =
      let size = tables_length (wins_of names) (layout_of names).files (layout_of names).modules names.modules.items are.modules_are in
      standing_all_modules (wins_of names) (layout_of names) k list before (omega (arith, size, h)) old

  for_number : (number : ℕ) (n : ModuleNames) → slice_get names.modules.items number ≡ Some n → IsTableAt (wins_of names) (layout_of names).files (layout_of names).modules number n
  for_number number n e = table_for (wins_of names) (layout_of names).files (layout_of names).modules names.modules.items are.modules_are number n e

  -- a recipe at a place of a table has the number of a module
  pub placed_within : (number place : ℕ) (x : ℕ × AstItem) (before : List ℕ) → recipe_at names number place ≡ Some x → AreBefore (wins_of names) (layout_of names) before → number < length before
  placed_within number place x before h b =
      elim (slice_get names.modules.items number) as (λ (o : Option ModuleNames). slice_get names.modules.items number ≡ o
      → option_and_then (λ (n : ModuleNames). slice_get (entries n.recipes.items) place) o ≡ Some x → number < length before) [
        | None ↦ λ e k. absurd (cc)
        | Some n ↦ λ e k.
            let t = for_number number n e in
            let less = slice_get_within (layout_of names).modules number t.of_module t.at in
            let size = b.size in
            omega (arith, less, size)
      ] refl h

  -- and its place among all is so far behind those of the modules before
  pub placed_is : (number place file : ℕ) (recipe : AstRecipe) (before : List ℕ) (sum : ℕ) → recipe_at names number place ≡ Some (file, item.Recipe recipe) → AreBefore (wins_of names) (layout_of names) before
      → sum ≡ get_or before number 0 + place → Some sum ≡ place_of_recipe (wins_of names) (layout_of names) number recipe.name.text
  placed_is number place file recipe before sum h b is =
      elim (slice_get names.modules.items number) as (λ (o : Option ModuleNames). slice_get names.modules.items number ≡ o
      → option_and_then (λ (n : ModuleNames). slice_get (entries n.recipes.items) place) o ≡ Some (file, item.Recipe recipe)
      → Some sum ≡ place_of_recipe (wins_of names) (layout_of names) number recipe.name.text) [
        | None ↦ λ e k. absurd (cc)
        | Some n ↦ λ e k.
            let t = for_number number n e in
            let less = slice_get_within (layout_of names).modules number t.of_module t.at in
            let items = standing_recipe_items (wins_of names) (layout_of names).files t.of_module in
            let there : slice_get items place ≡ Some (file, item.Recipe recipe) = ap (λ (xs : List (ℕ × AstItem)). slice_get xs place) (sym t.names_are.recipes_are) ∙ k in
            place_found (wins_of names) (layout_of names) number recipe.name.text t.of_module place (get_or before number 0) sum t.at
            (last_of_kept item_name (unbeaten item_name (wins_of names) (recipe_items (layout_of names).files t.of_module)) place (file, item.Recipe recipe) there) (b.each number less) is
      ] refl h
