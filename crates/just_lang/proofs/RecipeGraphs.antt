-- The recipes of all modules, their places, and the graph of their dependencies.
use Rattle.std.proofs.Common.{◌≡◌, ℕ, zero, suc, ◌+◌, ◌<◌, List, [], ◌∷◌, ◌++◌, length, map, take, get_or, Option, Some, None, refl, sym, ap, ◌∙◌, subst, arith, append_assoc, length-append}
use Rattle.std.specs.Prelude.{slice_get, unwrap_or}
use Rattle.std.specs.Option.{option_map, option_map_or}
use Rattle.std.specs.List.{All}
use Rattle.std.proofs.lemmas.List.{length-map, append-nil}
use Rattle.just_lang_syntax.specs.declared.ast.AstDependency.{AstDependency}
use Rattle.just_lang_layout.specs.declared.layout.File.{File}
use Rattle.just_lang_layout.specs.declared.layout.Layout.{Layout}
use Rattle.just_lang_layout.specs.declared.layout.Module.{Module}
use Rattle.just_lang_spots.specs.Graph.{IsGraph}
use Rattle.just_lang_spots.specs.Entries.{last_place}
use Rattle.just_lang_spots.specs.declared.spot.Spot.{Spot}
use Rattle.just_lang_spots.specs.Items.{item_name, recipe_in}
use Rattle.just_lang_spots.specs.Standing.{Wins}
use Rattle.just_lang_names.specs.declared.names.ModuleNames.{ModuleNames}
use Rattle.just_lang_names.specs.Lookup.{Target, Found_recipe, Found_module, Found_absent, Found_nothing, dependency_target}
use Rattle.just_lang_names.specs.Names.{IsModuleNames, AreModuleNames}
use Rattle.just_lang_names.specs.Standing.{standing_recipe_items, standing_recipes}
use Rattle.just_lang.specs.Cycles.{IsFirstSpot, IsSpotOnCycle, IsCircularRecipe, recipe_spot, Standing, in_module, recipes_from, all_recipes, recipes_before, recipe_name, place_of_recipe, place_of_target, place_of_dependency, dependencies_of, recipes_needed, recipe_graph}
use Rattle.just_lang.proofs.LastPlaces.{last_short, place_through, recipe_things}
use Rattle.just_lang.proofs.Variables.{picked_below, mapped_all}

-- ---- the table of a module

-- the tables of modules are theirs, each at its place
pub record IsTableAt (wins : Wins) (files : List File) (ms : List Module) (k : ℕ) (n : ModuleNames) : Type 0 where
  pub of_module : Module
  pub at : slice_get ms k ≡ Some of_module
  pub names_are : IsModuleNames wins files of_module n

pub table_at : (wins : Wins) (files : List File) (ms : List Module) (ns : List ModuleNames) → AreModuleNames wins files ms ns → (k : ℕ) (n : ModuleNames) → k < length ns → n ≡ get_or ns k n → IsTableAt wins files ms k n
table_at wins files [] [] are k n h e = absurd (omega (arith, h))
table_at wins files [] (y ∷ ns) are k n h e = absurd are
table_at wins files (m ∷ ms) [] are k n h e = absurd are
table_at wins files (m ∷ ms) (y ∷ ns) are zero n h e = record { of_module = m; at = refl; names_are = subst (λ (z : ModuleNames). IsModuleNames wins files m z) (sym e) are.0 }
table_at wins files (m ∷ ms) (y ∷ ns) are (suc k) n h e =
    let t = table_at wins files ms ns are.1 k n (omega (arith, h)) e in
    record { of_module = t.of_module; at = t.at; names_are = t.names_are }

pub tables_length : (wins : Wins) (files : List File) (ms : List Module) (ns : List ModuleNames) → AreModuleNames wins files ms ns → length ns ≡ length ms
tables_length wins files [] [] are = refl
tables_length wins files [] (y ∷ ns) are = absurd are
tables_length wins files (m ∷ ms) [] are = absurd are
tables_length wins files (m ∷ ms) (y ∷ ns) are = ap suc (tables_length wins files ms ns are.1)

-- ---- the recipes of modules up to one

some_same : (x y : Module) → Some x ≡ Some y → x ≡ y
some_same x y e = ap (λ (o : Option Module). unwrap_or o x) e

module _ (wins : Wins) (files : List File) where
  pub from_take : (n : ℕ) (ms : List Module) (i : ℕ) (x : Module) → slice_get ms i ≡ Some x
      → recipes_from wins files n (take (suc i) ms) ≡ recipes_from wins files n (take i ms) ++ map (in_module (n + i)) (standing_recipes wins files x)
  from_take n [] i x e = absurd (cc)
  from_take n (y ∷ ms) zero x e =
      let same : n ≡ n + 0 = omega arith in
      append-nil (map (in_module n) (standing_recipes wins files y)) ∙ ap (λ (m : Module). map (in_module n) (standing_recipes wins files m)) (some_same y x e)
      ∙ ap (λ k. map (in_module k) (standing_recipes wins files x)) same
  from_take n (y ∷ ms) (suc i) x e =
      let same : suc n + i ≡ n + suc i = omega arith in
      ap (λ (rs : List Standing). map (in_module n) (standing_recipes wins files y) ++ rs) (from_take (suc n) ms i x e)
      ∙ sym (append_assoc (map (in_module n) (standing_recipes wins files y)) (recipes_from wins files (suc n) (take i ms)) (map (in_module (suc n + i)) (standing_recipes wins files x)))
      ∙ ap (λ k. (map (in_module n) (standing_recipes wins files y) ++ recipes_from wins files (suc n) (take i ms)) ++ map (in_module k) (standing_recipes wins files x)) same

  -- a recipe of a module is one of all
  pub from_within : (n : ℕ) (ms : List Module) (i : ℕ) (x : Module) (k : ℕ) → slice_get ms i ≡ Some x → k < length (standing_recipes wins files x)
      → length (recipes_from wins files n (take i ms)) + k < length (recipes_from wins files n ms)
  from_within n [] i x k e h = absurd (cc)
  from_within n (y ∷ ms) zero x k e h =
      let own = map (in_module n) (standing_recipes wins files y) in
      let size : length (own ++ recipes_from wins files (suc n) ms) ≡ length own + length (recipes_from wins files (suc n) ms) = length-append own (recipes_from wins files (suc n) ms) in
      let many : length own ≡ length (standing_recipes wins files x) = length-map (standing_recipes wins files y) (in_module n) ∙ ap (λ (m : Module). length (standing_recipes wins files m)) (some_same y x e) in
      omega (arith, size, many, h)
  from_within n (y ∷ ms) (suc i) x k e h =
      let own = map (in_module n) (standing_recipes wins files y) in
      let size : length (own ++ recipes_from wins files (suc n) ms) ≡ length own + length (recipes_from wins files (suc n) ms) = length-append own (recipes_from wins files (suc n) ms) in
      let front : length (own ++ recipes_from wins files (suc n) (take i ms)) ≡ length own + length (recipes_from wins files (suc n) (take i ms)) = length-append own (recipes_from wins files (suc n) (take i ms)) in
      let rest = from_within (suc n) ms i x k e h in
      omega (arith, size, front, rest)

-- ---- the place of a recipe

module _ (wins : Wins) (layout : Layout) where
  -- by the items of its module
  pub place_by_items : (m : ℕ) (name : List ℕ) (x : Module) → slice_get layout.modules m ≡ Some x
      → place_of_recipe wins layout m name ≡ option_map (λ k. recipes_before wins layout m + k) (last_place item_name name (standing_recipe_items wins layout.files x))
  place_by_items m name x e =
      ap (λ (o : Option Module). option_map (λ k. recipes_before wins layout m + k) (last_place recipe_name name (option_map_or (standing_recipes wins layout.files) o []))) e
      ∙ ap (λ (o : Option ℕ). option_map (λ k. recipes_before wins layout m + k) o)
      (place_through recipe_in recipe_name name (standing_recipe_items wins layout.files x) (recipe_things wins layout.files x))

  pub place_found : (m : ℕ) (name : List ℕ) (x : Module) (place before sum : ℕ) → slice_get layout.modules m ≡ Some x → last_place item_name name (standing_recipe_items wins layout.files x) ≡ Some place
      → before ≡ recipes_before wins layout m → sum ≡ before + place → Some sum ≡ place_of_recipe wins layout m name
  place_found m name x place before sum at e b is =
      ap (λ k. Some k) (is ∙ ap (λ k. k + place) b) ∙ sym (ap (λ (o : Option ℕ). option_map (λ k. recipes_before wins layout m + k) o) e) ∙ sym (place_by_items m name x at)

  short_in : (m k : ℕ) (x : Module) (o : Option ℕ) → slice_get layout.modules m ≡ Some x → ((j : ℕ) → o ≡ Some j → j < length (standing_recipes wins layout.files x))
      → option_map (λ j. recipes_before wins layout m + j) o ≡ Some k → k < length (all_recipes wins layout)
  short_in m k x None at h e = absurd (cc)
  short_in m k x (Some j) at h e =
      let same : recipes_before wins layout m + j ≡ k = ap (λ (o : Option ℕ). unwrap_or o 0) e in
      let less = from_within wins layout.files 0 layout.modules m x j at (h j refl) in
      subst (λ n. n < length (all_recipes wins layout)) same less

  -- it is that of one of all recipes
  recipe_short : (m k : ℕ) (name : List ℕ) (o : Option Module) → slice_get layout.modules m ≡ o
      → option_map (λ j. recipes_before wins layout m + j) (last_place recipe_name name (option_map_or (standing_recipes wins layout.files) o [])) ≡ Some k → k < length (all_recipes wins layout)
  recipe_short m k name None at e = absurd (cc)
  recipe_short m k name (Some x) at e =
      short_in m k x (last_place recipe_name name (standing_recipes wins layout.files x)) at (λ j is. last_short recipe_name name (standing_recipes wins layout.files x) j is) e

  pub target_short : (t : Target) (k : ℕ) → place_of_target wins layout t ≡ Some k → k < length (all_recipes wins layout)
  target_short (Found_recipe m file r) k e = recipe_short m k r.name.text (slice_get layout.modules m) refl e
  target_short (Found_module m) k e = absurd (cc)
  target_short Found_absent k e = absurd (cc)
  target_short (Found_nothing name) k e = absurd (cc)

  -- each recipe that one depends on is one of all
  pub recipes_graph : IsGraph (recipe_graph wins layout)
  recipes_graph =
      let n = length (all_recipes wins layout) in
      let size : length (recipe_graph wins layout) ≡ n = length-map (all_recipes wins layout) (recipes_needed wins layout) in
      subst (λ k. All (λ (ws : List ℕ). All (λ w. w < k) ws) (recipe_graph wins layout)) (sym size)
      (mapped_all (λ (ws : List ℕ). All (λ w. w < n) ws) (recipes_needed wins layout)
      (λ x. picked_below n (place_of_dependency wins layout x.0) (λ (d : AstDependency) k e. target_short (dependency_target wins layout x.0 d.path) k e) (dependencies_of x.2)) (all_recipes wins layout))

-- ---- over what the code has

pub graph_of_recipes : (wins : Wins) (layout : Layout) (edges : List (List ℕ)) → edges ≡ recipe_graph wins layout → IsGraph edges
graph_of_recipes wins layout edges e = subst (λ (es : List (List ℕ)). IsGraph es) (sym e) (recipes_graph wins layout)

pub size_of_recipes : (wins : Wins) (layout : Layout) (edges : List (List ℕ)) (spots : List Spot) → edges ≡ recipe_graph wins layout → spots ≡ map recipe_spot (all_recipes wins layout) → length spots ≡ length edges
size_of_recipes wins layout edges spots e s =
    ap length s ∙ length-map (all_recipes wins layout) recipe_spot ∙ sym (length-map (all_recipes wins layout) (recipes_needed wins layout)) ∙ sym (ap length e)

pub first_of_recipes : (wins : Wins) (layout : Layout) (edges : List (List ℕ)) (spots : List Spot) (first : Option Spot) → edges ≡ recipe_graph wins layout → spots ≡ map recipe_spot (all_recipes wins layout)
    → IsFirstSpot (IsSpotOnCycle edges spots) first → IsFirstSpot (IsCircularRecipe wins layout) first
first_of_recipes wins layout edges spots first e s h =
    subst (λ (es : List (List ℕ)). IsFirstSpot (IsSpotOnCycle es (map recipe_spot (all_recipes wins layout))) first) e
    (subst (λ (ss : List Spot). IsFirstSpot (IsSpotOnCycle edges ss) first) s h)
