-- No chain of dependencies passes more recipes than there are.
use Rattle.std.proofs.Common.{◌≡◌, ℕ, zero, suc, ◌<◌, Bool, true, false, ◌&&◌, cond, List, [], ◌∷◌, ◌++◌, length, map, get_or, Some, None, refl, sym, ap, ◌∙◌, subst, arith}
use Rattle.std.specs.Prelude.{bytes_eq, slice_get, unwrap_or, if◌then◌else◌}
use Rattle.std.specs.List.{list_all, Contains}
use Rattle.std.specs.Cmp.Lexicographic.{pointwise}
use Rattle.std.proofs.lemmas.List.{length-map}
use Rattle.just_eval_closure.proofs.Items.{In, contains_in, in_contains}
use Rattle.just_lang_syntax.specs.declared.ast.AstDependency.{AstDependency}
use Rattle.just_lang_types.specs.declared.project.Justfile.{Justfile}
use Rattle.just_lang_types.specs.declared.recipe.Dependency.{Dependency}
use Rattle.just_lang_types.specs.declared.recipe.Modulepath.{Modulepath}
use Rattle.just_lang_layout.specs.declared.layout.Layout.{Layout}
use Rattle.just_lang_spots.specs.declared.spot.Spot.{Spot}
use Rattle.just_lang_spots.specs.Standing.{Wins}
use Rattle.just_lang_spots.specs.Chains.{ends_within}
use Rattle.just_lang_spots.specs.Graph.{targets, Reaches, edge, along, IsOnCycle, IsAcyclic}
use Rattle.just_lang_spots.proofs.Chains.{all_pass, chains_end}
use Rattle.just_lang.specs.Cycles.{Standing, IsFirstSpot, IsCircularRecipe, recipe_spot, all_recipes, dependencies_of, place_of_dependency, recipes_needed, recipe_graph}
use Rattle.just_lang.proofs.RecipeGraphs.{recipes_graph}
use Rattle.just_lang_types.specs.Modules.{Located, located, located_at}
use Rattle.just_eval_closure.specs.Ends as eval
use Rattle.just_lang.specs.Linked.{recipe_path}
use Rattle.just_cli_plan.proofs.Apart.{AreApart, picked_leads}
use Rattle.just_cli_plan.proofs.ModulePaths.{paths}
use Rattle.just_lang_names.specs.Lookup.{dependency_target}
use Rattle.just_cli_plan.proofs.Recipes.{Path, Shape, shape_of, standing_path, standing_paths, paths_needed, IsFirstAt, first_below, leads}

-- ---- what a path leads to

abbrev pub path_of_dependency : Dependency → Modulepath
path_of_dependency d = d.path

-- a recipe's path, and the paths that it depends on
abbrev pub located_shape : Located → Shape
located_shape l = (l.recipe.path.components, map path_of_dependency (l.recipe.priors ++ l.recipe.subsequents))

-- what the first of that path depends on
abbrev pub next : List Shape → Path → List Modulepath
next [] q = []
next (s ∷ ss) q = if pointwise bytes_eq s.0 q then s.1 else next ss q

next_located : (ls : List Located) (path : Modulepath) → map path_of_dependency (eval.dependencies_of (located_at ls path)) ≡ next (map located_shape ls) path.components
next_located [] path = refl
next_located (l ∷ ls) path =
    elim (pointwise bytes_eq l.recipe.path.components path.components)
    as (λ b. map path_of_dependency (eval.dependencies_of (cond b (Some l) (located_at ls path))) ≡ cond b (map path_of_dependency (l.recipe.priors ++ l.recipe.subsequents)) (next (map located_shape ls) path.components)) [
      | true ↦ refl
      | false ↦ next_located ls path
    ]

all_same : {A : Type 0} (f g : A → Bool) → ((x : A) → f x ≡ g x) → (xs : List A) → list_all f xs ≡ list_all g xs
all_same f g h [] = refl
all_same f g h (x ∷ xs) = ap (λ b. b && list_all f xs) (h x) ∙ ap (λ b. g x && b) (all_same f g h xs)

all_mapped : {A B : Type 0} (p : B → Bool) (f : A → B) (xs : List A) → list_all (λ x. p (f x)) xs ≡ list_all p (map f xs)
all_mapped p f [] = refl
all_mapped p f (x ∷ xs) = ap (λ b. p (f x) && b) (all_mapped p f xs)

abbrev next_in : List Shape → Modulepath → List Modulepath
next_in shapes path = next shapes path.components

ends_same : (modules : List Justfile) (n : ℕ) (path : Modulepath) → eval.ends_within modules n path ≡ ends_within (next_in (map located_shape (located modules))) n path
ends_same modules zero path = refl
ends_same modules (suc n) path =
    let next_of : Modulepath → List Modulepath = next_in (map located_shape (located modules)) in
    let ds : List Dependency = eval.dependencies_of (located_at (located modules) path) in
    all_same (λ (d : Dependency). eval.ends_within modules n d.path) (λ (d : Dependency). ends_within next_of n d.path) (λ d. ends_same modules n d.path) ds
    ∙ all_mapped (ends_within next_of n) path_of_dependency ds ∙ ap (λ (ps : List Modulepath). list_all (ends_within next_of n) ps) (next_located (located modules) path)

-- ---- chains

mapped_get : {A B : Type 0} (f : A → List B) (xs : List A) (k : ℕ) (x : A) → slice_get xs k ≡ Some x → get_or (map f xs) k [] ≡ f x
mapped_get f [] k x e = absurd (cc)
mapped_get f (y ∷ ys) zero x e = ap (λ o. f (unwrap_or o y)) e
mapped_get f (y ∷ ys) (suc k) x e = mapped_get f ys k x e

module _ (wins : Wins) (layout : Layout) where
  abbrev all : List Standing
  all = all_recipes wins layout

  abbrev shapes : List Standing → List Shape
  shapes ss = map (shape_of wins layout) ss

  -- what stands first at a path, and what it depends on
  abbrev IsShapeAt : List Standing → Path → ℕ → Type 0
  IsShapeAt ss q v = (s : Standing) × (slice_get ss v ≡ Some s) × (next (shapes ss) q ≡ paths_needed wins layout s.0 (dependencies_of s.2))

  next_at : (ss : List Standing) (q : Path) (v : ℕ) → IsFirstAt (standing_paths layout ss) q v → IsShapeAt ss q v
  next_at [] q v h = absurd h
  next_at (s ∷ ss) q zero h = (s, refl, ap (λ b. cond b (paths_needed wins layout s.0 (dependencies_of s.2)) (next (shapes ss) q)) h)
  next_at (s ∷ ss) q (suc v) h =
      let r = next_at ss q v h.1 in
      (r.0, r.1, ap (λ b. cond b (paths_needed wins layout s.0 (dependencies_of s.2)) (next (shapes ss) q)) h.0 ∙ r.2)

  some_first : (ss : List Standing) (q : Path) (y : Modulepath) → In y (next (shapes ss) q) → (v : ℕ) × IsFirstAt (standing_paths layout ss) q v
  some_first [] q y i = absurd i
  some_first (s ∷ ss) q y i =
      elim (pointwise bytes_eq (standing_path layout s) q)
      as (λ b. pointwise bytes_eq (standing_path layout s) q ≡ b → In y (cond b (paths_needed wins layout s.0 (dependencies_of s.2)) (next (shapes ss) q)) → (v : ℕ) × IsFirstAt (standing_paths layout (s ∷ ss)) q v) [
        | true ↦ λ t i. (0, t)
        | false ↦ λ f i. let r = some_first ss q y i in (suc r.0, (f, r.1))
      ] refl i

  abbrev IsAt : Modulepath → ℕ → Type 0
  IsAt x v = IsFirstAt (standing_paths layout all) x.components v

  chain_leads : AreApart (paths layout.modules) → (x : Modulepath) (v : ℕ) → IsAt x v → (y : Modulepath) → Contains (next_in (shapes all) x) y
      → (w : ℕ) × Contains (targets (recipe_graph wins layout) v) w × IsAt y w
  chain_leads apart x v at y c =
      let n = next_at all x.components v at in
      let i : In y (paths_needed wins layout n.0.0 (dependencies_of n.0.2)) = subst (λ (ps : List Modulepath). In y ps) n.2 (contains_in (next_in (shapes all) x) y c) in
      let p = picked_leads (λ (d : AstDependency). recipe_path layout (dependency_target wins layout n.0.0 d.path)) (place_of_dependency wins layout n.0.0) IsAt (λ d z e. leads wins layout apart n.0.0 d z e) (dependencies_of n.0.2) y i in
      let same : targets (recipe_graph wins layout) v ≡ recipes_needed wins layout n.0 = mapped_get (recipes_needed wins layout) all v n.0 n.1 in
      (p.0, in_contains (targets (recipe_graph wins layout) v) p.0 (subst (λ (ws : List ℕ). In p.0 ws) (sym same) p.1), p.2)

  nodes_are : length (standing_paths layout all) ≡ length (recipe_graph wins layout)
  nodes_are = length-map all (standing_path layout) ∙ sym (length-map all (recipes_needed wins layout))

  next_ends : AreApart (paths layout.modules) → IsAcyclic (recipe_graph wins layout) → (path : Modulepath) → ends_within (next_in (shapes all)) (suc (length (recipe_graph wins layout))) path ≡ true
  next_ends apart acyclic path =
      all_pass (ends_within (next_in (shapes all)) (length (recipe_graph wins layout))) (next_in (shapes all) path) (λ y c.
      let f = some_first all path.components y (contains_in (next_in (shapes all) path) y c) in
      let l = chain_leads apart path f.0 f.1 y c in
      let below : l.0 < length (recipe_graph wins layout) = subst (λ n. l.0 < n) nodes_are (first_below (standing_paths layout all) y.components l.0 l.2) in
      chains_end (recipe_graph wins layout) (recipes_graph wins layout) acyclic (next_in (shapes all)) IsAt (λ x v at z d. chain_leads apart x v at z d) y l.0 l.2 below)

  pub recipes_end : (modules : List Justfile) → map located_shape (located modules) ≡ map (shape_of wins layout) (all_recipes wins layout) → AreApart (paths layout.modules) → IsAcyclic (recipe_graph wins layout)
      → eval.AreEnding modules
  recipes_end modules same apart acyclic path =
      let many : length (located modules) ≡ length (recipe_graph wins layout) =
      sym (length-map (located modules) located_shape) ∙ ap length same ∙ length-map all (shape_of wins layout) ∙ sym (length-map all (recipes_needed wins layout)) in
      ends_same modules (suc (length (located modules))) path
      ∙ ap (λ (ss : List Shape). ends_within (next_in ss) (suc (length (located modules))) path) same
      ∙ ap (λ n. ends_within (next_in (shapes all)) (suc n) path) many
      ∙ next_ends apart acyclic path

-- ---- no cycle

within : {A : Type 0} (xss : List (List A)) (v : ℕ) (w : A) → In w (get_or xss v []) → v < length xss
within [] v w i = absurd i
within (xs ∷ xss) zero w i = omega arith
within (xs ∷ xss) (suc v) w i = let h = within xss v w i in omega (arith, h)

reaching_within : (edges : List (List ℕ)) (v x : ℕ) → Reaches edges v x → v < length edges
reaching_within edges v x (edge a b c) = within edges a b (contains_in (targets edges a) b c)
reaching_within edges v x (along a b d c r) = within edges a b (contains_in (targets edges a) b c)

spot_there : (ss : List Spot) (v : ℕ) → v < length ss → (s : Spot) × (slice_get ss v ≡ Some s)
spot_there [] v h = absurd (omega (arith, h))
spot_there (s ∷ ss) zero h = (s, refl)
spot_there (s ∷ ss) (suc v) h = spot_there ss v (omega (arith, h))

-- where nodes have places, and none of these is on a cycle, none of the nodes is
pub none_on_cycle : (edges : List (List ℕ)) (spots : List Spot) → length spots ≡ length edges → ((s : Spot) (v : ℕ) → IsOnCycle edges v → slice_get spots v ≡ Some s → ⊥) → IsAcyclic edges
none_on_cycle edges spots size none v on =
    let below : v < length spots = subst (λ n. v < n) (sym size) (reaching_within edges v v on) in
    let s = spot_there spots v below in
    none s.0 v on s.1

pub acyclic_recipes : (wins : Wins) (layout : Layout) → IsFirstSpot (IsCircularRecipe wins layout) None → IsAcyclic (recipe_graph wins layout)
unfolding IsFirstSpot
acyclic_recipes wins layout none =
    none_on_cycle (recipe_graph wins layout) (map recipe_spot (all_recipes wins layout))
    (length-map (all_recipes wins layout) recipe_spot ∙ sym (length-map (all_recipes wins layout) (recipes_needed wins layout))) (λ s v on at. none s (v, on, at))
