-- Recipes that can't be run.
use Rattle.std.proofs.Common.{◌≡◌, ℕ, ◌+◌, ◌<◌, inl, inr, Bool, true, false, not, cond, List, [], ◌∷◌, ◌++◌, length, map, get_or, Option, Some, None, refl, sym, ap, ◌∙◌, subst, arith, ◌↔◌}
use Rattle.std.specs.Prelude.{slice_get}
use Rattle.std.specs.Option.{option_map, option_map_or}
use Rattle.std.specs.List.{cons_option, All, Contains}
use Rattle.std.proofs.lemmas.Bool.{cases_lt}
use Rattle.std.proofs.lemmas.List.{length-map, get_or_past}
use Rattle.std.proofs.lemmas.Option.{slice_get-get_or, slice_get-map}
use Rattle.just_lang_layout.specs.declared.layout.Layout.{Layout}
use Rattle.just_lang_spots.specs.Graph.{targets, IsGraph, Reaches, edge, along, IsAcyclic, LeadsToCycle}
use Rattle.just_lang_spots.specs.Origins.{AreOrigins}
use Rattle.just_lang_spots.proofs.Search.{All-from_contains}
use Rattle.just_lang_spots.specs.Repeated.{is_among}
use Rattle.just_lang_spots.specs.Standing.{Wins}
use Rattle.just_lang.specs.Cycles.{Standing, IsFirstSpot, IsCircularRecipe, all_recipes, recipe_graph, recipe_spot, recipes_needed}
use Rattle.just_lang.specs.Disabling.{each_once, own_absent, is_filled, AreCauses, modules_of_cause}
use Rattle.just_lang_names.specs.Names.{layout_of, wins_of}
use Rattle.just_lang.specs.declared.recipe.Recipes.{Recipes}
use Rattle.just_lang.specs.declared.recipe.StandingRecipe as code
use Rattle.just_lang.specs.CycleTables.{standings, AreRecipes}
use Rattle.just_lang.specs.DisablingTables.{text, texts, text_where}
use Rattle.just_lang.proofs.RecipeGraphs.{graph_of_recipes}
use Rattle.just_lang.specs.SpotOrder.{nowhere}
use Rattle.just_lang_rules.proofs.Loops.{map_append, map_option, option_front}
use Rattle.std.proofs.Common.{append_assoc}
use denote.Ref.{Bor}

-- ---- each text once

kept_where : (b : Bool) (x : List ℕ) (rest : List (List ℕ)) → cons_option (text_where (not b) x) rest ≡ cond b rest (x ∷ rest)
kept_where true x rest = refl
kept_where false x rest = refl

pub once_step : (before before' : List (List ℕ)) (x : List ℕ) (rest more : List (List ℕ)) (old new : List (Bor (List ℕ))) (one : Option (Bor (List ℕ))) (is_new : Bool)
    → before' ≡ before ++ x ∷ [] → more ≡ x ∷ rest → is_new ≡ not (is_among x before) → option_map text one ≡ text_where is_new x → new ≡ old ++ cons_option one []
    → texts new ++ each_once before' rest ≡ texts old ++ each_once before more
once_step before before' x rest more old new one is_new b m n o e =
    let behind = each_once (before ++ x ∷ []) rest in
    let front : texts new ≡ texts old ++ cons_option (text_where (not (is_among x before)) x) [] =
    ap texts e ∙ map_append text old (cons_option one []) ∙ ap (λ (xs : List (List ℕ)). texts old ++ xs) (map_option text one [])
    ∙ ap (λ (p : Option (List ℕ)). texts old ++ cons_option p []) (o ∙ ap (λ t. text_where t x) n) in
    ap (λ (bs : List (List ℕ)). texts new ++ each_once bs rest) b ∙ ap (λ (xs : List (List ℕ)). xs ++ behind) front
    ∙ append_assoc (texts old) (cons_option (text_where (not (is_among x before)) x) []) behind
    ∙ ap (λ (xs : List (List ℕ)). texts old ++ xs) (option_front (text_where (not (is_among x before)) x) behind ∙ kept_where (is_among x before) x behind ∙ sym (ap (each_once before) m))

-- ---- no recipe lies on a cycle

-- a node with a target is one of the graph
source_within : (edges : List (List ℕ)) (v w : ℕ) → Contains (targets edges v) w → v < length edges
source_within edges v w c =
    elim (cases_lt v (length edges)) [
      | inl less ↦ less
      | inr past ↦ absurd (let none : targets edges v ≡ [] = get_or_past edges v [] past in nothing (targets edges v) w none c)
    ]
  where
    nothing : (xs : List ℕ) (x : ℕ) → xs ≡ [] → Contains xs x → ⊥
    nothing xs x e c = let less : c.0 < length xs = c.1 in let size : length xs ≡ 0 = ap length e in omega (arith, less, size)

reaching_within : (edges : List (List ℕ)) (v w : ℕ) → Reaches edges v w → v < length edges
reaching_within edges v w (edge a b c) = source_within edges a b c
reaching_within edges v w (along a b x c more) = source_within edges a b c

module _ (wins : Wins) (layout : Layout) (none : IsFirstSpot (IsCircularRecipe wins layout) None) where
  pub recipes_acyclic : IsAcyclic (recipe_graph wins layout)
  unfolding IsFirstSpot
  recipes_acyclic v cycle =
      let all = all_recipes wins layout in
      let size : length (recipe_graph wins layout) ≡ length all = length-map all (recipes_needed wins layout) in
      let many : length (map recipe_spot all) ≡ length all = length-map all recipe_spot in
      let within : v < length (map recipe_spot all) = subst (λ n. v < n) (size ∙ sym many) (reaching_within (recipe_graph wins layout) v v cycle) in
      none (get_or (map recipe_spot all) v nowhere) (v, cycle, slice_get-get_or (map recipe_spot all) v nowhere within)

-- ---- which recipes have modules of their own that aren't there

map_map : {A B C : Type 0} (g : B → C) (f : A → B) (xs : List A) → map g (map f xs) ≡ map (λ x. g (f x)) xs
map_map g f [] = refl
map_map {A} {B} {C} g f (x ∷ xs) = ap (λ (ys : List C). g (f x) ∷ ys) (map_map g f xs)

own_are : (wins : Wins) (layout : Layout) (absent : List (List (List ℕ))) (own : List Bool) → absent ≡ map (own_absent layout) (all_recipes wins layout)
    → own ≡ map is_filled absent → own ≡ map (λ (x : Standing). is_filled (own_absent layout x)) (all_recipes wins layout)
own_are wins layout absent own a o = o ∙ ap (λ (xss : List (List (List ℕ))). map is_filled xss) a ∙ map_map is_filled (own_absent layout) (all_recipes wins layout)

-- ---- an order of the nodes

-- the nodes that lead to no cycle
abbrev pub HasThem : List (List ℕ) → List ℕ → Type 0
HasThem edges order = (v : ℕ) → Contains order v ↔ ((v < length edges) × (LeadsToCycle edges v → ⊥))

pub order_within : (edges : List (List ℕ)) (order : List ℕ) → HasThem edges order → All (λ v. v < length edges) order
order_within edges order which = All-from_contains (λ v. v < length edges) order (λ v c. ((which v).0 c).0)

pub acyclic_whole : (edges : List (List ℕ)) (order : List ℕ) → IsAcyclic edges → HasThem edges order → (v : ℕ) → v < length edges → Contains order v
acyclic_whole edges order none which v h = (which v).1 (h, λ leads. none leads.0 leads.2)

-- ---- over what the code has

module _ (recipes : Recipes) (are : AreRecipes recipes) where
  pub edges_graph : (edges : List (List ℕ)) → edges ≡ recipes.edges.items → IsGraph edges
  edges_graph edges e = graph_of_recipes (wins_of recipes.names.now) (layout_of recipes.names.now) edges (e ∙ are.edges_are)

  pub edges_acyclic : (edges : List (List ℕ)) → IsFirstSpot (IsCircularRecipe (wins_of recipes.names.now) (layout_of recipes.names.now)) None → edges ≡ recipes.edges.items → IsAcyclic edges
  edges_acyclic edges none e = subst (λ (es : List (List ℕ)). IsAcyclic es) (sym (e ∙ are.edges_are)) (recipes_acyclic (wins_of recipes.names.now) (layout_of recipes.names.now) none)

  pub absent_are : (absent : List (List (List ℕ))) (list : List code.StandingRecipe) → list ≡ recipes.list.items → absent ≡ map (own_absent (layout_of recipes.names.now)) (standings list)
      → absent ≡ map (own_absent (layout_of recipes.names.now)) (all_recipes (wins_of recipes.names.now) (layout_of recipes.names.now))
  absent_are absent list e a = a ∙ ap (map (own_absent (layout_of recipes.names.now))) (ap standings e ∙ are.standing_are.list_is)

  module _ (edges : List (List ℕ)) (absent : List (List (List ℕ))) (own : List Bool) (e : edges ≡ recipes.edges.items)
      (a : absent ≡ map (own_absent (layout_of recipes.names.now)) (all_recipes (wins_of recipes.names.now) (layout_of recipes.names.now))) (o : own ≡ map is_filled absent) where
    pub own_length : length own ≡ length edges
    own_length =
        let all = all_recipes (wins_of recipes.names.now) (layout_of recipes.names.now) in
        ap length (own_are (wins_of recipes.names.now) (layout_of recipes.names.now) absent own a o) ∙ length-map all (λ (x : Standing). is_filled (own_absent (layout_of recipes.names.now) x))
        ∙ sym (length-map all (recipes_needed (wins_of recipes.names.now) (layout_of recipes.names.now))) ∙ sym (ap length (e ∙ are.edges_are))

    pub causes_for : (causes : List (Option ℕ)) → AreOrigins edges own causes → AreCauses (wins_of recipes.names.now) (layout_of recipes.names.now) causes
    causes_for causes h =
        subst (λ (es : List (List ℕ)). AreOrigins es (map (λ (x : Standing). is_filled (own_absent (layout_of recipes.names.now) x)) (all_recipes (wins_of recipes.names.now) (layout_of recipes.names.now))) causes) (e ∙ are.edges_are)
        (subst (λ (bs : List Bool). AreOrigins edges bs causes) (own_are (wins_of recipes.names.now) (layout_of recipes.names.now) absent own a o) h)

-- ---- the modules of a recipe

opened : (layout : Layout) (o : Option Standing) → option_map_or (λ (xs : List (List ℕ)). xs) (option_map (own_absent layout) o) [] ≡ option_map_or (own_absent layout) o []
opened layout None = refl
opened layout (Some x) = refl

pub modules_at : (wins : Wins) (layout : Layout) (absent : List (List (List ℕ))) (n : ℕ) → absent ≡ map (own_absent layout) (all_recipes wins layout)
    → option_map_or (λ (xs : List (List ℕ)). xs) (slice_get absent n) [] ≡ modules_of_cause wins layout (Some n)
modules_at wins layout absent n e =
    ap (λ (xss : List (List (List ℕ))). option_map_or (λ (xs : List (List ℕ)). xs) (slice_get xss n) []) e
    ∙ ap (λ (o : Option (List (List ℕ))). option_map_or (λ (xs : List (List ℕ)). xs) o []) (slice_get-map (own_absent layout) (all_recipes wins layout) n)
    ∙ opened layout (slice_get (all_recipes wins layout) n)
