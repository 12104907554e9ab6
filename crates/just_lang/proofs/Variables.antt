-- The graph of the variables of a module, and their places, by the items that they are.
use Rattle.std.proofs.Common.{◌≡◌, ℕ, ◌<◌, true, List, [], ◌∷◌, length, map, Option, Some, None, refl, sym, ap, ◌∙◌, subst}
use Rattle.std.specs.Prelude.{filter_map}
use Rattle.std.specs.List.{cons_option, All, AllByRecursion as ByRecursion}
use Rattle.std.proofs.lemmas.List.{length-map}
use Rattle.std.proofs.lemmas.List.Elements.{All-cons, All-nil}
use Rattle.just_lang_syntax.specs.declared.ast.AstItem.{AstItem}
use Rattle.just_lang_syntax.specs.declared.ast.AstItem.TheVariants as item
use Rattle.just_lang_syntax.specs.declared.ast.Name.{Name}
use Rattle.just_lang_spots.specs.Graph.{IsGraph}
use Rattle.just_lang_spots.specs.declared.index.Index.{Index}
use Rattle.just_lang_spots.specs.declared.spot.Spot.{Spot}
use Rattle.just_lang_spots.specs.Entries.{last_place, place_in, IsIndex}
use Rattle.just_lang_spots.specs.Items.{Variable, variable_in, is_assignment}
use Rattle.just_lang_names.specs.NamesUsed.{names_of_expr}
use Rattle.just_lang.specs.Cycles.{IsFirstSpot, IsSpotOnCycle, IsCircularAmong, variable_name, variables_used, variable_graph, variable_spot}
use Rattle.just_lang.specs.CycleTables.{places_in, names_in_value, uses_in, variable_spot_in}
use Rattle.just_lang.proofs.LastPlaces.{IsThing, place_through, variable_thing, last_short}

-- ---- lists

pub picked_same : {A B : Type 0} (f g : A → Option B) → ((x : A) → f x ≡ g x) → (xs : List A) → filter_map f xs ≡ filter_map g xs
picked_same f g h [] = refl
picked_same {A} {B} f g h (x ∷ xs) = ap (λ (o : Option B). cons_option o (filter_map f xs)) (h x) ∙ ap (λ (ys : List B). cons_option (g x) ys) (picked_same f g h xs)

cons_below : (n : ℕ) (o : Option ℕ) (ys : List ℕ) → ((k : ℕ) → o ≡ Some k → k < n) → All (λ w. w < n) ys → All (λ w. w < n) (cons_option o ys)
cons_below n None ys h all = all
cons_below n (Some k) ys h all = All-cons (λ w. w < n) k ys (h k refl) all

pub picked_below : {A : Type 0} (n : ℕ) (f : A → Option ℕ) → ((x : A) (k : ℕ) → f x ≡ Some k → k < n) → (xs : List A) → All (λ w. w < n) (filter_map f xs)
picked_below n f h [] = All-nil (λ w. w < n)
picked_below n f h (x ∷ xs) = cons_below n (f x) (filter_map f xs) (h x) (picked_below n f h xs)

pub mapped_all : {A B : Type 0} (P : B → Type 0) (f : A → B) → ((x : A) → P (f x)) → (xs : List A) → All P (map f xs)
mapped_all P f h [] = All-nil P
mapped_all P f h (x ∷ xs) = All-cons P (f x) (map f xs) (h x) (mapped_all P f h xs)

-- ---- an assignment is a variable

record IsVariable (x : ℕ × AstItem) : Type 0 where
  variable : ℕ × Variable
  is : variable_in x ≡ Some variable
  uses : names_in_value x.1 ≡ names_of_expr variable.1.value
  spot : variable_spot_in x ≡ Some (variable_spot variable)

a_variable : (x : ℕ × AstItem) → is_assignment x ≡ true → IsVariable x
a_variable (n, item.Assignment export name value comment) e =
    record { variable = (n, record { export = export; name = name; value = value }); is = refl; uses = refl; spot = refl }
a_variable (n, item.Blank) e = absurd (cc)
a_variable (n, item.Comment text) e = absurd (cc)
a_variable (n, item.Alias name target comment) e = absurd (cc)
a_variable (n, item.Import optional path comment) e = absurd (cc)
a_variable (n, item.Module attributes optional name path comment) e = absurd (cc)
a_variable (n, item.Recipe r) e = absurd (cc)
a_variable (n, item.Unexport name comment) e = absurd (cc)
a_variable (n, item.Setting name value comment) e = absurd (cc)

abbrev pub AreAssignments : List (ℕ × AstItem) → Type 0
AreAssignments xs = ByRecursion (λ x. is_assignment x ≡ true) xs

things : (xs : List (ℕ × AstItem)) → AreAssignments xs → ByRecursion (IsThing variable_in variable_name) xs
things [] all = tt
things (x ∷ xs) all = (variable_thing x all.0, things xs all.1)

-- ---- the graph

module _ (index : Index) (items : List (ℕ × AstItem)) (are : AreAssignments items) (indexed : IsIndex items index) where
  place_same : (q : List ℕ) → place_in index q ≡ last_place variable_name q (filter_map variable_in items)
  place_same q = indexed q ∙ sym (place_through variable_in variable_name q items (things items are))

  uses_same : (names : List Name) → places_in index names ≡ filter_map (λ (n : Name). last_place variable_name n.text (filter_map variable_in items)) names
  uses_same names =
      picked_same (λ (n : Name). place_in index n.text) (λ (n : Name). last_place variable_name n.text (filter_map variable_in items)) (λ n. place_same n.text) names

  edges_same : (xs : List (ℕ × AstItem)) → AreAssignments xs → map (uses_in index) xs ≡ map (variables_used (filter_map variable_in items)) (filter_map variable_in xs)
  edges_same [] all = refl
  edges_same (x ∷ xs) all =
      let v = a_variable x all.0 in
      let here : uses_in index x ≡ variables_used (filter_map variable_in items) v.variable = uses_same (names_in_value x.1) ∙ ap (λ (ns : List Name). filter_map (λ (n : Name). last_place variable_name n.text (filter_map variable_in items)) ns) v.uses in
      ap (λ (us : List ℕ). us ∷ map (uses_in index) xs) here ∙ ap (λ (uss : List (List ℕ)). variables_used (filter_map variable_in items) v.variable ∷ uss) (edges_same xs all.1)
      ∙ sym (ap (λ (o : Option (ℕ × Variable)). map (variables_used (filter_map variable_in items)) (cons_option o (filter_map variable_in xs))) v.is)

  pub edges_are : map (uses_in index) items ≡ variable_graph (filter_map variable_in items)
  edges_are = edges_same items are

pub spots_are : (xs : List (ℕ × AstItem)) → AreAssignments xs → filter_map variable_spot_in xs ≡ map variable_spot (filter_map variable_in xs)
spots_are [] all = refl
spots_are (x ∷ xs) all =
    let v = a_variable x all.0 in
    ap (λ (o : Option Spot). cons_option o (filter_map variable_spot_in xs)) v.spot ∙ ap (λ (ss : List Spot). variable_spot v.variable ∷ ss) (spots_are xs all.1)
    ∙ sym (ap (λ (o : Option (ℕ × Variable)). map variable_spot (cons_option o (filter_map variable_in xs))) v.is)

-- each variable that a value names is one of them
pub variables_graph : (vs : List (ℕ × Variable)) → IsGraph (variable_graph vs)
variables_graph vs =
    let size : length (variable_graph vs) ≡ length vs = length-map vs (variables_used vs) in
    subst (λ n. All (λ (ws : List ℕ). All (λ w. w < n) ws) (variable_graph vs)) (sym size)
    (mapped_all (λ (ws : List ℕ). All (λ w. w < length vs) ws) (variables_used vs)
    (λ x. picked_below (length vs) (λ (n : Name). last_place variable_name n.text vs) (λ n k e. last_short variable_name n.text vs k e) (names_of_expr x.1.value)) vs)

-- ---- over what the code has

pub graph_of_module : (index : Index) (items : List (ℕ × AstItem)) (edges : List (List ℕ)) → AreAssignments items → IsIndex items index → edges ≡ map (uses_in index) items → IsGraph edges
graph_of_module index items edges are indexed e =
    subst (λ (es : List (List ℕ)). IsGraph es) (sym (e ∙ edges_are index items are indexed)) (variables_graph (filter_map variable_in items))

pub size_of_module : (index : Index) (items : List (ℕ × AstItem)) (edges : List (List ℕ)) (spots : List Spot) → AreAssignments items → IsIndex items index → edges ≡ map (uses_in index) items
    → spots ≡ filter_map variable_spot_in items → length spots ≡ length edges
size_of_module index items edges spots are indexed e s =
    let vs = filter_map variable_in items in
    ap length (s ∙ spots_are items are) ∙ length-map vs variable_spot ∙ sym (length-map vs (variables_used vs)) ∙ sym (ap length (e ∙ edges_are index items are indexed))

pub first_of_module : (index : Index) (items : List (ℕ × AstItem)) (edges : List (List ℕ)) (spots : List Spot) (first : Option Spot) → AreAssignments items → IsIndex items index → edges ≡ map (uses_in index) items
    → spots ≡ filter_map variable_spot_in items → IsFirstSpot (IsSpotOnCycle edges spots) first → IsFirstSpot (IsCircularAmong (filter_map variable_in items)) first
first_of_module index items edges spots first are indexed e s h =
    subst (λ (es : List (List ℕ)). IsFirstSpot (IsSpotOnCycle es (map variable_spot (filter_map variable_in items))) first) (e ∙ edges_are index items are indexed)
    (subst (λ (ss : List Spot). IsFirstSpot (IsSpotOnCycle edges ss) first) (s ∙ spots_are items are) h)
