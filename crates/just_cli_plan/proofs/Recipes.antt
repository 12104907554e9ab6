-- The recipes of all modules by their paths, and where dependencies lead.
use Rattle.std.proofs.Common.{◌≡◌, ℕ, zero, suc, ◌+◌, ◌<◌, inl, inr, Bool, true, false, List, [], ◌∷◌, ◌++◌, length, map, take, Option, Some, None, refl, sym, ap, ◌∙◌, subst, arith, length-append}
use Rattle.std.specs.Prelude.{bytes_eq, filter_map, slice_get, unwrap_or}
use Rattle.std.specs.Option.{option_map, option_map_or}
use Rattle.std.specs.Cmp.Lexicographic.{pointwise, pointwise_decides, bytes_decides}
use Rattle.std.proofs.lemmas.List.{map-append}
use Rattle.just_eval_closure.proofs.Items.{In, in_map, map_in}
use Rattle.just_lang_syntax.specs.declared.ast.AstDependency.{AstDependency}
use Rattle.just_lang_syntax.specs.declared.ast.AstRecipe.{AstRecipe}
use Rattle.just_lang_syntax.specs.declared.ast.Name.{Name}
use Rattle.just_lang_types.specs.declared.recipe.Modulepath.{Modulepath}
use Rattle.just_lang_layout.specs.declared.layout.Layout.{Layout}
use Rattle.just_lang_layout.specs.declared.layout.Module.{Module}
use Rattle.just_lang_spots.specs.Entries.{last_place}
use Rattle.just_lang_spots.specs.Standing.{Wins}
use Rattle.just_lang_names.specs.Lookup.{Target, Found_recipe, Found_module, Found_absent, Found_nothing, recipe_named, recipe_or, absent_or, child, is_absent, behind, target_with, dependency_end, dependency_target}
use Rattle.just_lang_names.specs.Standing.{standing_recipes}
use Rattle.just_lang.specs.Cycles.{Standing, in_module, recipes_from, all_recipes, recipes_before, recipe_name, place_of_recipe, place_of_target, place_of_dependency, dependencies_of}
use Rattle.just_lang.specs.Linked.{path_in, recipe_path}
use Rattle.just_cli_plan.proofs.Apart.{in_parts, AreApart, apart_append, apart_by, pushed_same}
use Rattle.just_cli_plan.proofs.ModulePaths.{paths}
use Rattle.just_cli_plan.proofs.Names.{recipes_apart, last_named, IsRecipeOf, recipe_found}

abbrev pub Path : Type 0
Path = List (List ℕ)

-- ---- paths from the root

abbrev pub module_path : Layout → ℕ → Path
module_path layout m = option_map_or (λ (x : Module). x.path.components) (slice_get layout.modules m) []

-- the path of a recipe that stands
abbrev pub standing_path : Layout → Standing → Path
standing_path layout s = module_path layout s.0 ++ s.2.name.text ∷ []

abbrev pub standing_paths : Layout → List Standing → List Path
standing_paths layout ss = map (standing_path layout) ss

-- the paths of the recipes that some dependencies in a module come to
abbrev pub paths_needed : Wins → Layout → ℕ → List AstDependency → List Modulepath
paths_needed wins layout m ds = filter_map (λ (d : AstDependency). recipe_path layout (dependency_target wins layout m d.path)) ds

-- a path and those that its recipe depends on
abbrev pub Shape : Type 0
Shape = Path × List Modulepath

abbrev pub shape_of : Wins → Layout → Standing → Shape
shape_of wins layout s = (standing_path layout s, paths_needed wins layout s.0 (dependencies_of s.2))

-- ---- a path stands first at a place

abbrev pub IsFirstAt : List Path → Path → ℕ → Type 0
IsFirstAt [] q v = ⊥
IsFirstAt (p ∷ ps) q zero = pointwise bytes_eq p q ≡ true
IsFirstAt (p ∷ ps) q (suc v) = (pointwise bytes_eq p q ≡ false) × IsFirstAt ps q v

pub first_below : (ps : List Path) (q : Path) (v : ℕ) → IsFirstAt ps q v → v < length ps
first_below [] q v h = absurd h
first_below (p ∷ ps) q zero h = omega arith
first_below (p ∷ ps) q (suc v) h = let rest = first_below ps q v h.1 in omega (arith, rest)

same_true : (p q : Path) → p ≡ q → pointwise bytes_eq p q ≡ true
same_true p q e = (pointwise_decides bytes_decides p q).1 e

get_in : {A : Type 0} (xs : List A) (k : ℕ) (x : A) → slice_get xs k ≡ Some x → In x xs
get_in [] k x e = absurd (cc)
get_in (y ∷ ys) zero x e = inl (ap (λ o. unwrap_or o y) e)
get_in (y ∷ ys) (suc k) x e = inr (get_in ys k x e)

-- where paths stand apart, each stands first where it stands
pub first_at : {A : Type 0} (f : A → Path) (xs : List A) (k : ℕ) (x : A) → AreApart (map f xs) → slice_get xs k ≡ Some x → IsFirstAt (map f xs) (f x) k
first_at f [] k x apart e = absurd (cc)
first_at f (y ∷ ys) zero x apart e = same_true (f y) (f x) (ap (λ o. f (unwrap_or o y)) e)
first_at f (y ∷ ys) (suc k) x apart e = (
  elim (pointwise bytes_eq (f y) (f x)) as (λ b. pointwise bytes_eq (f y) (f x) ≡ b → b ≡ false) [
    | true ↦ λ t. absurd (apart.0 (map_in f ys x (f y) (get_in ys k x e) (sym ((pointwise_decides bytes_decides (f y) (f x)).0 t))))
    | false ↦ λ t. refl
  ] refl,
  first_at f ys k x apart.1 e,
)

-- ---- the paths of all recipes stand apart

module _ (wins : Wins) (layout : Layout) where
  of_module : (n : ℕ) (x : Module) → slice_get layout.modules n ≡ Some x → (r : ℕ × AstRecipe) → standing_path layout (in_module n r) ≡ x.path.components ++ r.1.name.text ∷ []
  of_module n x at r = ap (λ (o : Option Module). option_map_or (λ (y : Module). y.path.components) o [] ++ r.1.name.text ∷ []) at

  own_paths : (n : ℕ) (x : Module) → slice_get layout.modules n ≡ Some x → (rs : List (ℕ × AstRecipe)) → standing_paths layout (map (in_module n) rs) ≡ map (λ (r : ℕ × AstRecipe). x.path.components ++ r.1.name.text ∷ []) rs
  own_paths n x at [] = refl
  own_paths n x at (r ∷ rs) =
      ap (λ (p : Path). p ∷ standing_paths layout (map (in_module n) rs)) (of_module n x at r) ∙ ap (λ (ps : List Path). (x.path.components ++ r.1.name.text ∷ []) ∷ ps) (own_paths n x at rs)

  own_apart : (n : ℕ) (x : Module) → slice_get layout.modules n ≡ Some x → AreApart (standing_paths layout (map (in_module n) (standing_recipes wins layout.files x)))
  own_apart n x at =
      subst (λ (ps : List Path). AreApart ps) (sym (own_paths n x at (standing_recipes wins layout.files x)))
      (apart_by (λ (r : ℕ × AstRecipe). x.path.components ++ r.1.name.text ∷ []) (λ (r : ℕ × AstRecipe). recipe_name r.1)
      (λ a b e. (pushed_same x.path.components x.path.components a.1.name.text b.1.name.text e).1) (standing_recipes wins layout.files x) (recipes_apart wins layout.files x))

  -- the modules from a number on are those
  abbrev pub AreFrom : ℕ → List Module → Type 0
  AreFrom n ms = (i : ℕ) (x : Module) → slice_get ms i ≡ Some x → slice_get layout.modules (n + i) ≡ Some x

  pub from_next : (n : ℕ) (m : Module) (ms : List Module) → AreFrom n (m ∷ ms) → AreFrom (suc n) ms
  from_next n m ms from i x e = let same : n + suc i ≡ suc n + i = omega arith in subst (λ k. slice_get layout.modules k ≡ Some x) same (from (suc i) x e)

  pub from_here : (n : ℕ) (m : Module) (ms : List Module) → AreFrom n (m ∷ ms) → slice_get layout.modules n ≡ Some m
  from_here n m ms from = let same : n + 0 ≡ n = omega arith in subst (λ k. slice_get layout.modules k ≡ Some m) same (from 0 m refl)

  -- the path of a recipe of some modules is the path of one of them, with a name behind it
  path_of_one : (n : ℕ) (ms : List Module) → AreFrom n ms → (q : Path) → In q (standing_paths layout (recipes_from wins layout.files n ms)) → (p : Path) × In p (paths ms) × ((name : List ℕ) × (q ≡ p ++ name ∷ []))
  path_of_one n [] from q i = absurd i
  path_of_one n (m ∷ ms) from q i =
      let own : List Standing = map (in_module n) (standing_recipes wins layout.files m) in
      let more : List Standing = recipes_from wins layout.files (suc n) ms in
      elim (in_parts (standing_paths layout own) (standing_paths layout more) q (subst (λ (l : List Path). In q l) (map-append (standing_path layout) own more) i)) [
        | inl a ↦
            let h = in_map (λ (r : ℕ × AstRecipe). m.path.components ++ r.1.name.text ∷ []) (standing_recipes wins layout.files m) q (subst (λ (l : List Path). In q l) (own_paths n m (from_here n m ms from) (standing_recipes wins layout.files m)) a) in
            (m.path.components, inl refl, (h.0.1.name.text, sym h.2))
        | inr b ↦ let h = path_of_one (suc n) ms (from_next n m ms from) q b in (h.0, inr h.1, h.2)
      ]

  apart_from : (n : ℕ) (ms : List Module) → AreFrom n ms → AreApart (paths ms) → AreApart (standing_paths layout (recipes_from wins layout.files n ms))
  apart_from n [] from apart = tt
  apart_from n (m ∷ ms) from apart =
      let own : List Standing = map (in_module n) (standing_recipes wins layout.files m) in
      let more : List Standing = recipes_from wins layout.files (suc n) ms in
      let here = from_here n m ms from in
      subst (λ (l : List Path). AreApart l) (sym (map-append (standing_path layout) own more))
      (apart_append (standing_paths layout own) (standing_paths layout more) (own_apart n m here) (apart_from (suc n) ms (from_next n m ms from) apart.1) (λ q a b.
      let x = in_map (λ (r : ℕ × AstRecipe). m.path.components ++ r.1.name.text ∷ []) (standing_recipes wins layout.files m) q (subst (λ (l : List Path). In q l) (own_paths n m here (standing_recipes wins layout.files m)) a) in
      let y = path_of_one (suc n) ms (from_next n m ms from) q b in
      let same : m.path.components ≡ y.0 = (pushed_same m.path.components y.0 x.0.1.name.text y.2.0 (x.2 ∙ y.2.1)).0 in
      apart.0 (subst (λ (p : Path). In p (paths ms)) (sym same) y.1)))

  pub all_apart : AreApart (paths layout.modules) → AreApart (standing_paths layout (all_recipes wins layout))
  all_apart apart = apart_from 0 layout.modules (λ i x e. let same : i ≡ 0 + i = omega arith in subst (λ k. slice_get layout.modules k ≡ Some x) same e) apart

  -- ---- the recipe at a place

  get_front : {A : Type 0} (xs ys : List A) (k : ℕ) (x : A) → slice_get xs k ≡ Some x → slice_get (xs ++ ys) k ≡ Some x
  get_front [] ys k x e = absurd (cc)
  get_front (z ∷ xs) ys zero x e = e
  get_front (z ∷ xs) ys (suc k) x e = get_front xs ys k x e

  get_back : {A : Type 0} (xs ys : List A) (k : ℕ) (x : A) → slice_get ys k ≡ Some x → slice_get (xs ++ ys) (length xs + k) ≡ Some x
  get_back [] ys k x e = let same : k ≡ 0 + k = omega arith in subst (λ n. slice_get ys n ≡ Some x) same e
  get_back (z ∷ xs) ys k x e = let same : suc (length xs + k) ≡ suc (length xs) + k = omega arith in subst (λ n. slice_get (z ∷ (xs ++ ys)) n ≡ Some x) same (get_back xs ys k x e)

  get_mapped : {A B : Type 0} (f : A → B) (xs : List A) (k : ℕ) (x : A) → slice_get xs k ≡ Some x → slice_get (map f xs) k ≡ Some (f x)
  get_mapped f [] k x e = absurd (cc)
  get_mapped f (y ∷ ys) zero x e = ap (λ o. Some (f (unwrap_or o y))) e
  get_mapped f (y ∷ ys) (suc k) x e = get_mapped f ys k x e

  get_from : (n : ℕ) (ms : List Module) (i : ℕ) (x : Module) (k : ℕ) (r : ℕ × AstRecipe) → slice_get ms i ≡ Some x → slice_get (standing_recipes wins layout.files x) k ≡ Some r
      → slice_get (recipes_from wins layout.files n ms) (length (recipes_from wins layout.files n (take i ms)) + k) ≡ Some (in_module (n + i) r)
  get_from n [] i x k r e g = absurd (cc)
  get_from n (m ∷ ms) zero x k r e g =
      let own : List Standing = map (in_module n) (standing_recipes wins layout.files m) in
      let is : m ≡ x = ap (λ (o : Option Module). unwrap_or o m) e in
      let here : slice_get own k ≡ Some (in_module n r) = get_mapped (in_module n) (standing_recipes wins layout.files m) k r (subst (λ (y : Module). slice_get (standing_recipes wins layout.files y) k ≡ Some r) (sym is) g) in
      let same : n ≡ n + 0 = omega arith in
      let place : k ≡ 0 + k = omega arith in
      subst (λ j. slice_get (own ++ recipes_from wins layout.files (suc n) ms) j ≡ Some (in_module (n + 0) r)) place
      (subst (λ j. slice_get (own ++ recipes_from wins layout.files (suc n) ms) k ≡ Some (in_module j r)) same (get_front own (recipes_from wins layout.files (suc n) ms) k (in_module n r) here))
  get_from n (m ∷ ms) (suc i) x k r e g =
      let own : List Standing = map (in_module n) (standing_recipes wins layout.files m) in
      let front : List Standing = recipes_from wins layout.files (suc n) (take i ms) in
      let size : length (own ++ front) ≡ length own + length front = length-append own front in
      let place : length own + (length front + k) ≡ length (own ++ front) + k = omega (arith, size) in
      let same : suc n + i ≡ n + suc i = omega arith in
      subst (λ j. slice_get (own ++ recipes_from wins layout.files (suc n) ms) j ≡ Some (in_module (n + suc i) r)) place
      (subst (λ j. slice_get (own ++ recipes_from wins layout.files (suc n) ms) (length own + (length front + k)) ≡ Some (in_module j r)) same
      (get_back own (recipes_from wins layout.files (suc n) ms) (length front + k) (in_module (suc n + i) r) (get_from (suc n) ms i x k r e g)))

  -- ---- where dependencies lead

  abbrev recipe_of_target : Target → Option (ℕ × (ℕ × AstRecipe))
  recipe_of_target (Found_recipe m file r) = Some (m, (file, r))
  recipe_of_target (Found_module m) = None
  recipe_of_target Found_absent = None
  recipe_of_target (Found_nothing name) = None

  abbrev IsNamedIn : ℕ × (ℕ × AstRecipe) → Type 0
  IsNamedIn z = (q : List ℕ) × (recipe_named wins layout z.0 q ≡ Some z.1)

  end_named : (m : ℕ) (n : Name) (z : ℕ × (ℕ × AstRecipe)) (o : Option (ℕ × AstRecipe)) → recipe_named wins layout m n.text ≡ o → recipe_of_target (recipe_or (Found_nothing n) m o) ≡ Some z → IsNamedIn z
  end_named m n z None is e = absurd (cc)
  end_named m n z (Some x) is e =
      let same : (m, (x.0, x.1)) ≡ z = ap (λ (o : Option (ℕ × (ℕ × AstRecipe))). unwrap_or o (m, (x.0, x.1))) e in
      subst IsNamedIn same (n.text, is)

  absent_none : (n : Name) (b : Bool) (z : ℕ × (ℕ × AstRecipe)) → recipe_of_target (absent_or (Found_nothing n) b) ≡ Some z → ⊥
  absent_none n true z e = absurd (cc)
  absent_none n false z e = absurd (cc)

  target_named : (names : List Name) (m : ℕ) (z : ℕ × (ℕ × AstRecipe)) → recipe_of_target (target_with (dependency_end wins layout) layout names m) ≡ Some z → IsNamedIn z
  target_named [] m z e = absurd (cc)
  target_named (n ∷ []) m z e = end_named m n z (recipe_named wins layout m n.text) refl e
  target_named (n ∷ n' ∷ names) m z e =
      elim (child layout m n.text) as (λ o. recipe_of_target (behind (dependency_end wins layout) layout (target_with (dependency_end wins layout) layout (n' ∷ names)) n m o) ≡ Some z → IsNamedIn z) [
        | None ↦ λ e. absurd (absent_none n (is_absent layout m n.text) z e)
        | Some k ↦ λ e. target_named (n' ∷ names) k z e
      ] e

  abbrev Leads : Modulepath → ℕ → Type 0
  Leads y w = IsFirstAt (standing_paths layout (all_recipes wins layout)) y.components w

  leads_to : AreApart (paths layout.modules) → (k file : ℕ) (r : AstRecipe) (q : List ℕ) (y : Modulepath) → IsRecipeOf wins layout k q (file, r) → path_in layout k r.name.text ≡ Some y
      → (w : ℕ) × (place_of_recipe wins layout k r.name.text ≡ Some w) × Leads y w
  leads_to apart k file r q y f e =
      let before : ℕ = recipes_before wins layout k in
      let el = last_named recipe_name q (standing_recipes wins layout.files f.of_module) f.place f.is_place in
      let got : slice_get (all_recipes wins layout) (before + f.place) ≡ Some (in_module (0 + k) el.0) = get_from 0 layout.modules k f.of_module f.place el.0 f.at el.1 in
      let zero_k : 0 + k ≡ k = omega arith in
      let got_here : slice_get (all_recipes wins layout) (before + f.place) ≡ Some (in_module k el.0) = subst (λ j. slice_get (all_recipes wins layout) (before + f.place) ≡ Some (in_module j el.0)) zero_k got in
      let path_is : standing_path layout (in_module k el.0) ≡ y.components =
      of_module k f.of_module f.at el.0 ∙ ap (λ (name : List ℕ). f.of_module.path.components ++ name ∷ []) (el.2 ∙ sym f.same)
      ∙ ap (λ (o : Option Modulepath). (unwrap_or o y).components) (sym (ap (λ (o : Option Module). option_map (λ (x : Module). record { components = x.path.components ++ r.name.text ∷ [] }) o) f.at) ∙ e) in (
        before + f.place,
        ap (λ (name : List ℕ). place_of_recipe wins layout k name) f.same
            ∙ ap (λ (o : Option Module). option_map (λ j. before + j) (last_place recipe_name q (option_map_or (standing_recipes wins layout.files) o []))) f.at
            ∙ ap (λ (o : Option ℕ). option_map (λ j. before + j) o) f.is_place,
        subst (λ (p : Path). IsFirstAt (standing_paths layout (all_recipes wins layout)) p (before + f.place)) path_is
            (first_at (standing_path layout) (all_recipes wins layout) (before + f.place) (in_module k el.0) (all_apart apart) got_here),
      )

  -- a dependency that has a path has a place
  pub leads : AreApart (paths layout.modules) → (m : ℕ) (d : AstDependency) (y : Modulepath) → recipe_path layout (dependency_target wins layout m d.path) ≡ Some y
      → (w : ℕ) × (place_of_dependency wins layout m d ≡ Some w) × Leads y w
  leads apart m d y e =
      elim (dependency_target wins layout m d.path) as (λ t. dependency_target wins layout m d.path ≡ t → recipe_path layout t ≡ Some y → (w : ℕ) × (place_of_target wins layout t ≡ Some w) × Leads y w) [
        | Found_recipe k file r ↦ λ t e.
            let h = target_named d.path m (k, (file, r)) (ap recipe_of_target t) in
            leads_to apart k file r h.0 y (recipe_found wins layout k h.0 (file, r) h.1) e
        | Found_module k ↦ λ t e. absurd (cc)
        | Found_absent ↦ λ t e. absurd (cc)
        | Found_nothing name ↦ λ t e. absurd (cc)
      ] refl e
