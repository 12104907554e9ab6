-- The recipes of the justfile of a layout are those that stand, with the paths that they depend on.
use Rattle.std.proofs.Common.{◌≡◌, ℕ, suc, ◌+◌, inl, inr, List, [], ◌∷◌, ◌++◌, map, Option, Some, None, refl, sym, ap, ◌∙◌, subst, arith}
use Rattle.std.specs.Prelude.{filter_map, slice_get}
use Rattle.std.specs.Option.{option_map, option_map_or}
use Rattle.std.specs.List.{enumerate_from, All, AllZip}
use Rattle.std.proofs.lemmas.List.{map-append}
use Rattle.std.proofs.lemmas.List.Elements.{filter_map-append}
use Rattle.just_eval_closure.proofs.Items.{In, in_all, in_contains}
use Rattle.just_lang_syntax.specs.declared.ast.AstDependency.{AstDependency}
use Rattle.just_lang_syntax.specs.declared.ast.AstItem.{AstItem}
use Rattle.just_lang_syntax.specs.declared.ast.AstItem.TheVariants as item
use Rattle.just_lang_syntax.specs.declared.ast.AstRecipe.{AstRecipe}
use Rattle.just_lang_syntax.specs.declared.ast.Expr.{Expr}
use Rattle.just_lang_syntax.specs.declared.ast.Name.{Name}
use Rattle.just_lang_syntax.specs.declared.ast.StringLiteral.{StringLiteral}
use Rattle.just_lang_types.specs.declared.project.Justfile.{Justfile}
use Rattle.just_lang_types.specs.declared.recipe.Modulepath.{Modulepath}
use Rattle.just_lang_types.specs.declared.recipe.Recipe.{Recipe}
use Rattle.just_lang_layout.specs.declared.layout.Layout.{Layout}
use Rattle.just_lang_layout.specs.declared.layout.Module.{Module}
use Rattle.just_lang_spots.specs.Items.{recipe_in}
use Rattle.just_lang_spots.specs.Standing.{Wins}
use Rattle.just_lang_names.specs.Lookup.{dependency_target}
use Rattle.just_lang_names.specs.Standing.{standing_recipes, standing_recipe_items}
use Rattle.just_lang_shapes.specs.Recipes.{recipe_of}
use Rattle.just_lang_shapes.specs.Expansions.{expanded_exprs}
use Rattle.just_lang.specs.Cycles.{Standing, IsFirstSpot, IsCircularRecipe, IsCircularVariable, in_module, recipes_from, all_recipes}
use Rattle.just_lang.proofs.Loops.{map_picked}
use Rattle.just_lang.proofs.Variables.{picked_same}
use Rattle.just_lang_types.specs.Modules.{AreModules, Located, located, recipes_of as own_recipes, assignments_of as own_assignments}
use Rattle.just_lang_types.proofs.Nesting.{same_modules}
use Rattle.just_eval_closure.specs.Ends.{AreEnding}
use Rattle.just_eval.specs.Uses.{AreEnding as AreVariablesEnding}
use Rattle.just_lang_justfile.specs.Links.{Links}
use Rattle.just_lang_justfile.specs.Recipes as assembled
use Rattle.just_lang_justfile.specs.Modules.{IsModuleOf}
use Rattle.just_lang_justfile.specs.Trees.{AreModulesOf, IsAround, IsJustfileOf}
use Rattle.just_lang.specs.Linked.{recipe_path}
use Rattle.just_cli_plan.proofs.Apart.{AreApart}
use Rattle.just_cli_plan.proofs.ModulePaths.{paths}
use Rattle.just_cli_plan.proofs.Recipes.{Shape, shape_of, module_path, paths_needed, AreFrom, from_next, from_here}
use Rattle.just_cli_plan.proofs.Ending.{path_of_dependency, located_shape, recipes_end, acyclic_recipes}
use Rattle.just_cli_plan.proofs.Variables.{variables_end}

map_map : {A B C : Type 0} (f : B → C) (g : A → B) (xs : List A) → map f (map g xs) ≡ map (λ x. f (g x)) xs
map_map f g [] = refl
map_map {A} {B} {C} f g (x ∷ xs) = ap (λ (ys : List C). f (g x) ∷ ys) (map_map f g xs)

in_zip : {A B : Type 0} (R : A → B → Type 0) (xs : List A) (ys : List B) (y : B) → AllZip R xs ys → In y ys → (x : A) × In x xs × R x y
in_zip R [] [] y h i = absurd i
in_zip R [] (z ∷ ys) y h i = absurd h
in_zip R (x ∷ xs) [] y h i = absurd h
in_zip R (x ∷ xs) (z ∷ ys) y h (inl e) = (x, inl refl, subst (λ w. R x w) e h.0)
in_zip R (x ∷ xs) (z ∷ ys) y h (inr i) = let k = in_zip R xs ys y h.1 i in (k.0, inr k.1, k.2)

in_numbered : {A : Type 0} (n : ℕ) (xs : List A) (x : ℕ × A) → In x (enumerate_from n xs) → In x.1 xs
in_numbered n [] x i = absurd i
in_numbered {A} n (y ∷ ys) x (inl e) = inl (ap (λ (z : ℕ × A). z.1) e)
in_numbered n (y ∷ ys) x (inr i) = inr (in_numbered (n + 1) ys x i)

module _ (text_of : StringLiteral → Option (List ℕ)) (links : Links) (wins : Wins) (layout : Layout)
    (linked : (m : ℕ) (path : List Name) → links.dependency_path m path ≡ recipe_path layout (dependency_target wins layout m path)) where
  -- ---- dependencies

  same_path_of : (arguments : List Expr) (o : Option Modulepath) → option_map path_of_dependency (option_map (λ (p : Modulepath). record { path = p; arguments = arguments }) o) ≡ o
  same_path_of arguments None = refl
  same_path_of arguments (Some p) = refl

  path_needed : (m : ℕ) (d : AstDependency) → option_map path_of_dependency (assembled.dependency_of links m text_of d) ≡ recipe_path layout (dependency_target wins layout m d.path)
  path_needed m d = same_path_of (expanded_exprs text_of d.arguments) (links.dependency_path m d.path) ∙ linked m d.path

  paths_are : (m : ℕ) (ds : List AstDependency) → map path_of_dependency (assembled.dependencies_of links m text_of ds) ≡ paths_needed wins layout m ds
  paths_are m ds =
      map_picked path_of_dependency (assembled.dependency_of links m text_of) ds
      ∙ picked_same (λ (d : AstDependency). option_map path_of_dependency (assembled.dependency_of links m text_of d)) (λ (d : AstDependency). recipe_path layout (dependency_target wins layout m d.path)) (path_needed m) ds

  both_are : (m : ℕ) (priors subsequents : List AstDependency)
      → map path_of_dependency (assembled.dependencies_of links m text_of priors ++ assembled.dependencies_of links m text_of subsequents) ≡ paths_needed wins layout m (priors ++ subsequents)
  both_are m priors subsequents =
      map-append path_of_dependency (assembled.dependencies_of links m text_of priors) (assembled.dependencies_of links m text_of subsequents)
      ∙ ap (λ (ps : List Modulepath). ps ++ map path_of_dependency (assembled.dependencies_of links m text_of subsequents)) (paths_are m priors)
      ∙ ap (λ (ps : List Modulepath). paths_needed wins layout m priors ++ ps) (paths_are m subsequents)
      ∙ sym (filter_map-append (λ (d : AstDependency). recipe_path layout (dependency_target wins layout m d.path)) priors subsequents)

  -- ---- the recipes of a module

  module _ (n : ℕ) (m : Module) (at : slice_get layout.modules n ≡ Some m) (j : Justfile) where
    abbrev shape_in : Recipe → Shape
    shape_in r = located_shape (record { parent = j; recipe = r })

    one_shape : (file : ℕ) (r : AstRecipe) → shape_in (assembled.recipe_in links n text_of layout.files m.path file r) ≡ shape_of wins layout (in_module n (file, r))
    unfolding recipe_of
    one_shape file r =
        ap (λ (o : Option Module). (option_map_or (λ (x : Module). x.path.components) o [] ++ r.name.text ∷ [], map path_of_dependency (assembled.dependencies_of links n text_of r.priors ++ assembled.dependencies_of links n text_of r.subsequents))) (sym at)
        ∙ ap (λ (ps : List Modulepath). (module_path layout n ++ r.name.text ∷ [], ps)) (both_are n r.priors r.subsequents)

    shapes_of_items : (xs : List (ℕ × AstItem))
        → map shape_in (filter_map (assembled.recipe_at links n text_of layout.files m.path) xs) ≡ map (λ (s : ℕ × AstRecipe). shape_of wins layout (in_module n s)) (filter_map recipe_in xs)
    shapes_of_items [] = refl
    shapes_of_items ((file, item.Recipe r) ∷ xs) =
        ap (λ (s : Shape). s ∷ map shape_in (filter_map (assembled.recipe_at links n text_of layout.files m.path) xs)) (one_shape file r)
        ∙ ap (λ (ss : List Shape). shape_of wins layout (in_module n (file, r)) ∷ ss) (shapes_of_items xs)
    shapes_of_items ((file, item.Blank) ∷ xs) = shapes_of_items xs
    shapes_of_items ((file, item.Comment text) ∷ xs) = shapes_of_items xs
    shapes_of_items ((file, item.Alias name target comment) ∷ xs) = shapes_of_items xs
    shapes_of_items ((file, item.Import optional inner comment) ∷ xs) = shapes_of_items xs
    shapes_of_items ((file, item.Module attributes optional name inner comment) ∷ xs) = shapes_of_items xs
    shapes_of_items ((file, item.Assignment export name value comment) ∷ xs) = shapes_of_items xs
    shapes_of_items ((file, item.Unexport name comment) ∷ xs) = shapes_of_items xs
    shapes_of_items ((file, item.Setting name value comment) ∷ xs) = shapes_of_items xs

    shapes_of_module : IsModuleOf text_of links wins layout.files n m j
        → map located_shape (map (λ (r : Recipe). record { parent = j; recipe = r }) (own_recipes j)) ≡ map (shape_of wins layout) (map (in_module n) (standing_recipes wins layout.files m))
    shapes_of_module is =
        map_map located_shape (λ (r : Recipe). record { parent = j; recipe = r }) (own_recipes j)
        ∙ ap (λ (rs : List Recipe). map shape_in rs) is.recipes ∙ shapes_of_items (standing_recipe_items wins layout.files m)
        ∙ sym (map_map (shape_of wins layout) (in_module n) (standing_recipes wins layout.files m))

  -- ---- the recipes of all modules

  shapes_from : (n : ℕ) (ms : List Module) (js : List Justfile) → AreModulesOf text_of links wins layout (enumerate_from n ms) js → AreFrom wins layout n ms
      → map located_shape (located js) ≡ map (shape_of wins layout) (recipes_from wins layout.files n ms)
  shapes_from n [] [] h from = refl
  shapes_from n [] (j ∷ js) h from = absurd h
  shapes_from n (m ∷ ms) [] h from = absurd h
  shapes_from n (m ∷ ms) (j ∷ js) h from =
      let next : n + 1 ≡ suc n = omega arith in
      let own : List Located = map (λ (r : Recipe). record { parent = j; recipe = r }) (own_recipes j) in
      let here : List Standing = map (in_module n) (standing_recipes wins layout.files m) in
      map-append located_shape own (located js)
      ∙ ap (λ (ss : List Shape). ss ++ map located_shape (located js)) (shapes_of_module n m (from_here wins layout n m ms from) j h.0.0)
      ∙ ap (λ (ss : List Shape). map (shape_of wins layout) here ++ ss)
      (shapes_from (suc n) ms js (subst (λ k. AreModulesOf text_of links wins layout (enumerate_from k ms) js) next h.1) (from_next wins layout n m ms from))
      ∙ sym (map-append (shape_of wins layout) here (recipes_from wins layout.files (suc n) ms))

  pub shapes_are : (js : List Justfile) → AreModulesOf text_of links wins layout (enumerate_from 0 layout.modules) js → map located_shape (located js) ≡ map (shape_of wins layout) (all_recipes wins layout)
  shapes_are js h = shapes_from 0 layout.modules js h (λ i x e. let same : i ≡ 0 + i = omega arith in subst (λ k. slice_get layout.modules k ≡ Some x) same e)

  -- ---- what ends

  module _ (j : Justfile) (is : IsJustfileOf text_of links wins layout j) (modules : List Justfile) (are : AreModules (j ∷ []) modules) where
    all_same : is.all ≡ modules
    all_same = same_modules (j ∷ []) is.all modules is.in_order are

    -- no chain of dependencies passes more recipes than there are
    pub dependencies_end : AreApart (paths layout.modules) → IsFirstSpot (IsCircularRecipe wins layout) None → AreEnding modules
    dependencies_end apart none =
        subst (λ (js : List Justfile). AreEnding js) all_same (recipes_end wins layout is.all (shapes_are is.all is.each) apart (acyclic_recipes wins layout none))

    -- no variable leads to itself
    pub values_end : IsFirstSpot (IsCircularVariable wins layout) None → All (λ (m : Justfile). AreVariablesEnding (own_assignments m)) modules
    values_end none =
        subst (λ (js : List Justfile). All (λ (m : Justfile). AreVariablesEnding (own_assignments m)) js) all_same
        (in_all (λ (m : Justfile). AreVariablesEnding (own_assignments m)) is.all (λ m i.
        let z = in_zip (λ (x : ℕ × Module) (k : Justfile). IsModuleOf text_of links wins layout.files x.0 x.1 k × IsAround k) (enumerate_from 0 layout.modules) is.all m is.each i in
        subst (λ given. AreVariablesEnding given) (sym z.2.0.assignments)
        (variables_end text_of wins layout none z.0.1 (in_contains layout.modules z.0.1 (in_numbered 0 layout.modules z.0 z.1)))))
