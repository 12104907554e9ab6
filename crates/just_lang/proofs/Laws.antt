-- The justfile of a layout that breaks no rule is sound.
use Rattle.std.proofs.Common.{◌≡◌, ℕ, ◌+◌, true, false, List, [], ◌∷◌, ◌++◌, map, Option, refl, sym, ap, ◌∙◌, subst}
use Rattle.std.specs.Prelude.{All, filter, filter_map}
use Rattle.std.specs.List.{AllByRecursion, enumerate_from, flat_map}
use Rattle.std.proofs.lemmas.List.Elements.{All-from_recursion}
use Rattle.just_lang_syntax.specs.declared.ast.AstItem.{AstItem}
use Rattle.just_lang_syntax.specs.declared.ast.AstItem.TheVariants as item
use Rattle.just_lang_syntax.specs.declared.ast.AstRecipe.{AstRecipe}
use Rattle.just_lang_syntax.specs.declared.ast.Expr.{Expr}
use Rattle.just_lang_syntax.specs.declared.ast.StringLiteral.{StringLiteral}
use Rattle.just_lang_types.specs.declared.project.Justfile.{Justfile, out-Justfile}
use Rattle.just_lang_types.specs.declared.recipe.Modulepath.{Modulepath}
use Rattle.just_lang_types.specs.declared.recipe.Recipe.{Recipe}
use Rattle.just_lang_types.specs.declared.scope.Alias.{Alias}
use Rattle.just_lang_types.specs.declared.scope.Assignment.{Assignment}
use Rattle.just_lang_types.specs.declared.scope.Disabled.{Disabled}
use Rattle.just_lang_types.specs.declared.source.Source.{Source}
use Rattle.just_lang_layout.specs.declared.layout.Layout.{Layout}
use Rattle.just_lang_layout.specs.declared.layout.Module.{Module}
use Rattle.just_lang_layout.specs.Items.{items_of_files, items_of_module}
use Rattle.just_lang_layout.specs.Laid.{IsLayoutOf}
use Rattle.just_lang_layout.specs.Paths.{Pairs}
use Rattle.just_lang_spots.specs.Items.{item_name, is_recipe_here, is_assignment}
use Rattle.just_lang_spots.specs.Repeated.{repeated}
use Rattle.just_lang_spots.specs.Standing.{Wins}
use Rattle.just_lang_rules.specs.AttributeSpots.{single_name, arg_name, duplicate_attribute_of}
use Rattle.just_lang_rules.specs.ParameterSpots.{parameter_name, parameters_of as tree_parameters, required_follows_of}
use Rattle.just_lang_rulebook.specs.DuplicateSpots.{alias_name, duplicate_aliases}
use Rattle.just_lang_names.specs.ScopeSpots.{Scope, module_scope, with_parameters, unknown_in_attribute, unknown_in_dependency, unknown_in_line, unknown_in_defaults, unknown_behind, unknown_in_item, undefined_in_module}
use Rattle.just_lang_names.specs.Standing.{standing_recipe_items, standing_variable_items}
use Rattle.just_lang_names.specs.TargetSpots.{DependencyIn, dependency_in, dependencies_in, miscounted_dependency, option_dependency, all_dependencies}
use Rattle.just_lang_shapes.specs.Expansions.{expanded_attributes, expanded_lines}
use Rattle.just_lang_shapes.specs.Parameters.{parameters_of}
use Rattle.just_lang_shapes.specs.Recipes.{path_within, recipe_of}
use Rattle.just_lang_shapes.specs.Scopes.{assignments_of}
use Rattle.just_lang_types.specs.Modules as parts
use Rattle.just_lang_justfile.specs.Aliases.{recipe_aliases_of, module_aliases_of, disabled_aliases_of}
use Rattle.just_lang_justfile.specs.Links.{Links}
use Rattle.just_lang_justfile.specs.Modules.{IsModuleOf}
use Rattle.just_lang_justfile.specs.Recipes as made
use Rattle.just_lang_justfile.specs.Trees.{AreModulesOf, IsJustfileOf}
use Rattle.just_lang_justfile.proofs.Located.{modules_are}
use Rattle.just_lang.specs.SoundLinks.{AreLinked}
use Rattle.just_lang.specs.SoundRules.{BreaksNoRule}
use Rattle.just_lang.specs.Sound.{AreDistinct, AreKnown, Fits, IsSoundRecipe, IsSoundModule, IsSound, alias_names, variable_names, parameter_names, exprs_in_cache, exprs_in_body}
use Rattle.just_lang.proofs.AliasNames.{names_of_all, made_named}
use Rattle.just_lang.proofs.Arguments.{agreed}
use Rattle.just_lang.proofs.Fits.{LeadsToRecipe, LeadsToModule, all_fit, recipe_aliases, module_aliases}
use Rattle.just_lang.proofs.Found.{standing_named}
use Rattle.just_lang.proofs.Items.{of_module, of_standing}
use Rattle.just_lang.proofs.Known.{AreAssignments, IsScopeOf, AreArgumentsKnown, module_names, assigned, with_all, known, arguments_known, attributes_known, body_known, defaults_known}
use Rattle.just_lang.proofs.Lists.{none_left, none_right, none_each, all_append, all_left, all_right, all_both, all_filter, all_unmapped, flat_back, passes}
use Rattle.just_lang.proofs.Order.{in_order}
use Rattle.just_lang.proofs.Parameters.{distinct, names_once, parameters_distinct}
use Rattle.just_lang.proofs.SoundPaths.{AreApart, apart as apart_of}

module _ (text_of : StringLiteral → Option (List ℕ)) (links : Links) (wins : Wins) (layout : Layout) (linked : AreLinked layout wins links) (apart : AreApart layout.modules)
    (js : List Justfile) (are : AreModulesOf text_of links wins layout (enumerate_from 0 layout.modules) js) where
  abbrev standing_of : Module → List (ℕ × AstItem)
  standing_of m = standing_recipe_items wins layout.files m

  -- an item has no parameter twice, and no attribute
  abbrev IsOnce : ℕ × AstItem → Type 0
  IsOnce x = (repeated (map (parameter_name x.0) (tree_parameters x.1)) ≡ []) × (duplicate_attribute_of text_of x.0 x.1 ≡ [])

  -- nor a parameter that stands behind a default and may not
  abbrev IsOrderly : ℕ × AstItem → Type 0
  IsOrderly x = IsOnce x × (required_follows_of text_of x.0 x.1 ≡ [])

  abbrev variables_of : Module → List (ℕ × AstItem)
  variables_of m = standing_variable_items wins layout.files m

  -- ---- variables

  are_assignments : (m : Module) → AreAssignments (variables_of m)
  are_assignments m =
      of_standing (λ (x : ℕ × AstItem). is_assignment x ≡ true) wins (filter is_assignment (items_of_module layout.files m)) (passes is_assignment (items_of_module layout.files m))

  module _ (number : ℕ) (m : Module) (j : Justfile) (is : IsModuleOf text_of links wins layout.files number m j) where
    abbrev names : List (List ℕ)
    names = variable_names j

    abbrev scope : Scope
    scope = module_scope wins layout.files m

    names_are : names ≡ map (λ (a : Assignment). a.name) (assignments_of text_of (variables_of m))
    names_are = ap (λ (all : List Assignment). map (λ (a : Assignment). a.name) all) is.assignments

    scope_is : IsScopeOf names scope
    scope_is = subst (λ (ns : List (List ℕ)). IsScopeOf ns scope) (sym names_are) (module_names text_of (variables_of m) (are_assignments m))

    variables_distinct : AreDistinct names
    variables_distinct =
        subst AreDistinct (sym (names_are ∙ assigned text_of (variables_of m) (are_assignments m)))
        (distinct (map (λ (x : ℕ × AstItem). item_name x.1) (variables_of m)) (standing_named wins (filter is_assignment (items_of_module layout.files m))))

    values_known : (xs : List (ℕ × AstItem)) → AllByRecursion (λ (x : ℕ × AstItem). unknown_in_item scope x ≡ []) xs → AllByRecursion (λ (a : Assignment). AreKnown names a.value) (assignments_of text_of xs)
    values_known [] h = tt
    values_known ((n, item.Assignment export name value comment) ∷ xs) h = (known text_of names scope n scope_is value h.0, values_known xs h.1)
    values_known ((n, item.Recipe r) ∷ xs) h = values_known xs h.1
    values_known ((n, item.Blank) ∷ xs) h = values_known xs h.1
    values_known ((n, item.Comment text) ∷ xs) h = values_known xs h.1
    values_known ((n, item.Alias name target comment) ∷ xs) h = values_known xs h.1
    values_known ((n, item.Import optional path comment) ∷ xs) h = values_known xs h.1
    values_known ((n, item.Module attributes optional name path comment) ∷ xs) h = values_known xs h.1
    values_known ((n, item.Unexport name comment) ∷ xs) h = values_known xs h.1
    values_known ((n, item.Setting name value comment) ∷ xs) h = values_known xs h.1

    -- ---- recipes

    -- the dependencies of an item of the module fit
    abbrev IsFitting : ℕ × AstItem → Type 0
    IsFitting x =
        AllByRecursion (λ (d : DependencyIn). miscounted_dependency text_of wins layout d ≡ []) (dependencies_in number x)
        × AllByRecursion (λ (d : DependencyIn). option_dependency text_of wins layout d ≡ []) (dependencies_in number x)

    -- and it has no parameter twice, nor one out of order
    abbrev IsProper : ℕ × AstItem → Type 0
    IsProper x = IsOrderly x × IsFitting x

    -- and knows the names that it uses
    abbrev IsWell : ℕ × AstItem → Type 0
    IsWell x = (unknown_in_item scope x ≡ []) × IsProper x

    abbrev recipe : ℕ → AstRecipe → Recipe
    recipe file r = made.recipe_in links number text_of layout.files m.path file r

    recipe_sound : (file : ℕ) (r : AstRecipe) → IsWell (file, item.Recipe r) → IsSoundRecipe js j (recipe file r)
    unfolding recipe_of
    recipe_sound file r well =
        let inner : Scope = with_parameters r.parameters scope in
        let all : List (List ℕ) = parameter_names (parameters_of text_of r.attributes r.parameters) ++ names in
        let inner_is : IsScopeOf all inner = with_all text_of names scope r.attributes r.parameters scope_is in
        let behind : unknown_behind inner file r ≡ [] = none_right (unknown_in_defaults scope file [] r.parameters) (unknown_behind inner file r) well.0 in
        let further : flat_map (unknown_in_dependency inner file) r.priors ++ (flat_map (unknown_in_dependency inner file) r.subsequents ++ flat_map (unknown_in_line inner file) r.body) ≡ [] =
        none_right (flat_map (unknown_in_attribute inner file) r.attributes) (flat_map (unknown_in_dependency inner file) r.priors ++ (flat_map (unknown_in_dependency inner file) r.subsequents ++ flat_map (unknown_in_line inner file) r.body)) behind in
        let last : flat_map (unknown_in_dependency inner file) r.subsequents ++ flat_map (unknown_in_line inner file) r.body ≡ [] =
        none_right (flat_map (unknown_in_dependency inner file) r.priors) (flat_map (unknown_in_dependency inner file) r.subsequents ++ flat_map (unknown_in_line inner file) r.body) further in
        let priors = made.dependencies_of links number text_of r.priors in
        let subsequents = made.dependencies_of links number text_of r.subsequents in
        let counts = all_unmapped (λ (d : DependencyIn). miscounted_dependency text_of wins layout d ≡ []) (dependency_in number file) (r.priors ++ r.subsequents) well.1.1.0 in
        let options = all_unmapped (λ (d : DependencyIn). option_dependency text_of wins layout d ≡ []) (dependency_in number file) (r.priors ++ r.subsequents) well.1.1.1 in
        record {
          path = ap (λ (p : Modulepath). path_within p r.name.text) (sym is.module_path);
          parameters = parameters_distinct text_of r.attributes file r.parameters well.1.0.0.0;
          order = in_order text_of r.attributes file false r.parameters
              (agreed text_of file r.attributes (none_right (repeated (filter_map (single_name file) r.attributes)) (repeated (filter_map (arg_name text_of file) r.attributes)) well.1.0.0.1) r.parameters) well.1.0.1;
          defaults = defaults_known text_of r.attributes file scope names [] r.parameters scope_is (none_left (unknown_in_defaults scope file [] r.parameters) (unknown_behind inner file r) well.0);
          arguments =
              All-from_recursion (AreArgumentsKnown text_of all inner file inner_is) (priors ++ subsequents)
              (all_append (AreArgumentsKnown text_of all inner file inner_is) priors subsequents
              (arguments_known text_of all inner file inner_is links number r.priors (none_left (flat_map (unknown_in_dependency inner file) r.priors) (flat_map (unknown_in_dependency inner file) r.subsequents ++ flat_map (unknown_in_line inner file) r.body) further))
              (arguments_known text_of all inner file inner_is links number r.subsequents (none_left (flat_map (unknown_in_dependency inner file) r.subsequents) (flat_map (unknown_in_line inner file) r.body) last)));
          cache =
              All-from_recursion (AreKnown all) (caches_of r)
              (attributes_known text_of all inner file inner_is r.attributes
              (none_left (flat_map (unknown_in_attribute inner file) r.attributes) (flat_map (unknown_in_dependency inner file) r.priors ++ (flat_map (unknown_in_dependency inner file) r.subsequents ++ flat_map (unknown_in_line inner file) r.body)) behind));
          body =
              All-from_recursion (AreKnown all) (parts_of r) (body_known text_of all inner file inner_is r.body (none_right (flat_map (unknown_in_dependency inner file) r.subsequents) (flat_map (unknown_in_line inner file) r.body) last));
          dependencies =
              All-from_recursion (Fits js) (priors ++ subsequents)
              (all_append (Fits js) priors subsequents
              (all_fit text_of links wins layout linked apart js are number file r.priors (all_left (λ d. miscounted_dependency text_of wins layout (dependency_in number file d) ≡ []) r.priors r.subsequents counts) (all_left (λ d. option_dependency text_of wins layout (dependency_in number file d) ≡ []) r.priors r.subsequents options))
              (all_fit text_of links wins layout linked apart js are number file r.subsequents (all_right (λ d. miscounted_dependency text_of wins layout (dependency_in number file d) ≡ []) r.priors r.subsequents counts) (all_right (λ d. option_dependency text_of wins layout (dependency_in number file d) ≡ []) r.priors r.subsequents options)));
        }
      where
        caches_of : AstRecipe → List Expr
        caches_of s = flat_map exprs_in_cache (expanded_attributes text_of s.attributes)

        parts_of : AstRecipe → List Expr
        parts_of s = exprs_in_body (expanded_lines text_of s.body)

    recipes_sound : (xs : List (ℕ × AstItem)) → AllByRecursion IsWell xs → AllByRecursion (IsSoundRecipe js j) (made.recipes_of links number text_of layout.files m.path xs)
    recipes_sound [] h = tt
    recipes_sound ((n, item.Recipe r) ∷ xs) h = (recipe_sound n r h.0, recipes_sound xs h.1)
    recipes_sound ((n, item.Blank) ∷ xs) h = recipes_sound xs h.1
    recipes_sound ((n, item.Comment text) ∷ xs) h = recipes_sound xs h.1
    recipes_sound ((n, item.Alias name target comment) ∷ xs) h = recipes_sound xs h.1
    recipes_sound ((n, item.Import optional path comment) ∷ xs) h = recipes_sound xs h.1
    recipes_sound ((n, item.Module attributes optional name path comment) ∷ xs) h = recipes_sound xs h.1
    recipes_sound ((n, item.Assignment export name value comment) ∷ xs) h = recipes_sound xs h.1
    recipes_sound ((n, item.Unexport name comment) ∷ xs) h = recipes_sound xs h.1
    recipes_sound ((n, item.Setting name value comment) ∷ xs) h = recipes_sound xs h.1

    are_recipes : AllByRecursion (λ (x : ℕ × AstItem). is_recipe_here x ≡ true) (standing_of m)
    are_recipes = of_standing (λ (x : ℕ × AstItem). is_recipe_here x ≡ true) wins (filter is_recipe_here (items_of_module layout.files m)) (passes is_recipe_here (items_of_module layout.files m))

    recipe_names : (xs : List (ℕ × AstItem)) → AllByRecursion (λ (x : ℕ × AstItem). is_recipe_here x ≡ true) xs
        → map (λ (r : Recipe). r.name) (made.recipes_of links number text_of layout.files m.path xs) ≡ map (λ (x : ℕ × AstItem). item_name x.1) xs
    unfolding recipe_of
    recipe_names [] h = refl
    recipe_names ((n, item.Recipe r) ∷ xs) h = ap (λ (ns : List (List ℕ)). r.name.text ∷ ns) (recipe_names xs h.1)
    recipe_names ((n, item.Blank) ∷ xs) h = absurd (let e : false ≡ true = h.0 in let no : ⊥ = cc in no)
    recipe_names ((n, item.Comment text) ∷ xs) h = absurd (let e : false ≡ true = h.0 in let no : ⊥ = cc in no)
    recipe_names ((n, item.Alias name target comment) ∷ xs) h = absurd (let e : false ≡ true = h.0 in let no : ⊥ = cc in no)
    recipe_names ((n, item.Import optional path comment) ∷ xs) h = absurd (let e : false ≡ true = h.0 in let no : ⊥ = cc in no)
    recipe_names ((n, item.Module attributes optional name path comment) ∷ xs) h = absurd (let e : false ≡ true = h.0 in let no : ⊥ = cc in no)
    recipe_names ((n, item.Assignment export name value comment) ∷ xs) h = absurd (let e : false ≡ true = h.0 in let no : ⊥ = cc in no)
    recipe_names ((n, item.Unexport name comment) ∷ xs) h = absurd (let e : false ≡ true = h.0 in let no : ⊥ = cc in no)
    recipe_names ((n, item.Setting name value comment) ∷ xs) h = absurd (let e : false ≡ true = h.0 in let no : ⊥ = cc in no)

    recipes_distinct : AreDistinct (map (λ (r : Recipe). r.name) (parts.recipes_of j))
    recipes_distinct =
        subst AreDistinct (sym (ap (λ (rs : List Recipe). map (λ (r : Recipe). r.name) rs) is.recipes ∙ recipe_names (standing_of m) are_recipes))
        (distinct (map (λ (x : ℕ × AstItem). item_name x.1) (standing_of m)) (standing_named wins (filter is_recipe_here (items_of_module layout.files m))))

    -- ---- aliases

    aliases_distinct : duplicate_aliases (items_of_module layout.files m) ≡ [] → AreDistinct (alias_names j)
    aliases_distinct once =
        let items : List (ℕ × AstItem) = items_of_module layout.files m in
        let recipes : List Alias = recipe_aliases_of links number items in
        let modules : List Alias = module_aliases_of links number items in
        let disabled : List Disabled = disabled_aliases_of links number items in
        let are : alias_names j ≡ names_of_all recipes modules disabled =
        ap (λ (xs : List Alias). names_of_all xs (out-Justfile j).module_aliases (out-Justfile j).disabled_aliases) is.recipe_aliases
        ∙ ap (λ (xs : List Alias). names_of_all recipes xs (out-Justfile j).disabled_aliases) is.module_aliases
        ∙ ap (λ (ds : List Disabled). names_of_all recipes modules ds) is.disabled_aliases in
        let named = made_named links number items (names_once (filter_map (λ (x : ℕ × AstItem). alias_name x.0 x.1) items) once) in
        subst AreDistinct (sym are) (distinct (names_of_all recipes modules disabled) named)

    -- ---- the module

    module_sound : duplicate_aliases (items_of_module layout.files m) ≡ [] → AllByRecursion (λ (x : ℕ × AstItem). unknown_in_item scope x ≡ []) (variables_of m) → AllByRecursion IsWell (standing_of m) → IsSoundModule js j
    module_sound once variables recipes =
        record {
          variables = variables_distinct;
          values = All-from_recursion (λ (a : Assignment). AreKnown names a.value) (parts.assignments_of j)
              (subst (AllByRecursion (λ (a : Assignment). AreKnown names a.value)) (sym is.assignments) (values_known (variables_of m) variables));
          names = recipes_distinct;
          aliases = aliases_distinct once;
          recipes = All-from_recursion (IsSoundRecipe js j) (parts.recipes_of j) (subst (AllByRecursion (IsSoundRecipe js j)) (sym is.recipes) (recipes_sound (standing_of m) recipes));
          recipe_aliases = All-from_recursion (LeadsToRecipe text_of links wins layout linked apart js are) (out-Justfile j).recipe_aliases
              (subst (AllByRecursion (LeadsToRecipe text_of links wins layout linked apart js are)) (sym is.recipe_aliases) (recipe_aliases text_of links wins layout linked apart js are number (items_of_module layout.files m)));
          module_aliases = All-from_recursion (LeadsToModule text_of links wins layout linked apart js are) (out-Justfile j).module_aliases
              (subst (AllByRecursion (LeadsToModule text_of links wins layout linked apart js are)) (sym is.module_aliases) (module_aliases text_of links wins layout linked apart js are number (items_of_module layout.files m)));
        }

  -- ---- all modules

  abbrev NoCount : DependencyIn → Type 0
  NoCount d = miscounted_dependency text_of wins layout d ≡ []

  abbrev NoOption : DependencyIn → Type 0
  NoOption d = option_dependency text_of wins layout d ≡ []

  abbrev dependencies_at : ℕ × Module → List DependencyIn
  dependencies_at x = flat_map (dependencies_in x.0) (standing_recipe_items wins layout.files x.1)

  all_sound : (n : ℕ) (ms : List Module) (ks : List Justfile) → AreModulesOf text_of links wins layout (enumerate_from n ms) ks → AllByRecursion IsOrderly (items_of_files layout.files)
      → AllByRecursion (λ (m : Module). duplicate_aliases (items_of_module layout.files m) ≡ []) ms
      → AllByRecursion (λ (m : Module). undefined_in_module wins layout.files m ≡ []) ms → AllByRecursion (λ (x : ℕ × Module). AllByRecursion NoCount (dependencies_at x)) (enumerate_from n ms)
      → AllByRecursion (λ (x : ℕ × Module). AllByRecursion NoOption (dependencies_at x)) (enumerate_from n ms) → AllByRecursion (IsSoundModule js) ks
  all_sound n [] [] h once aliases undefined counts options = tt
  all_sound n [] (k ∷ ks) h once aliases undefined counts options = absurd h
  all_sound n (m ∷ ms) [] h once aliases undefined counts options = absurd h
  all_sound n (m ∷ ms) (k ∷ ks) h once aliases undefined counts options =
      let here : List (ℕ × AstItem) = standing_of m in
      let variables = none_each (unknown_in_item (module_scope wins layout.files m)) (variables_of m)
      (none_left (flat_map (unknown_in_item (module_scope wins layout.files m)) (variables_of m)) (flat_map (unknown_in_item (module_scope wins layout.files m)) here) undefined.0) in
      let recipes = none_each (unknown_in_item (module_scope wins layout.files m)) here
      (none_right (flat_map (unknown_in_item (module_scope wins layout.files m)) (variables_of m)) (flat_map (unknown_in_item (module_scope wins layout.files m)) here) undefined.0) in
      let own = of_standing IsOrderly wins (filter is_recipe_here (items_of_module layout.files m)) (all_filter IsOrderly is_recipe_here (items_of_module layout.files m) (of_module IsOrderly layout.files m once)) in
      let counted = flat_back NoCount (dependencies_in n) here counts.0 in
      let given = flat_back NoOption (dependencies_in n) here options.0 in
      let well =
      all_both (λ (x : ℕ × AstItem). unknown_in_item (module_scope wins layout.files m) x ≡ []) (IsProper n m k h.0.0) here recipes
      (all_both IsOrderly (IsFitting n m k h.0.0) here own
      (all_both (λ (x : ℕ × AstItem). AllByRecursion NoCount (dependencies_in n x)) (λ (x : ℕ × AstItem). AllByRecursion NoOption (dependencies_in n x)) here counted given)) in
      (module_sound n m k h.0.0 aliases.0 variables well, all_sound (n + 1) ms ks h.1 once aliases.1 undefined.1 counts.1 options.1)

  modules_sound : BreaksNoRule text_of wins layout → All (IsSoundModule js) js
  modules_sound none =
      All-from_recursion (IsSoundModule js) js
      (all_sound 0 layout.modules js are
      (all_both IsOnce (λ (x : ℕ × AstItem). required_follows_of text_of x.0 x.1 ≡ []) (items_of_files layout.files)
      (all_both (λ (x : ℕ × AstItem). repeated (map (parameter_name x.0) (tree_parameters x.1)) ≡ []) (λ (x : ℕ × AstItem). duplicate_attribute_of text_of x.0 x.1 ≡ []) (items_of_files layout.files)
      (none_each (λ (x : ℕ × AstItem). repeated (map (parameter_name x.0) (tree_parameters x.1))) (items_of_files layout.files) none.parameters)
      (none_each (λ (x : ℕ × AstItem). duplicate_attribute_of text_of x.0 x.1) (items_of_files layout.files) none.attributes))
      (none_each (λ (x : ℕ × AstItem). required_follows_of text_of x.0 x.1) (items_of_files layout.files) none.order))
      (none_each (λ (m : Module). duplicate_aliases (items_of_module layout.files m)) layout.modules none.aliases)
      (none_each (undefined_in_module wins layout.files) layout.modules none.variables)
      (flat_back NoCount dependencies_at (enumerate_from 0 layout.modules) (none_each (miscounted_dependency text_of wins layout) (all_dependencies wins layout) none.counts))
      (flat_back NoOption dependencies_at (enumerate_from 0 layout.modules) (none_each (option_dependency text_of wins layout) (all_dependencies wins layout) none.options)))

-- the justfile of a layout that breaks no rule is sound
pub sound : (text_of : StringLiteral → Option (List ℕ)) (links : Links) (wins : Wins) (layout : Layout) (root : Justfile) → IsJustfileOf text_of links wins layout root → AreLinked layout wins links → AreApart layout.modules
    → BreaksNoRule text_of wins layout → IsSound root
sound text_of links wins layout root h linked apart none js all = modules_sound text_of links wins layout linked apart js (modules_are text_of links wins layout root js h all) none

pub sound_of_sources : (sources : List Source) (environ : Pairs) (text_of : StringLiteral → Option (List ℕ)) (links : Links) (wins : Wins) (layout : Layout) (justfile : Justfile) → IsLayoutOf sources environ layout → AreLinked layout wins links
    → BreaksNoRule text_of wins layout → IsJustfileOf text_of links wins layout justfile → IsSound justfile
sound_of_sources sources environ text_of links wins layout justfile laid linked none h = sound text_of links wins layout justfile h linked (apart_of sources environ layout laid) none
