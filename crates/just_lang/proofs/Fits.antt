-- Dependencies and aliases lead to what there is and fit.
use Rattle.std.proofs.Common.{◌≡◌, ◌≢◌, ℕ, suc, Bool, true, false, not, List, [], ◌∷◌, map, length, Option, Some, None, refl, sym, ap, ◌∙◌, subst}
use Rattle.std.specs.Prelude.{slice_get, option_map, Contains}
use Rattle.std.specs.List.{AllByRecursion, enumerate_from, cons_option}
use Rattle.std.specs.Option.{option_and_then}
use Rattle.just_lang_syntax.specs.declared.ast.AstDependency.{AstDependency}
use Rattle.just_lang_syntax.specs.declared.ast.AstItem.{AstItem}
use Rattle.just_lang_syntax.specs.declared.ast.AstItem.TheVariants as item
use Rattle.just_lang_syntax.specs.declared.ast.AstRecipe.{AstRecipe}
use Rattle.just_lang_syntax.specs.declared.ast.Expr.{Expr}
use Rattle.just_lang_syntax.specs.declared.ast.Name.{Name}
use Rattle.just_lang_syntax.specs.declared.ast.StringLiteral.{StringLiteral}
use Rattle.just_lang_types.specs.declared.project.Justfile.{Justfile}
use Rattle.just_lang_types.specs.declared.recipe.Dependency.{Dependency}
use Rattle.just_lang_types.specs.declared.recipe.Modulepath.{Modulepath}
use Rattle.just_lang_types.specs.declared.scope.Alias.{Alias}
use Rattle.just_lang_layout.specs.declared.layout.Layout.{Layout}
use Rattle.just_lang_layout.specs.declared.layout.Module.{Module}
use Rattle.just_lang_spots.specs.Standing.{Wins}
use Rattle.just_lang_names.specs.Lookup.{Target, Found_recipe, Found_module, Found_absent, Found_nothing, dependency_target, alias_target}
use Rattle.just_lang_names.specs.TargetSpots.{dependency_in, last_spot, last_spot_where, where_recipe, has_option, takes_count, miscounted_dependency, option_dependency}
use Rattle.just_lang_shapes.specs.Expansions.{expanded_expr, expanded_exprs}
use Rattle.just_lang_shapes.specs.Parameters.{parameters_of}
use Rattle.just_lang_shapes.specs.Recipes.{path_within}
use Rattle.just_lang_types.specs.Modules.{Located, path_of, recipe_at}
use Rattle.just_lang_justfile.specs.declared.linker.AliasTarget.{AliasTarget}
use Rattle.just_lang_justfile.specs.declared.linker.AliasTarget.TheVariants as target
use Rattle.just_lang_justfile.specs.Aliases.{recipe_alias, module_alias, recipe_aliases_of, module_aliases_of}
use Rattle.just_lang_justfile.specs.Links.{Links}
use Rattle.just_lang_justfile.specs.Recipes.{if_empty, dependencies_of}
use Rattle.just_lang_justfile.specs.Trees.{AreModulesOf}
use Rattle.just_lang.specs.SoundLinks.{module_path, recipe_path, path_of_target, alias_of_target, recipe_or_nothing, module_or_nothing, AreLinked}
use Rattle.just_lang.specs.Sound.{Fits}
use Rattle.just_lang.proofs.Found.{IsFoundWith, found, inner}
use Rattle.just_lang.proofs.Options.{takes}
use Rattle.just_lang.proofs.SoundPaths.{AreApart}
use Rattle.just_lang.proofs.Targets.{Stands, dependency_stands, alias_stands}

-- ---- places

last_filled : (file : ℕ) (path : List Name) → last_spot file path ≡ [] → path ≡ []
last_filled file [] h = refl
last_filled file (n ∷ []) h = absurd (let no : ⊥ = cc in no)
last_filled file (n ∷ n' ∷ names) h = let none : n' ∷ names ≡ [] = last_filled file (n' ∷ names) h in absurd (let no : ⊥ = cc in no)

last_none : (b : Bool) (file : ℕ) (path : List Name) → path ≢ [] → last_spot_where b file path ≡ [] → b ≡ false
last_none true file path filled h = absurd (filled (last_filled file path h))
last_none false file path filled h = refl

denied : (b : Bool) → not b ≡ false → b ≡ true
denied true h = refl
denied false h = absurd (let no : ⊥ = cc in no)

counts : (A : Type 0) → (B : Type 0) → (f : A → B) (xs : List A) → length (map f xs) ≡ length xs
counts A B f [] = refl
counts A B f (x ∷ xs) = ap (λ (n : ℕ). suc n) (counts A B f xs)

module _ (text_of : StringLiteral → Option (List ℕ)) (links : Links) (wins : Wins) (layout : Layout) (linked : AreLinked layout wins links) (apart : AreApart layout.modules)
    (js : List Justfile) (are : AreModulesOf text_of links wins layout (enumerate_from 0 layout.modules) js) where
  -- ---- what a target gives

  same_path_of : (o : Option Module) (m : Module) (r : AstRecipe) (p : Modulepath) → o ≡ Some m → option_map (λ (q : Modulepath). path_within q r.name.text) (option_map (λ (x : Module). x.path) o) ≡ Some p → path_within m.path r.name.text ≡ p
  same_path_of None m r p h k = absurd (let no : ⊥ = cc in no)
  same_path_of (Some x) m r p h k = let same : x ≡ m = cc in ap (λ (y : Module). path_within y.path r.name.text) (sym same) ∙ (let is : path_within x.path r.name.text ≡ p = cc in is)

  -- a recipe that is found, and takes the parameters of the tree's
  abbrev FoundOf : AstRecipe → Modulepath → Type 0
  FoundOf r p = IsFoundWith text_of links wins layout js p (parameters_of text_of r.attributes r.parameters)

  recipe_found : (number file : ℕ) (r : AstRecipe) (p : Modulepath) → Stands wins layout number file r → recipe_path layout number r ≡ Some p → FoundOf r p
  recipe_found number file r p s h =
      subst (λ (q : Modulepath). FoundOf r q) (same_path_of (slice_get layout.modules number) s.parent r p s.parent_is h) (found text_of links wins layout js number file r are apart s)

  -- ---- dependencies

  abbrev NoCount : ℕ → ℕ → AstDependency → Type 0
  NoCount number file d = miscounted_dependency text_of wins layout (dependency_in number file d) ≡ []

  abbrev NoOption : ℕ → ℕ → AstDependency → Type 0
  NoOption number file d = option_dependency text_of wins layout (dependency_in number file d) ≡ []

  abbrev made : AstDependency → Modulepath → Dependency
  made d p = record { path = p; arguments = expanded_exprs text_of d.arguments }

  not_empty : (names : List Name) (number k file : ℕ) (r : AstRecipe) → dependency_target wins layout number names ≡ Found_recipe k file r → names ≢ []
  not_empty [] number k file r h = absurd (let no : ⊥ = cc in no)
  not_empty (n ∷ names) number k file r h = λ e. let no : ⊥ = cc in no

  fits_by : (number file : ℕ) (d : AstDependency) (p : Modulepath) (t : Target) → dependency_target wins layout number d.path ≡ t → path_of_target layout t ≡ Some p
      → where_recipe (λ r. not (takes_count text_of r (length d.arguments))) file d.path t ≡ [] → where_recipe (has_option text_of) file d.path t ≡ [] → Fits js (made d p)
  fits_by number file d p (Found_recipe k n r) e h counted options =
      let filled : d.path ≢ [] = not_empty d.path number k n r e in
      let f = recipe_found k n r p (dependency_stands wins layout d.path number k n r e) h in
      let none : has_option text_of r ≡ false = last_none (has_option text_of r) file d.path filled options in
      let enough : takes_count text_of r (length d.arguments) ≡ true = denied (takes_count text_of r (length d.arguments)) (last_none (not (takes_count text_of r (length d.arguments))) file d.path filled counted) in
      (f.0, f.1, takes text_of f.0.recipe r (length (expanded_exprs text_of d.arguments)) f.2 none (ap (takes_count text_of r) (counts Expr Expr (expanded_expr text_of) d.arguments) ∙ enough))
  fits_by number file d p (Found_module k) e h counted options = absurd (let no : ⊥ = cc in no)
  fits_by number file d p Found_absent e h counted options = absurd (let no : ⊥ = cc in no)
  fits_by number file d p (Found_nothing name) e h counted options = absurd (let no : ⊥ = cc in no)

  one_fits : (number file : ℕ) (d : AstDependency) (o : Option Modulepath) (rest : List Dependency) → links.dependency_path number d.path ≡ o → NoCount number file d → NoOption number file d → AllByRecursion (Fits js) rest
      → AllByRecursion (Fits js) (cons_option (option_map (made d) o) rest)
  one_fits number file d None rest e counted options h = h
  one_fits number file d (Some p) rest e counted options h =
      (fits_by number file d p (dependency_target wins layout number d.path) refl (sym (linked.dependencies number d.path) ∙ e) counted options, h)

  pub all_fit : (number file : ℕ) (ds : List AstDependency) → AllByRecursion (NoCount number file) ds → AllByRecursion (NoOption number file) ds → AllByRecursion (Fits js) (dependencies_of links number text_of ds)
  all_fit number file [] h k = tt
  all_fit number file (d ∷ ds) h k = one_fits number file d (links.dependency_path number d.path) (dependencies_of links number text_of ds) refl h.0 k.0 (all_fit number file ds h.1 k.1)

  -- ---- aliases

  abbrev pub LeadsToRecipe : Alias → Type 0
  LeadsToRecipe a = (l : Located) × (recipe_at js a.target ≡ Some l)

  abbrev pub LeadsToModule : Alias → Type 0
  LeadsToModule a = (one : Justfile) × Contains js one × (path_of one ≡ a.target)

  recipe_target : (number : ℕ) (path : List Name) (t : Target) (p : Modulepath) → alias_target wins layout number path ≡ t → alias_of_target layout t ≡ target.Recipe p → (l : Located) × (recipe_at js p ≡ Some l)
  recipe_target number path (Found_recipe k n r) p e h = by (recipe_path layout k r) refl h
    where
      by : (o : Option Modulepath) → recipe_path layout k r ≡ o → recipe_or_nothing layout o ≡ target.Recipe p → (l : Located) × (recipe_at js p ≡ Some l)
      by None i g = absurd (let no : ⊥ = cc in no)
      by (Some q) i g = let same : q ≡ p = cc in let f = recipe_found k n r p (alias_stands wins layout path number k n r e) (i ∙ ap (λ (x : Modulepath). Some x) same) in (f.0, f.1)
  recipe_target number path (Found_module k) p e h = by (module_path layout k) h
    where
      by : (o : Option Modulepath) → module_or_nothing layout o ≡ target.Recipe p → (l : Located) × (recipe_at js p ≡ Some l)
      by None g = absurd (let no : ⊥ = cc in no)
      by (Some q) g = absurd (let no : ⊥ = cc in no)
  recipe_target number path Found_absent p e h = absurd (let no : ⊥ = cc in no)
  recipe_target number path (Found_nothing name) p e h = absurd (let no : ⊥ = cc in no)

  module_target : (number : ℕ) (path : List Name) (t : Target) (p : Modulepath) → alias_of_target layout t ≡ target.Module p → (one : Justfile) × Contains js one × (path_of one ≡ p)
  module_target number path (Found_recipe k n r) p h = by (recipe_path layout k r) h
    where
      by : (o : Option Modulepath) → recipe_or_nothing layout o ≡ target.Module p → (one : Justfile) × Contains js one × (path_of one ≡ p)
      by None g = absurd (let no : ⊥ = cc in no)
      by (Some q) g = absurd (let no : ⊥ = cc in no)
  module_target number path (Found_module k) p h = by (slice_get layout.modules k) refl h
    where
      by : (o : Option Module) → slice_get layout.modules k ≡ o → module_or_nothing layout (option_map (λ (m : Module). m.path) o) ≡ target.Module p → (one : Justfile) × Contains js one × (path_of one ≡ p)
      by None i g = absurd (let no : ⊥ = cc in no)
      by (Some m) i g = let one = inner text_of links wins layout js k m are i in (one.0, one.1, one.2 ∙ (let same : m.path ≡ p = cc in same))
  module_target number path Found_absent p h = absurd (let no : ⊥ = cc in no)
  module_target number path (Found_nothing name) p h = absurd (let no : ⊥ = cc in no)

  module _ (number : ℕ) where
    one_recipe : (name : List ℕ) (path : List Name) (t : AliasTarget) (rest : List Alias) → links.alias_target number path ≡ t → AllByRecursion LeadsToRecipe rest → AllByRecursion LeadsToRecipe (cons_option (recipe_alias name t) rest)
    one_recipe name path (target.Recipe p) rest e h = (recipe_target number path (alias_target wins layout number path) p refl (sym (linked.aliases number path) ∙ e), h)
    one_recipe name path (target.Module p) rest e h = h
    one_recipe name path target.Nothing rest e h = h

    one_module : (name : List ℕ) (path : List Name) (t : AliasTarget) (rest : List Alias) → links.alias_target number path ≡ t → AllByRecursion LeadsToModule rest → AllByRecursion LeadsToModule (cons_option (module_alias name t) rest)
    one_module name path (target.Module p) rest e h = (module_target number path (alias_target wins layout number path) p (sym (linked.aliases number path) ∙ e), h)
    one_module name path (target.Recipe p) rest e h = h
    one_module name path target.Nothing rest e h = h

    recipe_enabled : (name : List ℕ) (path : List Name) (modules : List (List ℕ)) (rest : List Alias) → AllByRecursion LeadsToRecipe rest
        → AllByRecursion LeadsToRecipe (cons_option (option_and_then (recipe_alias name) (if_empty modules (Some (links.alias_target number path)) None)) rest)
    recipe_enabled name path [] rest h = one_recipe name path (links.alias_target number path) rest refl h
    recipe_enabled name path (m ∷ ms) rest h = h

    module_enabled : (name : List ℕ) (path : List Name) (modules : List (List ℕ)) (rest : List Alias) → AllByRecursion LeadsToModule rest
        → AllByRecursion LeadsToModule (cons_option (option_and_then (module_alias name) (if_empty modules (Some (links.alias_target number path)) None)) rest)
    module_enabled name path [] rest h = one_module name path (links.alias_target number path) rest refl h
    module_enabled name path (m ∷ ms) rest h = h

    pub recipe_aliases : (xs : List (ℕ × AstItem)) → AllByRecursion LeadsToRecipe (recipe_aliases_of links number xs)
    recipe_aliases [] = tt
    recipe_aliases ((n, item.Alias name path comment) ∷ xs) = recipe_enabled name.text path (links.modules_of_alias number path) (recipe_aliases_of links number xs) (recipe_aliases xs)
    recipe_aliases ((n, item.Recipe r) ∷ xs) = recipe_aliases xs
    recipe_aliases ((n, item.Blank) ∷ xs) = recipe_aliases xs
    recipe_aliases ((n, item.Comment text) ∷ xs) = recipe_aliases xs
    recipe_aliases ((n, item.Import optional path comment) ∷ xs) = recipe_aliases xs
    recipe_aliases ((n, item.Module attributes optional name path comment) ∷ xs) = recipe_aliases xs
    recipe_aliases ((n, item.Assignment export name value comment) ∷ xs) = recipe_aliases xs
    recipe_aliases ((n, item.Unexport name comment) ∷ xs) = recipe_aliases xs
    recipe_aliases ((n, item.Setting name value comment) ∷ xs) = recipe_aliases xs

    pub module_aliases : (xs : List (ℕ × AstItem)) → AllByRecursion LeadsToModule (module_aliases_of links number xs)
    module_aliases [] = tt
    module_aliases ((n, item.Alias name path comment) ∷ xs) = module_enabled name.text path (links.modules_of_alias number path) (module_aliases_of links number xs) (module_aliases xs)
    module_aliases ((n, item.Recipe r) ∷ xs) = module_aliases xs
    module_aliases ((n, item.Blank) ∷ xs) = module_aliases xs
    module_aliases ((n, item.Comment text) ∷ xs) = module_aliases xs
    module_aliases ((n, item.Import optional path comment) ∷ xs) = module_aliases xs
    module_aliases ((n, item.Module attributes optional name path comment) ∷ xs) = module_aliases xs
    module_aliases ((n, item.Assignment export name value comment) ∷ xs) = module_aliases xs
    module_aliases ((n, item.Unexport name comment) ∷ xs) = module_aliases xs
    module_aliases ((n, item.Setting name value comment) ∷ xs) = module_aliases xs
