-- The recipes of a module, and those of them that can't be run.
use Rattle.std.specs.Prelude.{ℕ, List, [], ◌∷◌, filter_map, Option, Some, None, option_map}
use Rattle.std.specs.List.{enumerate_from}
use Rattle.just_lang_syntax.specs.declared.ast.AstDependency.{AstDependency}
use Rattle.just_lang_syntax.specs.declared.ast.AstItem.{AstItem}
use Rattle.just_lang_syntax.specs.declared.ast.AstItem.TheVariants as item
use Rattle.just_lang_syntax.specs.declared.ast.AstRecipe.{AstRecipe}
use Rattle.just_lang_syntax.specs.declared.ast.StringLiteral.{StringLiteral}
use Rattle.just_lang_types.specs.declared.recipe.Dependency.{Dependency}
use Rattle.just_lang_types.specs.declared.recipe.Modulepath.{Modulepath}
use Rattle.just_lang_types.specs.declared.recipe.Recipe.{Recipe}
use Rattle.just_lang_types.specs.declared.scope.Disabled.{Disabled}
use Rattle.just_lang_layout.specs.declared.layout.File.{File}
use Rattle.just_lang_shapes.specs.Expansions.{expanded_exprs}
use Rattle.just_lang_shapes.specs.Recipes.{recipe_of}
use Rattle.just_lang_justfile.specs.Comments.{above_in}
use Rattle.just_lang_justfile.specs.Links.{Links}

-- the one where there is nothing in a list, else the other
abbrev pub if_empty : {A B : Type 0} → List A → Option B → Option B → Option B
if_empty [] one other = one
if_empty (x ∷ xs) one other = other

-- what can't be run, and the absent modules for which it can't; none where there are no such modules
abbrev pub disabled_for : List ℕ → List (List ℕ) → Option Disabled
disabled_for name modules = if_empty modules None (Some (record { name = name; modules = modules }))

module _ (links : Links) (number : ℕ) where
  module _ (text_of : StringLiteral → Option (List ℕ)) where
    -- a dependency with the path of its recipe; none where there is no such recipe, as in a module that isn't there
    abbrev pub dependency_of : AstDependency → Option Dependency
    dependency_of d = option_map (λ (p : Modulepath). record { path = p; arguments = expanded_exprs text_of d.arguments }) (links.dependency_path number d.path)

    abbrev pub dependencies_of : List AstDependency → List Dependency
    dependencies_of ds = filter_map dependency_of ds

  module _ (text_of : StringLiteral → Option (List ℕ)) (files : List File) (path : Modulepath) where
    -- the recipe of the module of that number and path, in the file of that number
    abbrev pub recipe_in : ℕ → AstRecipe → Recipe
    recipe_in file r = recipe_of text_of path (above_in files file r.name) (dependencies_of text_of r.priors) (dependencies_of text_of r.subsequents) r

    -- the one that an item is
    abbrev pub recipe_at : ℕ × AstItem → Option Recipe
    recipe_at (file, item.Recipe r) = Some (recipe_in file r)
    recipe_at (file, item.Blank) = None
    recipe_at (file, item.Comment text) = None
    recipe_at (file, item.Alias name target comment) = None
    recipe_at (file, item.Import optional inner comment) = None
    recipe_at (file, item.Module attributes optional name inner comment) = None
    recipe_at (file, item.Assignment export name value comment) = None
    recipe_at (file, item.Unexport name comment) = None
    recipe_at (file, item.Setting name value comment) = None

    -- those that stand, whether they can be run or not
    abbrev pub recipes_of : List (ℕ × AstItem) → List Recipe
    recipes_of standing = filter_map recipe_at standing

  -- the one at a place among those that stand, where it can't be run
  abbrev pub disabled_at : ℕ × (ℕ × AstItem) → Option Disabled
  disabled_at (place, (file, item.Recipe r)) = disabled_for r.name.text (links.modules_of_recipe number place)
  disabled_at (place, (file, item.Blank)) = None
  disabled_at (place, (file, item.Comment text)) = None
  disabled_at (place, (file, item.Alias name target comment)) = None
  disabled_at (place, (file, item.Import optional inner comment)) = None
  disabled_at (place, (file, item.Module attributes optional name inner comment)) = None
  disabled_at (place, (file, item.Assignment export name value comment)) = None
  disabled_at (place, (file, item.Unexport name comment)) = None
  disabled_at (place, (file, item.Setting name value comment)) = None

  -- those of them that can't be run
  abbrev pub disabled_recipes_of : List (ℕ × AstItem) → List Disabled
  disabled_recipes_of standing = filter_map disabled_at (enumerate_from 0 standing)
