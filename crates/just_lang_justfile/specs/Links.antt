-- What the paths in a project come to, and what can't be run.
use Rattle.std.specs.Prelude.{ℕ, List, Option}
use Rattle.just_lang_syntax.specs.declared.ast.Name.{Name}
use Rattle.just_lang_types.specs.declared.recipe.Modulepath.{Modulepath}
use Rattle.just_lang_justfile.specs.declared.linker.AliasTarget.{AliasTarget}

pub record Links : Type 0 where
  -- the path from the root of the recipe that a dependency's path comes to in the module of that number
  pub dependency_path : ℕ → List Name → Option Modulepath
  -- what an alias's path comes to there
  pub alias_target : ℕ → List Name → AliasTarget
  -- the absent modules for which the recipe at that place among those that stand in the module can't be run; none where it can
  pub modules_of_recipe : ℕ → ℕ → List (List ℕ)
  -- those for which an alias of that path can't be run
  pub modules_of_alias : ℕ → List Name → List (List ℕ)
