-- A recipe that was chosen, and what a word came to.
use Rattle.just_lang_types.specs.Modules.{Located}
use Rattle.just_eval_words.specs.declared.found.Found.{Found}
use Rattle.just_eval_words.specs.declared.found.Target.{Target}
use Rattle.just_eval_words.specs.declared.found.Target.TheVariants as target
use Rattle.just_eval_words.specs.Names as names

-- the recipe with its module
abbrev pub located_of : Found → Located
located_of f = record { parent = f.parent.now; recipe = f.recipe.now }

-- what a word came to
abbrev pub target_of : Target → names.Target
target_of (target.Module m) = names.Target.to_module m.now
target_of (target.Recipe f) = names.Target.to_recipe (located_of f)
