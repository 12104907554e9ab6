-- It is among those that are left.
use Rattle.std.proofs.Common.{◌≡◌, drop, map}
use Rattle.just_lang_types.specs.Modules.{recipes_of, located_at}
use Rattle.just_eval_words.proofs.name.recipe_of.Given as goal

abbrev pub invariant-recipes : goal.invariant-recipes
invariant-recipes l =
    located_at (map (λ r. record { parent = l.justfile; recipe = r }) (drop l.recipe-index (recipes_of l.justfile))) l.path ≡ located_at (map (λ r. record { parent = l.justfile; recipe = r }) (recipes_of l.justfile)) l.path
