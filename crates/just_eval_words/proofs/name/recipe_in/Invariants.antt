-- It is among those that are left.
use Rattle.std.proofs.Common.{◌≡◌, drop, find}
use Rattle.std.specs.Str.{bytes_eq}
use Rattle.just_lang_types.specs.Modules.{recipes_of}
use Rattle.just_eval_words.proofs.name.recipe_in.Given as goal

abbrev pub invariant-recipes : goal.invariant-recipes
invariant-recipes l =
    find (λ r. bytes_eq r.name l.name) (drop l.recipe-index (recipes_of l.justfile)) ≡ find (λ r. bytes_eq r.name l.name) (recipes_of l.justfile)
