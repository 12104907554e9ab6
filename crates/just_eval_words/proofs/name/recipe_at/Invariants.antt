-- It is in the modules that are left.
use Rattle.std.proofs.Common.{◌≡◌, drop, map}
use Rattle.just_lang_types.specs.Modules.{recipe_at}
use Rattle.just_eval_words.proofs.name.recipe_at.Given as goal

abbrev pub invariant-modules : goal.invariant-modules
invariant-modules l =
    recipe_at (map (λ m. m.now) (drop l.inside-index l.modules)) l.path ≡ recipe_at (map (λ m. m.now) l.modules) l.path
