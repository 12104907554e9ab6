-- It is among those that are left.
use Rattle.std.proofs.Common.{◌≡◌, drop, find}
use Rattle.just_lang_types.specs.Modules.{modules_of}
use Rattle.just_eval_words.specs.Names.{has_name}
use Rattle.just_eval_words.proofs.name.submodule.Given as goal

abbrev pub invariant-modules : goal.invariant-modules
invariant-modules l =
    find (λ m. has_name l.name m) (drop l.inside-index (modules_of l.justfile)) ≡ find (λ m. has_name l.name m) (modules_of l.justfile)
