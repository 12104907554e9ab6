-- It is among those that are left.
use Rattle.std.proofs.Common.{◌≡◌, drop, find, map}
use Rattle.just_lang_types.specs.Keys.{same_path}
use Rattle.just_lang_types.specs.Modules.{path_of}
use Rattle.just_eval_words.proofs.name.module_at.Given as goal

abbrev pub invariant-modules : goal.invariant-modules
invariant-modules l =
    find (λ m. same_path (path_of m) l.path) (map (λ m. m.now) (drop l.inside-index l.modules)) ≡ find (λ m. same_path (path_of m) l.path) (map (λ m. m.now) l.modules)
