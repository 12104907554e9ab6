-- A layout with as many modules as were found in a justfile has as many as the justfile.
use Rattle.std.proofs.Common.{◌≡◌, List, [], ◌∷◌, length}
use Rattle.just_lang_types.specs.declared.project.Justfile.{Justfile}
use Rattle.just_lang_types.specs.Modules.{AreModules}
use Rattle.just_lang_layout.specs.declared.layout.Module.{Module}
use Rattle.just_print_tree.specs.Branches.{HasModulesOf}

pub has_modules : (ms : List Module) (j : Justfile) (all : List Justfile) → AreModules (j ∷ []) all → length all ≡ length ms → HasModulesOf ms j
has_modules ms j all are as_many = (all, are, as_many)
