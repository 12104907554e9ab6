-- The justfile of a project.
use Rattle.std.specs.Prelude.{List, [], ◌∷◌}
use Rattle.just_lang_types.specs.declared.project.Justfile.{Justfile}
use Rattle.just_lang_types.specs.Modules.{AreModules}
use Rattle.just_cli_plan.specs.EndingProjects.{End}

-- a justfile in whose modules no recipe leads to itself, and no variable
abbrev pub IsEnding : Justfile → Type 0
IsEnding j = (modules : List Justfile) → AreModules (j ∷ []) modules → End modules
