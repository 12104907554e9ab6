-- Sources that break no rule make a justfile none of whose dependencies goes on without an end.
use Rattle.std.proofs.Common.{List, [], ◌∷◌}
use Rattle.just_lang_types.specs.declared.project.Justfile.{Justfile}
use Rattle.just_lang_types.specs.declared.source.Source.{Source}
use Rattle.just_lang_layout.specs.Paths.{Pairs}
use Rattle.just_lang_types.specs.Modules.{AreModules}
use Rattle.just_eval_closure.specs.Ends.{AreEnding}
use Rattle.just_lang.specs.Assembled.{IsJustfileOfSources}
use Rattle.just_cli_plan.specs.EndingProjects.{ProjectsEnd}

pub dependencies_end : ProjectsEnd → (sources : List Source) (environ : Pairs) (j : Justfile) → IsJustfileOfSources sources environ j → (modules : List Justfile) → AreModules (j ∷ []) modules → AreEnding modules
dependencies_end ends sources environ j made modules are = (ends sources environ j modules made are).dependencies
