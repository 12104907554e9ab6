-- The law of this crate.
use Rattle.std.proofs.Common.{List, refl}
use Rattle.just_lang_types.specs.declared.project.Justfile.{Justfile}
use Rattle.just_lang_types.specs.declared.source.Source.{Source}
use Rattle.just_lang_layout.specs.Paths.{Pairs}
use Rattle.just_lang_rulebook.specs.Meant.{meant}
use Rattle.just_lang.specs.Assembled.{IsJustfileOfSources}
use Rattle.just_lang.proofs.Unbroken.{no_circular_recipe, no_circular_variable}
use Rattle.just_lang.specs.Linked.{links_of}
use Rattle.just_cli_plan.specs.EndingProjects.{ProjectsEnd}
use Rattle.just_cli_plan.specs.Projects.{IsEnding}
use Rattle.just_cli_plan.proofs.ModulePaths.{layout_apart}
use Rattle.just_cli_plan.proofs.Shapes.{dependencies_end, values_end}

pub projects_end : ProjectsEnd
projects_end sources environ j modules made are =
    let wins = made.made.wins in
    let causes = made.made.made.causes in
    record {
      dependencies = dependencies_end (meant environ) (links_of wins made.layout causes) wins made.layout (λ m path. refl) j made.made.made.justfile modules are
          (layout_apart sources environ made.layout made.layout_is) (no_circular_recipe environ wins made.layout made.made.none_broken);
      variables = values_end (meant environ) (links_of wins made.layout causes) wins made.layout (λ m path. refl) j made.made.made.justfile modules are (no_circular_variable environ wins made.layout made.made.none_broken);
    }

-- so each justfile of sources that break no rule ends
pub is_ending : ProjectsEnd → (sources : List Source) (environ : Pairs) (j : Justfile) → IsJustfileOfSources sources environ j → IsEnding j
is_ending end sources environ j made modules are = end sources environ j modules made are
