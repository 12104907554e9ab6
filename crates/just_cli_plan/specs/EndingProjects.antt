-- What ends in a project that breaks no rule.
use Rattle.std.specs.Prelude.{List, [], ◌∷◌, All}
use Rattle.just_lang_types.specs.declared.project.Justfile.{Justfile}
use Rattle.just_lang_types.specs.declared.source.Source.{Source}
use Rattle.just_lang_layout.specs.Paths.{Pairs}
use Rattle.just_lang_types.specs.Modules.{AreModules, assignments_of}
use Rattle.just_eval_closure.specs.Ends.{AreEnding}
use Rattle.just_eval.specs.Uses.{AreEnding as AreVariablesEnding}
use Rattle.just_lang.specs.Assembled.{IsJustfileOfSources}

-- no chain of dependencies passes more recipes than there are, and no variable leads to itself
pub record End (modules : List Justfile) : Type 0 where
  pub dependencies : AreEnding modules
  pub variables : All (λ (m : Justfile). AreVariablesEnding (assignments_of m)) modules

-- so it is in each justfile of sources that break no rule
abbrev pub ProjectsEnd : Type 0
ProjectsEnd = (sources : List Source) (environ : Pairs) (j : Justfile) (modules : List Justfile) → IsJustfileOfSources sources environ j → AreModules (j ∷ []) modules → End modules
