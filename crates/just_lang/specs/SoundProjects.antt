-- Projects that break no rule are sound.
use Rattle.std.specs.Prelude.{List}
use Rattle.just_lang_types.specs.declared.project.Justfile.{Justfile}
use Rattle.just_lang_types.specs.declared.source.Source.{Source}
use Rattle.just_lang_layout.specs.Paths.{Pairs}
use Rattle.just_lang.specs.Assembled.{IsJustfileOfSources}
use Rattle.just_lang.specs.Sound.{IsSound}

-- each justfile of sources that break no rule is sound
abbrev pub ProjectsAreSound : Type 0
ProjectsAreSound = (sources : List Source) (environ : Pairs) (j : Justfile) → IsJustfileOfSources sources environ j → IsSound j
