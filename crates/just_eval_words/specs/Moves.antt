-- What is known of what was taken behind a word.
use Rattle.std.specs.Prelude.{Option, Some, None}
use Rattle.just_eval_words.specs.declared.taken.Next.{Next}
use Rattle.just_eval_words.specs.Switches.{Words, Step, awaited}

-- the step that a word made; none where it was left
abbrev pub moved : Words → Option Next → Option Step
moved t None = None
moved t (Some n) = Some (t, awaited n)
