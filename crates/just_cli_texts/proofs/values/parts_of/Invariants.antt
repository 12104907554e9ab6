-- The parts so far, and those of what is left.
use Rattle.std.proofs.Common.{◌≡◌, ◌++◌, length}
use denote.Shadow.{shadow}
use denote.Text.{Utf8}
use Rattle.just_eval_words.specs.Paths.{parts}
use Rattle.just_cli_texts.proofs.values.parts_of.Given as goal

abbrev pub invariant-parts : goal.invariant-parts
invariant-parts l = record { utf8 : shadow (Utf8 l.rest); same : l.names.items ++ parts l.rest ≡ parts l.word }

abbrev pub decreases-parts : goal.decreases-parts
decreases-parts l = length l.rest
