-- The letters to come follow those so far.
use Rattle.std.proofs.Common.{◌≡◌, ◌++◌, length}
use denote.Shadow.{shadow}
use denote.Text.{Utf8}
use Rattle.just_config_words.specs.Parsed.{letters}
use Rattle.just_config_words.proofs.parsed.letters.Given as goal

abbrev pub invariant-letters : goal.invariant-letters
invariant-letters l = record { utf8 : shadow (Utf8 l.rest); same : l.parsed.items ++ letters l.rest l.behind ≡ letters l.text l.behind }

abbrev pub decreases-letters : goal.decreases-letters
decreases-letters l = length l.rest
