-- The parts to come follow those so far.
use Rattle.std.proofs.Common.{◌≡◌, ◌++◌, length}
use denote.Shadow.{shadow}
use denote.Text.{Utf8}
use Rattle.just_config_words.specs.Cuts.{parts}
use Rattle.just_config_words.proofs.cut.add_parts.Given as goal

abbrev pub invariant-parts : goal.invariant-parts
invariant-parts l = record { utf8 : shadow (Utf8 l.rest); same : l.texts.items ++ parts l.sign l.rest ≡ l.fn.texts.items ++ parts l.sign l.text }

abbrev pub decreases-parts : goal.decreases-parts
decreases-parts l = length l.rest
