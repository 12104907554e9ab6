-- The names to come follow those so far.
use Rattle.std.proofs.Common.{◌≡◌, length}
use denote.Shadow.{shadow}
use denote.Text.{Utf8}
use Rattle.just_config_words.specs.Cuts.{parts}
use Rattle.just_config.specs.ModulePaths.{colon, outer_parts}
use Rattle.just_config.proofs.Joins.{put_all}
use Rattle.just_config.proofs.module_path.in_one_word.Given as goal

abbrev pub invariant-names : goal.invariant-names
invariant-names l = record { utf8 : shadow (Utf8 l.rest); same : put_all l.names.items (outer_parts (parts colon l.rest)) ≡ outer_parts (parts colon l.word) }

abbrev pub decreases-names : goal.decreases-names
decreases-names l = length l.rest
