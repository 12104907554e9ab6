-- The words so far are the options that are read, and the rest follows them.
use Rattle.std.proofs.Common.{length}
use Rattle.just_config_words.specs.Front.{AreOptions}
use Rattle.just_config_words.proofs.front.read_front.Given as goal

abbrev pub invariant-words : goal.invariant-words
invariant-words l = AreOptions l.words l.given.items l.rest

abbrev pub decreases-words : goal.decreases-words
decreases-words l = length l.rest
