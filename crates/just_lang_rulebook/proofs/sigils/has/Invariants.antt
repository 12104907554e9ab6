-- The byte is none of those so far.
use Rattle.std.proofs.Common.{◌≡◌, drop}
use Rattle.just_lang_rulebook.specs.Sigils.{has}
use Rattle.just_lang_rulebook.proofs.sigils.has.Given as goal

abbrev pub invariant-bytes : goal.invariant-bytes
invariant-bytes l = has l.byte (drop l.other-index l.bytes) ≡ has l.byte l.bytes
