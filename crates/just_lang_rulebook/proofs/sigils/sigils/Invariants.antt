-- What was seen, and what is still to come.
use Rattle.std.proofs.Common.{◌≡◌, [], drop}
use Rattle.just_lang_rulebook.specs.Sigils.{sigils_behind}
use Rattle.just_lang_rulebook.proofs.sigils.sigils.Given as goal

abbrev pub invariant-bytes : goal.invariant-bytes
invariant-bytes l = sigils_behind l.seen.items (drop l.byte-index l.text) ≡ sigils_behind [] l.text
