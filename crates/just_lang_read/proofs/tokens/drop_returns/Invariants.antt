-- What is kept stays the same where a carriage return at the end goes.
use Rattle.std.proofs.Common.{◌≡◌, vec_len}
use Rattle.just_lang_read.specs.Lines.{without_returns}
use Rattle.just_lang_read.proofs.tokens.drop_returns.Given as goal

abbrev pub invariant-returns : goal.invariant-returns
invariant-returns l = without_returns l.text.items ≡ without_returns l.initial.text.items

abbrev pub decreases-returns : goal.decreases-returns
decreases-returns l = vec_len l.text
