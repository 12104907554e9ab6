-- The digits to come go on from the number so far.
use Rattle.std.proofs.Common.{◌≡◌, drop}
use Rattle.just_lang_read.specs.Decimal.{number_from}
use Rattle.just_lang_read.proofs.decimals.number.Given as goal

abbrev pub invariant-digits : goal.invariant-digits
invariant-digits l = number_from l.number (drop l.digit-index l.digits) ≡ number_from l.initial.number l.digits
