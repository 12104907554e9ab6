-- What is given is given by those that are left, or is in the map.
use Rattle.just_eval.proofs.GivenTexts.{IsGivenFrom}
use Rattle.just_eval.proofs.overrides.given_in.Given as goal

abbrev pub invariant-overrides : goal.invariant-overrides
invariant-overrides l = IsGivenFrom l.overrides l.path l.one-index l.given
