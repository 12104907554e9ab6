-- The texts to come are as many but for an even number.
use Rattle.std.proofs.Common.{◌≡◌, length}
use Rattle.just_config.specs.Config.{is_odd}
use Rattle.just_config.proofs.refusal.is_odd.Given as goal

abbrev pub invariant-texts : goal.invariant-texts
invariant-texts l = is_odd l.rest ≡ is_odd l.texts

abbrev pub decreases-texts : goal.decreases-texts
decreases-texts l = length l.rest
