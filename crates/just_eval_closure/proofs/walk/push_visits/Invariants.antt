-- What is pending with what is left is what was pending with all.
use Rattle.std.proofs.Common.{◌≡◌, length}
use Rattle.just_eval_closure.specs.Pending.{stacked}
use Rattle.just_eval_closure.proofs.walk.push_visits.Given as goal

abbrev pub invariant-keys : goal.invariant-keys
invariant-keys l = stacked l.pending.items l.round l.keys.items ≡ stacked l.initial.pending.items l.round l.initial.keys.items

abbrev pub decreases-keys : goal.decreases-keys
decreases-keys l = length l.keys.items
