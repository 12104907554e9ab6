-- What is kept while there is a node to go on with, which comes nearer to the first.
use Rattle.std.proofs.Common.{◌≡◌, ◌<◌, ℕ, Bool, List, length, IfSome}
use Rattle.just_sched_history.specs.declared.event.Event.{Event}
use Rattle.just_sched_history.specs.Progress.{IsPlaced, IsClosedBut, IsTold}
use Rattle.just_sched_history.specs.Covered.{AreCoveredBy}
use Rattle.just_sched_history.proofs.Parents.{distance}
use Rattle.just_sched_history.proofs.progress.Progress.climb.Given as goal

abbrev pub invariant-loop-next : goal.invariant-loop-next
invariant-loop-next l = record {
  within : IfSome l.next (λ n. n < length l.plan.nodes);
  size : l.self.size ≡ l.fn.self.size;
  confirmed : l.self.confirmed ≡ l.fn.self.confirmed;
  placed : IsPlaced l.plan.nodes l.plan.invocations l.self;
  closed : IsClosedBut l.plan.nodes l.plan.invocations l.self l.next;
  due : l.due.size ≡ l.fn.due.size;
  covered : (gone : ℕ → Bool) → AreCoveredBy l.plan.nodes gone l.fn.due.flags.items l.fn.self → AreCoveredBy l.plan.nodes gone l.due.flags.items l.self;
  told : (h : List Event) → IsTold l.plan.nodes l.plan.invocations h l.fn.self → IsTold l.plan.nodes l.plan.invocations h l.self;
}

abbrev pub decreases-loop-next : goal.decreases-loop-next
decreases-loop-next l = distance l.next
