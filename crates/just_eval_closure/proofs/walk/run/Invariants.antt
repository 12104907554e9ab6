-- Whatever the work that is left leads to, the work at the beginning leads to; there are fewer tasks left each time.
use Rattle.std.proofs.Common.{◌≤◌, length}
use Rattle.just_eval_closure.specs.declared.TheConstants.{CLOSURE_LIMIT}
use Rattle.just_eval_closure.specs.Pending.{Leads, AreRight, AreBeside, tasks_left}
use Rattle.just_eval_closure.specs.Ran.{places_of}
use Rattle.just_eval_closure.proofs.walk.run.Given as goal

abbrev pub invariant-tasks : goal.invariant-tasks
invariant-tasks g l = record {
  leads : Leads (g.S.Surroundings.around l.surroundings) l.initial.pending.items (places_of l.initial.ran) l.pending.items (places_of l.ran);
  right : AreRight (g.S.Surroundings.around l.surroundings) (g.S.Surroundings.rank l.surroundings) (places_of l.ran) l.pending.items;
  beside : AreBeside (g.S.Surroundings.around l.surroundings) (places_of l.ran) l.beside.items;
  short : length (places_of l.ran) ≤ CLOSURE_LIMIT;
}

abbrev pub decreases-tasks : goal.decreases-tasks
decreases-tasks g l = tasks_left (g.S.Surroundings.around l.surroundings) (g.S.Surroundings.rank l.surroundings) l.pending.items
