-- A turn leaves each open body running.
use Rattle.just_sched_book.proofs.Runners.{each_turn}
use Rattle.just_sched.proofs.desk.Desk.turn.Goals as goal

pub invariant_of-self : goal.invariant_of-self
invariant_of-self g c = record { each_runs = each_turn c.go_on.result _ _ _ c.note_end-held.result.node c.args.self.now.each_runs c.note_end-held.ensures.grown c.go_on.ensures.grown c.go_on.ensures.did }
