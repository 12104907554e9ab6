-- One node more has the number of its class.
use Rattle.std.proofs.Common.{◌+◌, ◌∷◌, ◌++◌, [], ap, sym, ◌∙◌, subst, arith}
use Rattle.just_sched_history.specs.Classes.{Numbers}
use Rattle.just_sched_history.specs.Nodes.{cache_at}
use Rattle.just_sched_history.proofs.ClassLaws.{AreNumbered, classed, classless, numbered_alone, numbered_cached, numbered_all}
use Rattle.just_sched_history.proofs.classes.class_numbers.Goals.{in-Some+in_ok-number-in-Some, in-None}
use Rattle.just_sched_history.proofs.classes.class_numbers.Goals as goal

pub nodes-preserved : goal.nodes-preserved
nodes-preserved c =
    let nodes = c.args.plan.now.nodes in
    elim c.match-class_at.branch [
      | in-Some+in_ok-number-in-Some w ↦
          (let d = classed (cache_at nodes c.nodes.at) w.in-Some.class.now w.in-Some.ensures in
          subst (λ m. AreNumbered nodes (c.nodes.at + 1) c.push.new.self.items m) (sym w.numbers-is)
          (numbered_cached nodes c.nodes.at w.in_ok-number-in-Some.number d.0 c.nodes.classes.items c.nodes.numbers w.number_of.new.numbers d.1 c.nodes.invariant (subst (λ t. Numbers t c.nodes.at w.in_ok-number-in-Some.number c.nodes.numbers w.number_of.new.numbers) d.2 w.in_ok-number-in-Some.ensures)
          c.push.new.self.items (c.in_ok-push.ensures.items ∙ ap (λ k. c.nodes.classes.items ++ k ∷ []) w.number-is)))
      | in-None w ↦
          (subst (λ m. AreNumbered nodes (c.nodes.at + 1) c.push.new.self.items m) (sym w.numbers-is)
          (numbered_alone nodes c.nodes.at c.nodes.classes.items c.push.new.self.items c.nodes.numbers (c.in_ok-push.ensures.items ∙ ap (λ k. c.nodes.classes.items ++ k ∷ []) w.number-is) (classless (cache_at nodes c.nodes.at) w.in-None.ensures) c.nodes.invariant))
    ]

pub returns-clause-numbered : goal.returns-clause-numbered
returns-clause-numbered c = numbered_all c.args.plan.now.nodes c.nodes.at c.nodes.classes.items c.nodes.numbers (omega (arith, c.nodes-test.false, c.len-count.ensures)) c.nodes.invariant
