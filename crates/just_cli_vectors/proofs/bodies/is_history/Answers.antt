-- One body more, and nothing behind the last one.
use Rattle.std.proofs.Common.{◌++◌, length, ap, sym, ◌∙◌, append-nil, append_assoc, arith, eqb-true}
use Rattle.std.proofs.lemmas.List.{nil_from_length}
use Rattle.just_cli_vectors.specs.Vectors.{body_events, run_events}
use Rattle.just_cli_vectors.proofs.Ranges.{more}
use Rattle.just_cli_vectors.proofs.bodies.is_history.Goals as goal

pub bodies-preserved : goal.bodies-preserved
bodies-preserved c = record {
  within = omega (arith, c.bodies-test.true);
  front = c.bodies.invariant.front
      ∙ ap (λ r. run_events c.bodies.number ++ r) c.in-Some.ensures
      ∙ sym (append_assoc (run_events c.bodies.number) (body_events c.bodies.number) c.in-Some.others.now)
      ∙ ap (λ e. e ++ c.in-Some.others.now) (sym (more body_events c.bodies.number));
}

pub returns-then-is_empty : goal.returns-then-is_empty
returns-then-is_empty c = λ _.
    c.bodies.invariant.front
    ∙ ap (λ r. run_events c.bodies.number ++ r) (nil_from_length c.bodies.rest.now (eqb-true (length c.bodies.rest.now) 0 (sym c.if-is_empty.ensures)))
    ∙ append-nil (run_events c.bodies.number)
    ∙ ap run_events (omega (arith, c.bodies.invariant.within, c.bodies-test.false))
