-- One empty list more.
use Rattle.std.proofs.Common.{ℕ, [], arith, subst, sym}
use Rattle.std.specs.Prelude.{map, slice_index_or, Contains}
use Rattle.just_sched_history.proofs.Dependents.{empty_more}
use Rattle.just_sched_history.proofs.making.empty_lists.Goals as goal

pub loop-preserved : goal.loop-preserved
loop-preserved c = record {
  len = omega (arith, c.in_ok-push.ensures.len, c.loop.invariant.len);
  empty = subst (λ vs. (q m : ℕ) → Contains (slice_index_or (map (λ x. x.items) vs) q []) m → ⊥) (sym c.in_ok-push.ensures.items) (empty_more (λ x. x.items) c.loop.lists.items c.new.result c.new.ensures.items c.loop.invariant.empty);
}
