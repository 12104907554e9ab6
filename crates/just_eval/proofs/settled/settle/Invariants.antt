-- The assignments in front have their outcomes.
use Rattle.std.proofs.Common.{◌≡◌, length, take}
use Rattle.std.specs.BTreeMap.{get}
use Rattle.just_eval_closure.specs.Numbers.{text_cmp}
use Rattle.just_eval_closure.specs.Scopes.{found_in}
use Rattle.just_eval.specs.Partial.{AreSettled, AreThere}
use Rattle.just_eval.proofs.settled.settle.Given as goal

abbrev pub invariant-order : goal.invariant-order
invariant-order l = record {
  size : length l.outcomes.items ≡ length l.given.assignments.now;
  settled : AreSettled l.given.assignments.now (λ name. get text_cmp l.given.overrides.now name) (found_in l.given.env.now.pairs.now l.given.env.now.environ.now.pairs) l.outcomes.items;
  there : AreThere l.outcomes.items (take l.at-index l.order);
}
