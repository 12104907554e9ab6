-- The number of a name more.
use Rattle.std.specs.BTreeMap.{get}
use Rattle.just_eval_closure.specs.Numbers.{text_cmp}
use Rattle.just_eval.specs.Uses.{names_in}
use Rattle.std.specs.List.{filter_map}
use Rattle.just_eval.proofs.Targets.{target_more}
use Rattle.just_eval.proofs.names.targets.Goals as goal

pub names-preserved : goal.names-preserved
names-preserved c =
    target_more (λ n. get text_cmp c.args.numbers.now n) c.as_slice-name-items.result.now c.names.name-index c.name-item.result c.names-test.true c.name-item.is (filter_map (λ n. get text_cmp c.args.numbers.now n) (names_in c.args.expr.now)) c.names.targets.items c.push_target.new.targets.items
    c.in_ok-push_target.ensures c.names.invariant
