-- The innermost level decides.
use Rattle.std.proofs.Common.{ap, ◌∙◌}
use Rattle.just_env.specs.Changes.{outer}
use Rattle.just_env.proofs.Lookups.{innermost}
use Rattle.just_env.proofs.Put.{all_put}
use Rattle.just_env.proofs.changes.Environment.new.Goals as goal

pub returns-clause-innermost : goal.returns-clause-innermost
returns-clause-innermost c =
    let all = c.args.settings.now.export in
    innermost all c.args.unexports.now c.args.dotenv.now c.args.scope.now.levels c.in_ok-in_order.field-0
    (all_put c.args.dotenv.now all c.args.unexports.now _ _ c.new-made.ensures.empty c.in_ok-put_pairs.ensures c.args.scope.now.levels _ _ _ (c.outer-levels.ensures ∙ ap outer c.as_slice.ensures) c.in_ok-put_levels.ensures c.in_ok-in_order.ensures.entries)
    c.in_ok-in_order.ensures.rising
