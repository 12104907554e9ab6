-- The innermost level decides.
use Rattle.just_env.specs.Changes.{module_levels}
use Rattle.just_env.proofs.Lookups.{innermost}
use Rattle.just_env.proofs.Put.{all_module_put}
use Rattle.just_env.proofs.changes.changes_of_module.Goals as goal

pub returns-clause-innermost : goal.returns-clause-innermost
returns-clause-innermost c =
    let all = c.args.settings.now.export in
    innermost all c.args.unexports.now c.args.dotenv.now (module_levels c.args.levels.now) c.in_ok-list.list
    (all_module_put c.args.dotenv.now all c.args.unexports.now _ _ c.new-changed.ensures.empty c.in_ok-put_pairs.ensures c.args.levels.now _ _ c.in_ok-put_levels.ensures c.in_ok-list.ensures.entries)
    c.in_ok-list.ensures.rising
