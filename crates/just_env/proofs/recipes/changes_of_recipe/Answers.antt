-- The innermost level decides.
use Rattle.just_eval_closure.specs.Scopes.{levels_within}
use Rattle.just_env.proofs.Lookups.{innermost}
use Rattle.just_env.proofs.Put.{all_recipe_put}
use Rattle.just_env.proofs.recipes.changes_of_recipe.Goals as goal

pub returns-clause-innermost : goal.returns-clause-innermost
returns-clause-innermost c =
    let all = c.args.settings.now.export in
    let levels = c.args.sees.levels.now in
    let parameters = c.args.sees.parameters.now in
    let values = c.args.sees.values.now in
    innermost all c.args.unexports.now c.args.dotenv.now (levels_within levels parameters values) c.in_ok-list.list
    (all_recipe_put c.args.dotenv.now all c.args.unexports.now _ _ c.new-made.ensures.empty c.in_ok-put_pairs.ensures levels parameters values _ _ _ _ c.in_ok-level.ensures c.in_ok-put_levels.ensures c.in_ok-put_level.ensures c.in_ok-list.ensures.entries)
    c.in_ok-list.ensures.rising
