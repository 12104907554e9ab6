-- The status at the path of the key's entry.
use Rattle.std.proofs.Common.{◌∙◌}
use Rattle.just_path.specs.Path.{text_of}
use Rattle.just_cache.proofs.Told.{status_moved, status_shows}
use Rattle.just_cache.proofs.cache.Cache.status.Goals as goal

pub returns-clause-status : goal.returns-clause-status
returns-clause-status g c =
    status_moved (g.H.Host.told c.args.host.now) _ (text_of c.as_path.result) _ c.args.outputs.now _ c.args.key.now.recipe _ c.status_at.ensures.status (c.as_path.ensures ∙ c.in_ok-path.ensures) c.in_ok-recipe.ensures

pub returns-clause-told : goal.returns-clause-told
returns-clause-told g c =
    status_shows (g.H.Host.told c.args.host.now) _ _ c.args.outputs.now c.args.key.now.recipe _
    (status_moved (g.H.Host.told c.args.host.now) _ (text_of c.as_path.result) _ c.args.outputs.now _ c.args.key.now.recipe _ c.status_at.ensures.status (c.as_path.ensures ∙ c.in_ok-path.ensures) c.in_ok-recipe.ensures)
