-- The project of the file is that of the justfile in a place; or one of the steps is refused.
use Rattle.just_cli.proofs.Chain.{place_untaken, place_lost, place_found}
use Rattle.just_cli.proofs.place.project_at.Goals as goal

pub returns-in-Err-clause-project : goal.returns-in-Err-clause-project
returns-in-Err-clause-project g c = place_untaken _ _ _ (g.H.Host.told c.args.host.now) _ _ _ _ c.in-Err.ensures

pub returns-in-Ok-laid_of-clause-project : goal.returns-in-Ok-laid_of-clause-project
returns-in-Ok-laid_of-clause-project g c =
    place_found _ _ _ (g.H.Host.told c.args.host.now) _ (g.H.Host.told c.take.new.host) (g.H.Host.told c.laid_of.new.host) _ _ _ c.in-Ok.ensures c.laid_of.ensures.world _ c.in-Ok-laid_of.ensures.grew (rw c.as_path.ensures at c.in-Ok-laid_of.ensures.project)

pub returns-clause-project : goal.returns-clause-project
returns-clause-project g c =
    place_lost _ _ _ (g.H.Host.told c.args.host.now) _ (g.H.Host.told c.take.new.host) (g.H.Host.told c.laid_of.new.host) _ _ _ c.in-Ok.ensures c.laid_of.ensures.world _ c.in-Err-laid_of.ensures.grew (rw c.as_path.ensures at c.in-Err-laid_of.ensures.refused)
