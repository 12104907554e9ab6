-- It is cleaned and told of, or the error is told.
use Rattle.just_cli.proofs.CleaningLaws.{is_cleaned, is_uncleaned}
use Rattle.just_cli.proofs.clean.clean.Goals as goal

pub returns-in-Ok : goal.returns-in-Ok
returns-in-Ok g c = is_cleaned _ _ _ (g.H.Host.told c.args.host) (g.H.Host.told c.tidy-tidied.new.host) (g.H.Host.told c.done.result.host) _ c.in-Ok.ensures.tidied c.done.ensures

pub returns-in-Err : goal.returns-in-Err
returns-in-Err g c =
    is_uncleaned _ _ _ (g.H.Host.told c.args.host) (g.H.Host.told c.tidy-tidied.new.host) (g.H.Host.told c.fail.result.host) _ _ _ c.fail.ensures.failed c.new.ensures c.in-Err.ensures.untidied c.fail.ensures.told c.fail.ensures.world
