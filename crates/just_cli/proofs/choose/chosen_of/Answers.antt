-- Nothing can be chosen, or the chooser answers.
use Rattle.just_cli.specs.Taken.{laid_in}
use Rattle.just_cli.proofs.Choices.{unfed, chosen_so}
use Rattle.just_cli.proofs.choose.chosen_of.Goals as goal

pub returns-in-Err : goal.returns-in-Err
returns-in-Err g c = unfed c.args.config.now (laid_in c.args.wanted.now c.args.environ.now c.args.laid.now) (g.H.Host.told c.args.host.now) _ c.in-Err.ensures.refused

pub returns-in-Ok-answered : goal.returns-in-Ok-answered
returns-in-Ok-answered g c =
    chosen_so c.args.config.now (laid_in c.args.wanted.now c.args.environ.now c.args.laid.now) (g.H.Host.told c.args.host.now) _ c.in-Ok.ensures.fed (g.H.Host.told c.answered.new.host) _ (rw c.as_str.ensures.value at c.in-Ok-answered.ensures c.args.environ.now)

pub returns : goal.returns
returns g c =
    chosen_so c.args.config.now (laid_in c.args.wanted.now c.args.environ.now c.args.laid.now) (g.H.Host.told c.args.host.now) _ c.in-Ok.ensures.fed (g.H.Host.told c.answered.new.host) _ (rw c.as_str.ensures.value at c.in-Err-answered.ensures c.args.environ.now)
