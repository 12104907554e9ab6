-- What is printed of the values of the project is what the command asks for; or there is no project.
use Rattle.just_cli.specs.Commands.{EvaluatesLaid}
use Rattle.just_cli.specs.Request.{BeginsPairs}
use Rattle.just_cli.proofs.Commanding.{project_lost, project_then}
use Rattle.just_cli.proofs.commands.evaluate_at.Goals as goal

pub returns-in-Err-clause-values : goal.returns-in-Err-clause-values
returns-in-Err-clause-values g c = project_lost (EvaluatesLaid c.args.config.now) BeginsPairs _ (g.H.Host.told c.args.host.now) _ (g.H.Host.told c.project_at.new.host) _ _ c.in-Err.ensures.project

pub returns-clause-values : goal.returns-clause-values
returns-clause-values g c =
    project_then (EvaluatesLaid c.args.config.now) BeginsPairs _ (g.H.Host.told c.args.host.now) _ (g.H.Host.told c.project_at.new.host) (g.H.Host.told c.values_of-values.new.host) _ _ c.in-Ok.ensures.project _ c.values_of-values.ensures.values
