-- The child of the words in the environment of the project is what the command asks for; or there is no project.
use Rattle.just_cli.specs.Commands.{InvokesLaid}
use Rattle.just_cli.specs.Request.{BeginsPairs}
use Rattle.just_cli.proofs.Commanding.{project_lost, project_then}
use Rattle.just_cli.proofs.commands.invoke_at.Goals as goal

pub returns-in-Err-clause-child : goal.returns-in-Err-clause-child
returns-in-Err-clause-child g c = project_lost (InvokesLaid c.args.config.now) BeginsPairs _ (g.H.Host.told c.args.host.now) _ (g.H.Host.told c.project_at.new.host) _ _ c.in-Err.ensures.project

pub returns-clause-child : goal.returns-clause-child
returns-clause-child g c =
    project_then (InvokesLaid c.args.config.now) BeginsPairs _ (g.H.Host.told c.args.host.now) _ (g.H.Host.told c.project_at.new.host) (g.H.Host.told c.invocation_of-invocation.new.host) _ _ c.in-Ok.ensures.project _ c.invocation_of-invocation.ensures.child
