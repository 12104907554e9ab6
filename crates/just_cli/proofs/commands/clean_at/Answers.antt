-- The cache of the project is what the command asks for; or there is no project.
use Rattle.std.proofs.Common.{inl, refl, ap}
use Rattle.just_cli.specs.Acts.{Looks, NoAct}
use Rattle.just_cli.specs.Commands.{CleansIt}
use Rattle.just_cli.specs.declared.task.Other.{Other}
use Rattle.just_cli.specs.Taken.{laid_in}
use Rattle.just_cli_texts.specs.Kinds.{words_of}
use Rattle.just_cli_texts.specs.Laid.{LaidRequest}
use Rattle.just_exec.specs.declared.error.Error.{Error}
use Rattle.just_exec.specs.declared.error.Error.TheVariants as error
use Rattle.std.specs.Prelude.{Result, Ok}
use Rattle.just_cli.proofs.CleanPaths.{is_clean}
use Rattle.just_cli.proofs.Commanding.{project_lost, project_then, look_found, look_refused}
use Rattle.just_cli.proofs.commands.clean_at.Goals as goal

pub returns-in-Err-clause-cleans : goal.returns-in-Err-clause-cleans
returns-in-Err-clause-cleans g c = project_lost (Looks (λ now. CleansIt c.args.config.now)) NoAct _ (g.H.Host.told c.args.host.now) _ (g.H.Host.told c.project_at.new.host) _ _ c.in-Err.ensures.project

pub returns-in-Ok-clean_of-clause-cleans : goal.returns-in-Ok-clean_of-clause-cleans
returns-in-Ok-clean_of-clause-cleans g c =
    let now = g.H.Host.told c.project_at.new.host in
    let q : LaidRequest = laid_in c.in-Ok.found.0 c.args.environ.now c.in-Ok.found.1 in
    project_then (Looks (λ told. CleansIt c.args.config.now)) NoAct _ (g.H.Host.told c.args.host.now) _ now now _ _ c.in-Ok.ensures.project _
    (look_found (CleansIt c.args.config.now) now q _ (ap (λ (x : Other). let into : Result Other Error = Ok x in into) c.in-Ok-clean_of.ensures.cleans))

pub returns-clause-cleans : goal.returns-clause-cleans
returns-clause-cleans g c =
    let now = g.H.Host.told c.project_at.new.host in
    let q : LaidRequest = laid_in c.in-Ok.found.0 c.args.environ.now c.in-Ok.found.1 in
    project_then (Looks (λ told. CleansIt c.args.config.now)) NoAct _ (g.H.Host.told c.args.host.now) _ now now _ _ c.in-Ok.ensures.project _
    (look_refused (CleansIt c.args.config.now) now q error.NoMemory refl (inl refl))

pub returns-in-Ok-clean_of-clause-found : goal.returns-in-Ok-clean_of-clause-found
returns-in-Ok-clean_of-clause-found g c = is_clean _ _ (words_of c.args.config.now.subcommand) c.in-Ok-clean_of.ensures.cleans
