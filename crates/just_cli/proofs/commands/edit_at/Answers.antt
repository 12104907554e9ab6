-- The justfile is taken as a file, whose editor is what the command asks for; or it isn't taken.
use Rattle.std.proofs.Common.{inl, [], refl, sym, ap, append-nil}
use Rattle.std.specs.Prelude.{Result, Ok, Err}
use Rattle.just_exec.specs.declared.error.Error.{Error}
use Rattle.just_exec.specs.declared.error.Error.TheVariants as error
use Rattle.just_cli_children.specs.declared.child.Child.{Child}
use Rattle.just_cli.specs.Commands.{EditsIt}
use Rattle.just_cli.specs.declared.task.Other.{Other}
use Rattle.just_cli.specs.declared.task.Other.TheVariants as no_run
use Rattle.just_cli.proofs.Commanding.{file_untaken, file_asked}
use Rattle.just_cli.proofs.Prepared.{left_nothing}
use Rattle.just_cli.proofs.commands.edit_at.Goals as goal

pub returns-in-Err-clause-edits : goal.returns-in-Err-clause-edits
returns-in-Err-clause-edits g c = file_untaken (λ now. EditsIt) _ _ _ (g.H.Host.told c.args.host.now) _ (g.H.Host.told c.take.new.host) _ _ c.in-Err.ensures

pub returns-in-Ok-child-clause-edits : goal.returns-in-Ok-child-clause-edits
returns-in-Ok-child-clause-edits g c =
    let now = g.H.Host.told c.take.new.host in
    file_asked (λ told. EditsIt) _ _ _ (g.H.Host.told c.args.host.now) _ now now _ _ _ c.in-Ok.ensures refl _ ([], sym (append-nil now.entries), tt)
    (ap (λ (x : Child). let into : Result Other Error = Ok (no_run.Invoke x) in into) (rw c.as_path.ensures at c.in-Ok-child.ensures))

pub returns-in-Ok-child-clause-found : goal.returns-in-Ok-child-clause-found
returns-in-Ok-child-clause-found g c = ap (λ (x : Child). x.spec.script) c.in-Ok-child.ensures

pub returns-in-Err-child-clause-edits : goal.returns-in-Err-child-clause-edits
returns-in-Err-child-clause-edits g c =
    let now = g.H.Host.told c.take.new.host in
    file_asked (λ told. EditsIt) _ _ _ (g.H.Host.told c.args.host.now) _ now now _ _ _ c.in-Ok.ensures refl (Err error.NoMemory) (left_nothing now.entries error.NoMemory refl) (inl refl)
