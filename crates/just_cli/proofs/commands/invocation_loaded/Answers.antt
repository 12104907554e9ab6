-- The child stands behind the values of the variables; or one of the steps is refused.
use Rattle.std.proofs.Common.{inl, refl, ap}
use Rattle.just_cli_children.specs.declared.child.Child.{Child}
use Rattle.just_cli_texts.specs.Laid.{LaidRequest, laid_by}
use Rattle.just_cli.proofs.Commanding.{uninvoked, invokes_so}
use Rattle.just_cli.proofs.commands.invocation_loaded.Goals as goal

pub returns-in-Err-clause-refused : goal.returns-in-Err-clause-refused
returns-in-Err-clause-refused c =
    let q : LaidRequest = record { wanted = c.args.wanted.now; environ = c.args.environ.now; laid = laid_by c.args.laid.now } in
    uninvoked c.args.config.now q c.args.dotenv.now _ c.in-Err.ensures.refused

pub returns-in-Ok-words_child-clause-child : goal.returns-in-Ok-words_child-clause-child
returns-in-Ok-words_child-clause-child c =
    let q : LaidRequest = record { wanted = c.args.wanted.now; environ = c.args.environ.now; laid = laid_by c.args.laid.now } in
    invokes_so c.args.config.now q c.args.dotenv.now _ c.in-Ok.ensures.scopes _ c.in-Ok-words_child.ensures

pub returns-in-Ok-words_child-clause-found : goal.returns-in-Ok-words_child-clause-found
returns-in-Ok-words_child-clause-found c = ap (λ (x : Child). x.spec.script) c.in-Ok-words_child.ensures

pub returns-clause-refused : goal.returns-clause-refused
returns-clause-refused c = inl refl
