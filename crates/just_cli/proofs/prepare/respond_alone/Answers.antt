-- The response is what is asked for.
use Rattle.std.proofs.Common.{Ok, sym, subst}
use Rattle.just_cli_texts.specs.declared.printed.Printed.{Printed}
use Rattle.just_cli.specs.declared.task.Other.TheVariants as no_run
use Rattle.just_cli.specs.Asked.{Asked, Responds}
use Rattle.just_cli.specs.Words.{ConfigRequest}
use Rattle.just_cli.proofs.Commanding.{responds_so, unresponded}
use Rattle.just_cli.proofs.Planless.{response_silent}
use Rattle.just_cli.proofs.prepare.respond_alone.Goals as goal

pub returns-in-Ok-clause-asked : goal.returns-in-Ok-clause-asked
returns-in-Ok-clause-asked c =
    let q : ConfigRequest = record { config = c.args.config.now; environ = c.args.environ.now } in
    subst (λ (p : Printed). Responds q (Ok (Asked.other (no_run.Show p)))) (sym c.alone.ensures) (responds_so q _ (rw c.words_of.ensures at c.in-Ok.ensures.text))

pub returns-in-Err-clause-refused : goal.returns-in-Err-clause-refused
returns-in-Err-clause-refused c =
    let q : ConfigRequest = record { config = c.args.config.now; environ = c.args.environ.now } in
    unresponded q _ (rw c.words_of.ensures at c.in-Err.ensures.refused)

pub returns-in-Err-clause-silent : goal.returns-in-Err-clause-silent
returns-in-Err-clause-silent c = response_silent c.args.environ.now.pairs _ _ c.in-Err.ensures.refused
