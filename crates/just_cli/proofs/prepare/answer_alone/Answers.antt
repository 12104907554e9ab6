-- The run of so many recipes is asked for, or a response.
use Rattle.std.proofs.Common.{ap, ◌∙◌}
use Rattle.just_cli_texts.specs.declared.kind.Kind.TheVariants as kind
use Rattle.just_cli_vectors.specs.Vectors.{count_of}
use Rattle.just_cli.specs.Words.{ConfigRequest}
use Rattle.just_cli.proofs.Commanding.{responds_then, vectors_then, alone_as, unasked_as, counts_so}
use Rattle.just_cli.proofs.prepare.answer_alone.Goals as goal

pub returns-then-is_vectors-clause-asked : goal.returns-then-is_vectors-clause-asked
returns-then-is_vectors-clause-asked c = λ told.
    let q : ConfigRequest = record { config = c.args.config.now; environ = c.args.environ.now } in
    alone_as _ kind.Vectors (vectors_then _ (rw (c.is_vectors.ensures, c.kind_of.ensures) at c.if-is_vectors.true)) told q _
    (counts_so q c.count_of.result (c.count_of.ensures ∙ ap count_of c.words_of.ensures))

pub returns-in-Ok-clause-asked : goal.returns-in-Ok-clause-asked
returns-in-Ok-clause-asked c = λ told.
    alone_as _ kind.Respond (responds_then _ c.requires.old c.requires.alone (rw (c.is_vectors.ensures, c.kind_of.ensures) at c.if-is_vectors.false)) told _ _
    c.in-Ok.ensures.asked

pub returns-in-Err-clause-refused : goal.returns-in-Err-clause-refused
returns-in-Err-clause-refused c = λ told.
    unasked_as _ kind.Respond (responds_then _ c.requires.old c.requires.alone (rw (c.is_vectors.ensures, c.kind_of.ensures) at c.if-is_vectors.false)) told _ _
    c.in-Err.ensures.refused
