-- What the names make or break is what the layout does.
use Rattle.std.proofs.lemmas.Result.{IfErr-weaker}
use Rattle.just_lang.proofs.ProjectLaws.{layout_has_error}
use Rattle.just_lang.proofs.AssembledLaws.{both_ok, soundly_made}
use Rattle.just_lang.proofs.sources.assemble_winners.Goals as goal

pub returns-clause-justfile : goal.returns-clause-justfile
returns-clause-justfile c =
    both_ok c.assemble_names.result _ _ _
    (λ j h k. soundly_made c.args.environ.now.pairs c.args.layout.now c.args.winners.now c.in_ok-names.names c.requires.winners c.in_ok-names.ensures.layout c.in_ok-names.ensures.wins j h k)
    c.assemble_names.ensures.none c.assemble_names.ensures.justfile

pub returns-clause-refused : goal.returns-clause-refused
returns-clause-refused c =
    IfErr-weaker c.assemble_names.result _ _
    (λ e h there. layout_has_error c.args.environ.now.pairs c.args.layout.now c.args.winners.now c.in_ok-names.names c.requires.winners c.in_ok-names.ensures.layout c.in_ok-names.ensures.wins e (h there)) c.assemble_names.ensures.refused
