-- What the names break is what the layout breaks.
use Rattle.std.proofs.lemmas.Result.{IfOk-weaker, IfErr-weaker}
use Rattle.just_lang.proofs.ProjectLaws.{layout_has_none, layout_has_error}
use Rattle.just_lang.proofs.check.check_winners.Goals as goal

pub returns-clause-none : goal.returns-clause-none
returns-clause-none c =
    IfOk-weaker c.check_names.result _ _
    (λ u h. layout_has_none c.args.environ.now.pairs c.args.layout.now c.args.winners.now c.in_ok-names.names c.requires c.in_ok-names.ensures.layout c.in_ok-names.ensures.wins h) c.check_names.ensures.none

pub returns-clause-refused : goal.returns-clause-refused
returns-clause-refused c =
    IfErr-weaker c.check_names.result _ _
    (λ e h there. layout_has_error c.args.environ.now.pairs c.args.layout.now c.args.winners.now c.in_ok-names.names c.requires c.in_ok-names.ensures.layout c.in_ok-names.ensures.wins e (h there)) c.check_names.ensures.refused
