-- One more line.
use Rattle.std.proofs.Common.{◌∙◌}
use Rattle.just_lang_rulebook.proofs.LineSteps.{lines_step}
use Rattle.just_lang_rulebook.proofs.guards.first_of_body.Goals as goal

pub lines-preserved : goal.lines-preserved
lines-preserved c =
    lines_step c.args.file c.lines.is_continued c.line_goes_on-is_continued.result c.lines.found c.in_ok-here.here c.earlier-found.result c.args.body.now c.lines_from-tail.result.now
    c.lines.at c.index-body-at.result c.lines-test.true c.index-body-at.is c.lines_from-tail.ensures c.in_ok-here.ensures c.line_goes_on-is_continued.ensures c.earlier-found.ensures ∙ c.lines.invariant
