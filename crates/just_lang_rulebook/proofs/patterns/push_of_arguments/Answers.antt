-- One more pattern, where there is one.
use Rattle.std.proofs.Common.{◌+◌, ◌∙◌, drop}
use Rattle.just_lang_spots.proofs.ListLaws.{drop_here}
use Rattle.just_lang_rulebook.specs.Patterns.{pattern_pair, pattern_text}
use Rattle.just_lang_rules.proofs.Loops.{viewed_step}
use Rattle.just_lang_rulebook.proofs.patterns.push_of_arguments.Goals as goal

pub arguments-preserved : goal.arguments-preserved
arguments-preserved g c =
    let xs = c.args.arguments.now in
    let i = c.arguments.argument-index in
    let x = c.argument-item.result in
    viewed_step pattern_pair (pattern_text (g.T.Texts.text_of c.args.texts.now) c.args.file) x (drop (i + 1) xs) (drop i xs) c.arguments.found.items c.push_some.new.list.items c.in_ok-pattern.pattern
    (drop_here xs i x c.arguments-test.true c.argument-item.is) c.in_ok-pattern.ensures c.in_ok-push_some.ensures ∙ c.arguments.invariant
