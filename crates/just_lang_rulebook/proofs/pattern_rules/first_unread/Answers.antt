-- One more pattern.
use Rattle.std.proofs.Common.{rules, ◌≡◌, Bool, not, ap, ◌∙◌}
use Rattle.just_lang_spots.specs.Spots.{first_spot, spot_where}
use Rattle.just_lang_rulebook.specs.Patterns.{is_pattern}
use Rattle.just_lang_rulebook.proofs.BigPatterns.{unread_step}
use Rattle.just_lang_rulebook.proofs.pattern_rules.first_unread.Goals as goal

pub patterns-preserved : goal.patterns-preserved
patterns-preserved c =
    let unread : c.in_ok-is_unread.is_unread ≡ not (is_pattern c.pattern-item.result.text) = search rules in
    unread_step c.patterns.found c.spot_where-here.result c.earlier-found.result c.args.patterns.now c.patterns.pattern-index c.pattern-item.result
    c.patterns-test.true c.pattern-item.is (c.spot_where-here.ensures ∙ ap (λ (b : Bool). first_spot (spot_where b c.pattern-item.result.spot)) unread) c.earlier-found.ensures
    ∙ c.patterns.invariant
