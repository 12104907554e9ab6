-- A node below all its targets lies on no cycle.
use Rattle.std.proofs.Common.{rules, ◌≡◌, ◌∙◌, sym, true}
use Rattle.just_lang_spots.specs.Levels.{is_below_targets}
use Rattle.just_lang_spots.proofs.Levels.{below_off_cycle}
use Rattle.just_lang_spots.proofs.graph.is_on_cycle.Goals as goal

pub returns-then-is_below_targets : goal.returns-then-is_below_targets
returns-then-is_below_targets c =
    let below : is_below_targets c.args.edges.now c.args.levels.now c.args.node ≡ true = sym c.is_below_targets.ensures ∙ c.if-is_below_targets.true in
    (λ t. search rules, λ cycle. absurd (below_off_cycle c.args.edges.now c.args.levels.now c.args.node c.requires.graph c.requires.levels c.requires.node below cycle))
