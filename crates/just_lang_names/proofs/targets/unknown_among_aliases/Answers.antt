-- One more alias.
use Rattle.std.proofs.Common.{◌∙◌}
use Rattle.just_lang_names.specs.Names.{layout_of, wins_of}
use Rattle.just_lang_names.specs.TargetSpots.{unknown_alias_target}
use Rattle.just_lang_names.specs.Targets.{alias_in}
use Rattle.just_lang_names.proofs.Steps.{first_step_of}
use Rattle.just_lang_names.proofs.targets.unknown_among_aliases.Goals as goal

pub aliases-preserved : goal.aliases-preserved
aliases-preserved c =
    first_step_of (unknown_alias_target (wins_of c.args.names.now) (layout_of c.args.names.now)) alias_in c.aliases.found c.unknown_alias_target-here.result c.earlier-found.result c.args.aliases.now c.aliases.one-index c.one-item.result
    c.aliases-test.true c.one-item.is c.unknown_alias_target-here.ensures c.earlier-found.ensures ∙ c.aliases.invariant
