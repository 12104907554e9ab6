-- The lines of one more module.
use Rattle.std.proofs.Common.{map}
use Rattle.just_cli_texts.specs.Choices.{choices_of}
use Rattle.just_cli_texts.proofs.ChoiceLaws.{more_lines}
use Rattle.just_cli_texts.proofs.choices.choices_of_modules.Goals as goal

pub modules-preserved : goal.modules-preserved
modules-preserved c =
    more_lines (choices_of c.args.config.now (map (λ j. j.now) c.args.justfiles.now)) c.args.modules.now c.modules.outer-index c.outer-item.result c.modules.lines.items c.push_choices_of.new.lines.items _ c.modules-test.true c.outer-item.is c.modules.invariant
    c.in_ok-push_choices_of.ensures
