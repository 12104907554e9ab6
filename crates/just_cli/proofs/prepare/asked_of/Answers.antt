-- What is chosen answers, or what is asked of the justfile in its place.
use Rattle.std.proofs.Common.{◌≡◌, false, rules, sym}
use Rattle.just_cli_texts.specs.Kinds.{kind_of, is_choice}
use Rattle.just_cli.proofs.Commanding.{chooses_then, choice_asked, choice_lost}
use Rattle.just_cli.proofs.prepare.asked_of.Goals as goal

pub asked_at-requires-clause-given : goal.asked_at-requires-clause-given
asked_at-requires-clause-given g c =
    let given : is_choice (kind_of c.args.config.subcommand) ≡ false = rw (c.is_choice.ensures, c.kind_of.ensures) at c.if-not-is_choice.true in search rules

pub returns-in-Ok-choose_tried-clause-asked : goal.returns-in-Ok-choose_tried-clause-asked
returns-in-Ok-choose_tried-clause-asked g c =
    choice_asked _ (g.H.Host.told c.args.host.now) (g.H.Host.told c.choose_tried.new.host) _ _ (chooses_then _ (rw (c.is_choice.ensures, c.kind_of.ensures) at c.if-not-is_choice.false)) _ _ (sym c.task_of_choice.ensures.asked) c.in-Ok-choose_tried.ensures

pub returns-in-Err-choose_tried-clause-asked : goal.returns-in-Err-choose_tried-clause-asked
returns-in-Err-choose_tried-clause-asked g c =
    choice_lost _ (g.H.Host.told c.args.host.now) (g.H.Host.told c.choose_tried.new.host) _ _ (chooses_then _ (rw (c.is_choice.ensures, c.kind_of.ensures) at c.if-not-is_choice.false)) _ c.in-Err-choose_tried.ensures
