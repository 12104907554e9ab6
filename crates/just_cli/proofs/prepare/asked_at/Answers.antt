-- The justfiles are tried, or a command is asked of the one in the place.
use Rattle.std.proofs.Common.{◌≡◌, true, rules, sym, ◌∙◌}
use Rattle.just_cli_texts.specs.Kinds.{is_placed}
use Rattle.just_cli.proofs.Commanding.{runs_then, reply_asked, reply_lost, command_asked, command_lost}
use Rattle.just_cli.proofs.prepare.asked_at.Goals as goal

pub returns-in-Ok-clause-asked : goal.returns-in-Ok-clause-asked
returns-in-Ok-clause-asked g c =
    reply_asked _ (g.H.Host.told c.args.host.now) (g.H.Host.told c.reply_tried.new.host) _ _ (runs_then _ (rw (c.is_placed.ensures, c.kind_of-kind.ensures) at c.if-not-is_placed.true) c.requires.reads c.requires.built) _ _ (sym c.task_of.ensures.asked) c.in-Ok.ensures

pub returns-in-Err-clause-asked : goal.returns-in-Err-clause-asked
returns-in-Err-clause-asked g c =
    reply_lost _ (g.H.Host.told c.args.host.now) (g.H.Host.told c.reply_tried.new.host) _ _ (runs_then _ (rw (c.is_placed.ensures, c.kind_of-kind.ensures) at c.if-not-is_placed.true) c.requires.reads c.requires.built) _ c.in-Err.ensures

pub command_at-asked-requires-clause-placed : goal.command_at-asked-requires-clause-placed
command_at-asked-requires-clause-placed g c =
    let placed : is_placed c.kind_of-kind.result ≡ true = sym c.is_placed.ensures ∙ c.if-not-is_placed.false in search rules

pub returns-in-Ok-asked-clause-asked : goal.returns-in-Ok-asked-clause-asked
returns-in-Ok-asked-clause-asked g c =
    command_asked _ (g.H.Host.told c.args.host.now) (g.H.Host.told c.command_at-asked.new.host) _ _ _ (sym c.kind_of-kind.ensures) (sym c.is_placed.ensures ∙ c.if-not-is_placed.false) _ c.in-Ok-asked.ensures.asked

pub returns-in-Err-asked-clause-asked : goal.returns-in-Err-asked-clause-asked
returns-in-Err-asked-clause-asked g c =
    command_lost _ (g.H.Host.told c.args.host.now) (g.H.Host.told c.command_at-asked.new.host) _ _ _ (sym c.kind_of-kind.ensures) (sym c.is_placed.ensures ∙ c.if-not-is_placed.false) _ c.in-Err-asked.ensures.asked
