-- There is no project, nothing is chosen, or the words that are chosen are run.
use Rattle.just_cli.proofs.Choices.{choices_lost, choices_unchosen, choices_run}
use Rattle.just_cli.proofs.choose.choose_tried.Goals as goal

pub returns-in-Err : goal.returns-in-Err
returns-in-Err g c = choices_lost _ (g.H.Host.told c.args.host.now) _ (g.H.Host.told c.project_at.new.host) _ _ c.in-Err.ensures.project

pub returns-in-Err-chosen_of : goal.returns-in-Err-chosen_of
returns-in-Err-chosen_of g c = choices_unchosen _ (g.H.Host.told c.args.host.now) _ (g.H.Host.told c.project_at.new.host) _ _ c.in-Ok.ensures.project (g.H.Host.told c.chosen_of.new.host) _ c.in-Err-chosen_of.ensures

pub returns-in-Ok-reply_to_words : goal.returns-in-Ok-reply_to_words
returns-in-Ok-reply_to_words g c =
    choices_run _ (g.H.Host.told c.args.host.now) _ (g.H.Host.told c.project_at.new.host) _ _ c.in-Ok.ensures.project (g.H.Host.told c.chosen_of.new.host) _ c.in-Ok-chosen_of.ensures (g.H.Host.told c.reply_to_words.new.host) _ _ c.in-Ok-reply_to_words.ensures

pub returns-in-Err-reply_to_words : goal.returns-in-Err-reply_to_words
returns-in-Err-reply_to_words g c =
    choices_run _ (g.H.Host.told c.args.host.now) _ (g.H.Host.told c.project_at.new.host) _ _ c.in-Ok.ensures.project (g.H.Host.told c.chosen_of.new.host) _ c.in-Ok-chosen_of.ensures (g.H.Host.told c.reply_to_words.new.host) _ _ c.in-Err-reply_to_words.ensures
