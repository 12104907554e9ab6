-- The chooser answers, which is run by the shell of the root.
use Rattle.std.proofs.Common.{rules}
use Rattle.just_cli.specs.Taken.{laid_in}
use Rattle.just_cli.proofs.Choices.{unanswered_so, chooser_answers}
use Rattle.just_cli.proofs.choose.answered.Goals as goal

pub returns-in_err-shell : goal.returns-in_err-shell
returns-in_err-shell g c = λ environ. unanswered_so c.args.config.now (laid_in c.args.wanted.now environ c.args.laid.now) c.args.input.now (g.H.Host.told c.args.host.now) _ (search rules)

pub returns-in_err-chooser : goal.returns-in_err-chooser
returns-in_err-chooser g c = λ environ. unanswered_so c.args.config.now (laid_in c.args.wanted.now environ c.args.laid.now) c.args.input.now (g.H.Host.told c.args.host.now) _ (search rules)

pub returns : goal.returns
returns g c = λ environ.
    chooser_answers c.args.config.now (laid_in c.args.wanted.now environ c.args.laid.now) c.args.input.now (g.H.Host.told c.args.host.now) (g.H.Host.told c.choose.new.host) _ _ _ c.in_ok-shell.ensures (rw c.as_str.ensures at c.in_ok-chooser.ensures) (rw c.as_path-folder.ensures at c.choose.ensures)
