-- The echoes of its commands are told.
use Rattle.just_cli_children.proofs.DryLaws.{lines_told, script_told, nothing_told}
use Rattle.just_cli_children.proofs.dry.tell_work.Goals as goal

pub returns-in-Lines : goal.returns-in-Lines
returns-in-Lines g c = lines_told _ _ (g.H.Host.told c.args.host.now) (g.H.Host.told c.tell_echoes.new.host) _ c.in-Lines.is (rw c.as_slice.ensures at c.tell_echoes.ensures)

pub returns-in-Script : goal.returns-in-Script
returns-in-Script g c = script_told _ _ (g.H.Host.told c.args.host.now) (g.H.Host.told c.tell_text.new.host) _ c.in-Script.is (rw c.get.ensures at (rw c.as_str.ensures at c.tell_text.ensures))

pub returns-in-Empty : goal.returns-in-Empty
returns-in-Empty g c = nothing_told _ (g.H.Host.told c.args.host.now) c.in-Empty.is
