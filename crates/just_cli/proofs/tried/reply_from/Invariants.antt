-- What is asked of the justfiles from this place on, behind these acts, is what is asked of those from the first place on.
use Rattle.std.proofs.Common.{Ok, length}
use Rattle.just_cli.specs.Preparing.{Performs}
use Rattle.just_cli.proofs.Trying.{Reaches, Anyhow}
use Rattle.just_cli.proofs.tried.reply_from.Given as goal

abbrev pub invariant-places : goal.invariant-places
invariant-places g l =
    Performs (Reaches (record { config = l.config; environ = l.environ }) l.fn.location l.place (g.H.Host.told l.fn.host).world) Anyhow
    (g.H.Host.told l.fn.host) (g.H.Host.told l.host) l.fn.made.items l.made.items (Ok tt)

abbrev pub decreases-places : goal.decreases-places
decreases-places g l = length l.place.working_directory
