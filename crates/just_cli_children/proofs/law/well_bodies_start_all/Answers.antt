-- Each is started, and no other.
use Rattle.just_cli_children.proofs.BodyLaws.{starts_all}
use Rattle.just_cli_children.proofs.law.well_bodies_start_all.Goals as goal

pub returns : goal.returns
returns c = starts_all
