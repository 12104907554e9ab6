-- A folder with its names; and one that can't be listed.
use Rattle.just_search.proofs.Places.{place_found, place_passed}
use Rattle.just_search.proofs.global.look_at.Goals as goal

pub returns-in-Ok-clause-looks : goal.returns-in-Ok-clause-looks
returns-in-Ok-clause-looks g c =
    place_found (g.H.Host.told c.args.host.now).world c.args.place.now (g.H.Host.told c.args.host.now).entries (g.H.Host.told c.names_in.new.host).entries c.as_slice.result.now c.path_at.result (rw (← c.as_slice.ensures) at rw c.as_path.ensures at c.in-Ok.ensures.names) c.in-Ok.ensures.entries c.path_at.ensures

pub returns-in-Err-clause-looks : goal.returns-in-Err-clause-looks
returns-in-Err-clause-looks g c =
    place_passed (g.H.Host.told c.args.host.now).world c.args.place.now (g.H.Host.told c.args.host.now).entries (g.H.Host.told c.names_in.new.host).entries c.in-Err.error c.unlisted.result (rw c.as_path.ensures at c.in-Err.ensures.names) c.in-Err.ensures.entries c.unlisted.ensures
