-- A place that has a justfile; one that is passed; and when all are passed.
use Rattle.std.proofs.Common.{inr, refl, ◌∙◌}
use Rattle.just_search.proofs.Listings.{listings_none, listings_then}
use Rattle.just_search.proofs.Places.{passed_start, passed_next, passed_found, passed_all}
use Rattle.just_search.proofs.global.first_place.Goals as goal

pub returns-in-Some-clause-found : goal.returns-in-Some-clause-found
returns-in-Some-clause-found g c =
    passed_found (g.H.Host.told c.args.host.now).world (g.H.Host.told c.places.host).world c.args.places.now c.places.place-index c.place-item.result (g.H.Host.told c.args.host.now).entries (g.H.Host.told c.places.host).entries (g.H.Host.told c.look_at.new.host).entries c.in-Some.path c.places.invariant.world c.places-test.true c.place-item.is c.places.invariant.passed
    (rw c.in-Some.is at c.in_ok-path.ensures.looks)

pub places-preserved : goal.places-preserved
places-preserved g c = record {
  passed = passed_next (g.H.Host.told c.args.host.now).world (g.H.Host.told c.places.host).world c.args.places.now c.places.place-index c.place-item.result (g.H.Host.told c.args.host.now).entries (g.H.Host.told c.places.host).entries (g.H.Host.told c.look_at.new.host).entries c.places.invariant.world c.places-test.true c.place-item.is c.places.invariant.passed
      (rw c.in_default.is at c.in_ok-path.ensures.looks);
  entries = listings_then _ _ _ c.places.invariant.entries c.look_at.ensures.entries;
  world = c.look_at.ensures.world ∙ c.places.invariant.world;
}

pub returns-clause-found : goal.returns-clause-found
returns-clause-found g c =
    inr (passed_all (g.H.Host.told c.args.host.now).world c.args.places.now c.places.place-index (g.H.Host.told c.args.host.now).entries (g.H.Host.told c.places.host).entries c.places-test.false c.places.invariant.passed)

pub places-init : goal.places-init
places-init g c = record {
  passed = passed_start (g.H.Host.told c.args.host.now).world c.args.places.now (g.H.Host.told c.args.host.now).entries;
  entries = listings_none (g.H.Host.told c.args.host.now).entries;
  world = refl;
}

pub returns-clause-entries : goal.returns-clause-entries
returns-clause-entries g c = c.places.invariant.entries

pub returns-in_err-path-clause-entries : goal.returns-in_err-path-clause-entries
returns-in_err-path-clause-entries g c = listings_then _ _ _ c.places.invariant.entries c.look_at.ensures.entries

pub returns-in_err-path-clause-world : goal.returns-in_err-path-clause-world
returns-in_err-path-clause-world g c = c.look_at.ensures.world ∙ c.places.invariant.world

pub returns-in-Some-clause-entries : goal.returns-in-Some-clause-entries
returns-in-Some-clause-entries g c = listings_then _ _ _ c.places.invariant.entries c.look_at.ensures.entries

pub returns-in-Some-clause-world : goal.returns-in-Some-clause-world
returns-in-Some-clause-world g c = c.look_at.ensures.world ∙ c.places.invariant.world
