-- No place so far has a justfile; the record gained refused listings alone.
use Rattle.std.proofs.Common.{◌≡◌, drop}
use Rattle.just_search.specs.Listing.{GainsListings}
use Rattle.just_search.proofs.Places.{Passed}
use Rattle.just_search.proofs.global.first_place.Given as goal

abbrev pub invariant-places : goal.invariant-places
invariant-places g l = record {
  passed : Passed (g.H.Host.told l.fn.host).world l.places (drop l.place-index l.places) (g.H.Host.told l.fn.host).entries (g.H.Host.told l.host).entries;
  entries : GainsListings (g.H.Host.told l.fn.host).entries (g.H.Host.told l.host).entries;
  world : (g.H.Host.told l.host).world ≡ (g.H.Host.told l.fn.host).world;
}
