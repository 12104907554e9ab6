-- The places so far, and those that are still to come.
use Rattle.std.proofs.Common.{◌≡◌, ◌++◌, drop}
use Rattle.std.specs.List.{flat_map}
use Rattle.just_lang_spots.specs.Entries.{entries}
use Rattle.just_lang_rules.specs.DefaultSpots.{default_spots}
use Rattle.just_lang_rules.proofs.defaults.spots_of.Given as goal

abbrev pub invariant-items : goal.invariant-items
invariant-items l =
    l.spots.items ++ flat_map (λ x. default_spots x.0 x.1) (entries (drop l.one-index l.items)) ≡ flat_map (λ x. default_spots x.0 x.1) (entries l.items)
