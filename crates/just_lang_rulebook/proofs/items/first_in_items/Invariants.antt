-- What was found, and what is still to come.
use Rattle.std.proofs.Common.{◌≡◌, drop}
use Rattle.std.specs.List.{flat_map}
use Rattle.just_lang_spots.specs.Spots.{earlier, first_spot}
use Rattle.just_lang_spots.specs.Entries.{entries}
use Rattle.just_lang_rulebook.proofs.items.first_in_items.Given as goal

abbrev pub invariant-items : goal.invariant-items
invariant-items g l =
    earlier l.found (first_spot (flat_map (λ x. g.R.Rule.spots l.rule x.0 x.1) (entries (drop l.one-index l.items))))
    ≡ first_spot (flat_map (λ x. g.R.Rule.spots l.rule x.0 x.1) (entries l.items))
