-- Those so far that no other one beats, and those that are still to come.
use Rattle.std.proofs.Common.{◌≡◌, ◌++◌, not, drop}
use Rattle.std.specs.Prelude.{filter}
use Rattle.just_lang_spots.specs.Entries.{entries}
use Rattle.just_lang_spots.specs.Items.{item_name}
use Rattle.just_lang_spots.specs.Standing.{is_beaten, unbeaten}
use Rattle.just_lang_spots.specs.Winners.{wins_in}
use Rattle.just_lang_spots.proofs.winners.unbeaten_by_pairs.Given as goal

abbrev pub invariant-items : goal.invariant-items
invariant-items l =
    entries l.kept.items ++ filter (λ x. not (is_beaten item_name (wins_in l.winners) (entries l.items) x)) (entries (drop l.one-index l.items))
    ≡ unbeaten item_name (wins_in l.winners) (entries l.items)
