-- What was found, and what is still to come.
use Rattle.std.proofs.Common.{◌≡◌, drop, false}
use Rattle.just_lang_spots.specs.Spots.{earlier, first_spot}
use Rattle.just_lang_rulebook.specs.GuardSpots.{guard_spots_of}
use Rattle.just_lang_rulebook.proofs.guards.first_of_body.Given as goal

abbrev pub invariant-lines : goal.invariant-lines
invariant-lines l =
    earlier l.found (first_spot (guard_spots_of l.file l.is_continued (drop l.at l.body))) ≡ first_spot (guard_spots_of l.file false l.body)
