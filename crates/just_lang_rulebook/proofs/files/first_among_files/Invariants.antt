-- What was found, and what is still to come.
use Rattle.std.proofs.Common.{◌≡◌, drop}
use Rattle.just_lang_spots.specs.Spots.{earlier, first_spot}
use Rattle.just_lang_rulebook.specs.Faults.{fault_spots_from}
use Rattle.just_lang_rulebook.proofs.files.first_among_files.Given as goal

abbrev pub invariant-files : goal.invariant-files
invariant-files l =
    earlier l.found (first_spot (fault_spots_from l.kind l.number (drop l.number l.files))) ≡ first_spot (fault_spots_from l.kind 0 l.files)
