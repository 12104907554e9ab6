-- The names that were seen, what was found, and what is still to come.
use Rattle.std.proofs.Common.{◌≡◌, ℕ, List, map, take, drop}
use denote.Ref.{Bor}
use Rattle.std.specs.HashSet.{contains}
use Rattle.just_lang_spots.specs.Spots.{earlier, first_spot}
use Rattle.just_lang_spots.specs.Repeated.{is_among, repeated_behind, repeated, named}
use Rattle.just_lang_spots.proofs.Seen.{text_eq, text_of_name}
use Rattle.just_lang_spots.proofs.repeated.first_repeated.Given as goal

abbrev pub invariant-names : goal.invariant-names
invariant-names l = record {
  same : (q : Bor (List ℕ)) → contains text_eq l.seen q ≡ is_among q.now (map text_of_name (take l.name-index l.names));
  rest : earlier l.found (first_spot (repeated_behind (map text_of_name (take l.name-index l.names)) (map named (drop l.name-index l.names)))) ≡ first_spot (repeated (map named l.names));
}
