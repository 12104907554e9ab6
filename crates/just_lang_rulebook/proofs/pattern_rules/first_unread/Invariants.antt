-- What was found, and what is still to come.
use Rattle.std.proofs.Common.{◌≡◌, map, drop}
use Rattle.just_lang_spots.specs.Spots.{earlier, first_spot}
use Rattle.just_lang_rulebook.specs.Patterns.{pattern_pair, unread_spots}
use Rattle.just_lang_rulebook.proofs.pattern_rules.first_unread.Given as goal

abbrev pub invariant-patterns : goal.invariant-patterns
invariant-patterns l =
    earlier l.found (first_spot (unread_spots (map pattern_pair (drop l.pattern-index l.patterns)))) ≡ first_spot (unread_spots (map pattern_pair l.patterns))
