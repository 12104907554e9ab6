-- All bytes so far are of the front.
use Rattle.std.proofs.Common.{◌≡◌, ◌+◌, drop}
use Rattle.std.specs.List.{prefix_len}
use Rattle.just_search_load.specs.Fences.{is_no_blank}
use Rattle.just_search_load.proofs.fence.end_of_word.Given as goal

abbrev pub invariant-bytes : goal.invariant-bytes
invariant-bytes l = l.at + prefix_len is_no_blank (drop l.at l.text) ≡ prefix_len is_no_blank l.text
