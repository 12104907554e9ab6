-- All bytes so far are of the front.
use Rattle.std.proofs.Common.{◌≡◌, ◌+◌, drop}
use Rattle.std.specs.List.{prefix_len}
use Rattle.just_search_load.specs.Fences.{is_sign}
use Rattle.just_search_load.proofs.fence.run_of.Given as goal

abbrev pub invariant-bytes : goal.invariant-bytes
invariant-bytes l = l.at + prefix_len (is_sign l.sign) (drop l.at l.line) ≡ prefix_len (is_sign l.sign) l.line
