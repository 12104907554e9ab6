-- What is left comes behind what was put there.
use Rattle.std.proofs.Common.{◌≡◌, ◌++◌, length, reverse}
use Rattle.just_print_entries.proofs.lists.push_parts.Given as goal

abbrev pub invariant-parts : goal.invariant-parts
invariant-parts l = l.pending.items ++ reverse l.left.items ≡ l.initial.pending.items ++ reverse l.initial.left.items

abbrev pub decreases-parts : goal.decreases-parts
decreases-parts l = length l.left.items
