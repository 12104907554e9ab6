-- The name is greater than none from here on.
use Rattle.std.proofs.Common.{◌≡◌, ◌<◌, ◌≤◌, ℕ, List, false, length, get_or}
use Rattle.std.specs.Ordering.{nat_cmp, is_gt}
use Rattle.std.specs.Cmp.Lexicographic.{slice_cmp}
use Rattle.just_path.specs.View.{named}
use Rattle.just_path.specs.declared.meta.Kind.{Kind}
use Rattle.just_host_files.proofs.items.place_of.Given as goal

abbrev pub invariant-loop-at : goal.invariant-loop-at
invariant-loop-at l = (l.at ≤ length l.items) × ((k : ℕ) (d : List ℕ × Kind) → l.at ≤ k → k < length l.items → is_gt (slice_cmp nat_cmp l.name (get_or (named l.items) k d).0) ≡ false)
