-- The first that breaks a rule is among the visits left, of which each turn takes one.
use Rattle.std.proofs.Common.{◌≡◌, true, [], length}
use Rattle.std.specs.List.{find}
use Rattle.just_lang_layout.specs.Walk.{is_broken, first_broken}
use Rattle.just_lang_layout.specs.Stack.{visits_left}
use Rattle.just_lang_layout.proofs.visit.first_broken.Given as goal

abbrev pub invariant-visits : goal.invariant-visits
invariant-visits l = find is_broken (visits_left true l.table (length l.table) [] l.stack.items) ≡ first_broken l.table

abbrev pub decreases-visits : goal.decreases-visits
decreases-visits l = length (visits_left true l.table (length l.table) [] l.stack.items)
