-- The module's own items are those so far and those among the visits left, of which each turn takes one.
use Rattle.std.proofs.Common.{◌≡◌, false, [], ◌++◌, length}
use Rattle.std.specs.List.{filter}
use Rattle.just_lang_layout.specs.Modules.{is_own, own_visits}
use Rattle.just_lang_layout.specs.Stack.{visits_left}
use Rattle.just_lang_layout.proofs.visit.own_visits.Given as goal

abbrev pub invariant-visits : goal.invariant-visits
invariant-visits l = l.own.items ++ filter is_own (visits_left false l.table (length l.table) [] l.stack.items) ≡ own_visits l.table l.fn.file

abbrev pub decreases-visits : goal.decreases-visits
decreases-visits l = length (visits_left false l.table (length l.table) [] l.stack.items)
