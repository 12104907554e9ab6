-- What is left to visit stays, and each turn takes a file.
use Rattle.std.proofs.Common.{◌≡◌, [], length, vec_len}
use Rattle.just_lang_layout.specs.Stack.{visits_left}
use Rattle.just_lang_layout.proofs.visit.take_top.Given as goal

abbrev pub invariant-frames : goal.invariant-frames
invariant-frames l = visits_left l.fn.modules l.table (length l.table) [] l.fn.stack.items ≡ visits_left l.fn.modules l.table (length l.table) [] l.stack.items

abbrev pub decreases-frames : goal.decreases-frames
decreases-frames l = vec_len l.stack
