-- The numbers so far are those of the paths so far.
use Rattle.std.proofs.Common.{take}
use Rattle.just_lang_layout.specs.Numbers.{AreNumbers}
use Rattle.just_lang_layout.proofs.numbers.numbers_of.Given as goal

abbrev pub invariant-paths : goal.invariant-paths
invariant-paths l = AreNumbers (take l.at l.paths) l.numbers
