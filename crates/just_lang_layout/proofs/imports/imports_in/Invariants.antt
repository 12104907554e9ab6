-- The numbers so far and those of the imports left are all.
use Rattle.std.proofs.Common.{◌≡◌, ◌++◌, drop}
use Rattle.just_lang_layout.specs.Imports.{imports_in}
use Rattle.just_lang_layout.proofs.imports.imports_in.Given as goal

abbrev pub invariant-loop-target : goal.invariant-loop-target
invariant-loop-target l = l.numbers.items ++ imports_in (drop l.target-index l.targets) ≡ imports_in l.targets
