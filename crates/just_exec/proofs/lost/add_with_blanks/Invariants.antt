-- The texts to come follow those so far.
use Rattle.std.proofs.Common.{◌≡◌, ◌++◌, drop, string_bytes}
use Rattle.just_exec.specs.Executors.{with_blanks}
use Rattle.just_exec.proofs.lost.add_with_blanks.Given as goal

abbrev pub invariant-texts : goal.invariant-texts
invariant-texts l = string_bytes l.text ++ with_blanks (drop l.one-index l.texts) ≡ string_bytes l.fn.text ++ with_blanks l.texts
