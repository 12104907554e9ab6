-- What is written so far, and what is left, are shown as the whole is.
use Rattle.std.proofs.Common.{◌≡◌, ℕ, List, ◌++◌, drop, length}
use Rattle.std.specs.Fmt.{HasWritten, IsPlainFormatter}
use Rattle.just_print.specs.SmallTexts.{shown_all}
use Rattle.just_print.proofs.whitespace.write_shown.Given as goal

abbrev pub invariant-characters : goal.invariant-characters
invariant-characters g l =
    IsPlainFormatter l.fn.f
    → (done : List ℕ) × HasWritten g.W.Write.write_str_gives l.fn.f done l.f
    × (done ++ shown_all (drop l.at l.characters) ≡ shown_all l.characters)
