-- What is written so far, and the items from here on, are the list.
use Rattle.std.proofs.Common.{◌≡◌, ℕ, List, ◌++◌, drop, length}
use Rattle.std.specs.Fmt.{HasWritten, IsPlainFormatter}
use Rattle.just_print.specs.SmallTexts.{items_from, list_text}
use Rattle.just_print.proofs.list.write_list.Given as goal

abbrev pub invariant-items : goal.invariant-items
invariant-items g l =
    IsPlainFormatter l.fn.f
    → (done : List ℕ) × HasWritten g.W.Write.write_str_gives l.fn.f done l.f
    × (done ++ items_from l.fn.word (length l.fn.items) l.at (drop l.at l.fn.items) ≡ list_text l.fn.word l.fn.items)
