-- What is written so far, and the texts from here on, are all.
use Rattle.std.proofs.Common.{◌≡◌, ℕ, List, ◌++◌, drop}
use Rattle.std.specs.Fmt.{HasWritten, IsPlainFormatter}
use Rattle.just_exec.specs.Texts.{ticked_behind}
use Rattle.just_exec.proofs.children.tell_behind.Given as goal

abbrev pub invariant-texts : goal.invariant-texts
invariant-texts g l =
    IsPlainFormatter l.fn.f
    → (done : List ℕ) × HasWritten g.W.Write.write_str_gives l.fn.f done l.f
    × (done ++ ticked_behind (drop l.text-index l.texts) ≡ ticked_behind l.fn.texts)
