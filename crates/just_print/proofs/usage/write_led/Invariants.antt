-- What is written so far, and the components from here on, are all.
use Rattle.std.proofs.Common.{◌≡◌, ℕ, List, ◌++◌, drop}
use Rattle.std.specs.Fmt.{HasWritten, IsPlainFormatter}
use Rattle.just_print.specs.Usages.{led}
use Rattle.just_print.proofs.usage.write_led.Given as goal

abbrev pub invariant-components : goal.invariant-components
invariant-components g l =
    IsPlainFormatter l.fn.f
    → (done : List ℕ) × HasWritten g.W.Write.write_str_gives l.fn.f done l.f
    × (done ++ led (drop l.component-index l.components) ≡ led l.fn.components)
