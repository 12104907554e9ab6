-- What is written so far, and the parameters from here on, are all.
use Rattle.std.proofs.Common.{◌≡◌, ℕ, List, ◌++◌, drop}
use Rattle.std.specs.Fmt.{HasWritten, IsPlainFormatter}
use Rattle.std.specs.List.{flat_map}
use Rattle.just_print.specs.Usages.{argument_text}
use Rattle.just_print.proofs.usage.write_arguments.Given as goal

abbrev pub invariant-parameters : goal.invariant-parameters
invariant-parameters g l =
    IsPlainFormatter l.fn.f
    → (done : List ℕ) × HasWritten g.W.Write.write_str_gives l.fn.f done l.f
    × (done ++ flat_map argument_text (drop l.parameter-index l.parameters) ≡ flat_map argument_text l.fn.parameters)
