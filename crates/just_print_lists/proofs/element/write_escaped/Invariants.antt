-- The characters up to here are written.
use Rattle.std.proofs.Common.{take}
use Rattle.std.specs.Fmt.{HasWritten, IsPlainFormatter}
use Rattle.std.specs.List.{flat_map}
use Rattle.just_print_lists.specs.Evaluated.{escaped}
use Rattle.just_print_lists.proofs.element.write_escaped.Given as goal

abbrev pub invariant-characters : goal.invariant-characters
invariant-characters g l =
    IsPlainFormatter l.fn.f → HasWritten g.W.Write.write_str_gives l.fn.f (flat_map escaped (take l.letter-index l.fn.characters)) l.f
