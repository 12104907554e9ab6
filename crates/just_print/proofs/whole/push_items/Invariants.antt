-- What is left follows what was added.
use Rattle.std.proofs.Common.{◌≡◌, false, ◌++◌, drop, string_bytes}
use Rattle.std.specs.List.{flat_map}
use Rattle.just_print.specs.Printed.{printed_item, one_blank}
use Rattle.just_print.proofs.whole.push_items.Given as goal

abbrev pub invariant-items : goal.invariant-items
invariant-items l =
    string_bytes l.out ++ flat_map (printed_item l.indentation) (one_blank l.behind_blank (drop l.item-index l.items))
    ≡ string_bytes l.initial.out ++ flat_map (printed_item l.indentation) (one_blank false l.items)
