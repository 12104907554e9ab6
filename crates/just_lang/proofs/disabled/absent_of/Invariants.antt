-- What is left of the path goes through in this module what the path goes through in the outer one.
use Rattle.std.proofs.Common.{◌≡◌, drop}
use Rattle.just_lang_names.specs.Names.{layout_of, wins_of}
use Rattle.just_lang.specs.DisablingTables.{absent_for}
use Rattle.just_lang.proofs.disabled.absent_of.Given as goal

abbrev pub invariant-names : goal.invariant-names
invariant-names l =
    absent_for l.kind (wins_of l.names) (layout_of l.names) l.number (drop l.at l.path) ≡ absent_for l.kind (wins_of l.names) (layout_of l.names) l.outer l.path
