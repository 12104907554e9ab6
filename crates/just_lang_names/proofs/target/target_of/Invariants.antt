-- What is left of the path comes to in this module what the path comes to in the outer one.
use Rattle.std.proofs.Common.{◌≡◌, drop}
use Rattle.just_lang_names.specs.Names.{layout_of, wins_of}
use Rattle.just_lang_names.specs.Targets.{target_for}
use Rattle.just_lang_names.proofs.target.target_of.Given as goal

abbrev pub invariant-names : goal.invariant-names
invariant-names l =
    target_for l.kind (wins_of l.names) (layout_of l.names) l.number (drop l.at l.path) ≡ target_for l.kind (wins_of l.names) (layout_of l.names) l.outer l.path
