-- The first place in the modules so far.
use Rattle.just_lang_names.specs.Names.{layout_of, wins_of}
use Rattle.just_lang.specs.Cycles.{IsFirstSpot}
use Rattle.just_lang.proofs.Modules.{IsCircularBelow}
use Rattle.just_lang.proofs.variable.circular_variable.Given as goal

abbrev pub invariant-modules : goal.invariant-modules
invariant-modules l = IsFirstSpot (IsCircularBelow (wins_of l.names) (layout_of l.names) l.of_module-index) l.first
