-- The recipes of the modules so far are counted.
use Rattle.just_lang_names.specs.Names.{layout_of, wins_of}
use Rattle.just_lang.proofs.BeforeLaws.{AreBeforeBelow}
use Rattle.just_lang.proofs.before.before_each.Given as goal

abbrev pub invariant-modules : goal.invariant-modules
invariant-modules l = AreBeforeBelow (wins_of l.names) (layout_of l.names) l.of_module-index l.count l.before.items
