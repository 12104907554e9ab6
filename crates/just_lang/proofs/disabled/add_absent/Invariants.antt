-- The names so far, and those that are still to come.
use Rattle.std.proofs.Common.{◌≡◌, ◌++◌, drop}
use Rattle.just_lang_names.specs.Names.{layout_of}
use Rattle.just_lang.specs.DisablingTables.{texts, absent_in}
use Rattle.just_lang.proofs.disabled.add_absent.Given as goal

abbrev pub invariant-dependencies : goal.invariant-dependencies
invariant-dependencies l =
    texts l.absent.items ++ absent_in (layout_of l.names) l.number (drop l.dependency-index l.dependencies)
    ≡ texts l.fn.absent.items ++ absent_in (layout_of l.names) l.number l.dependencies
