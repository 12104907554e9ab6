-- The names of the recipes so far.
use Rattle.std.proofs.Common.{◌≡◌, map, take}
use Rattle.just_lang_names.specs.Names.{layout_of}
use Rattle.just_lang.specs.Disabling.{own_absent}
use Rattle.just_lang.specs.CycleTables.{standings}
use Rattle.just_lang.specs.DisablingTables.{texts}
use Rattle.just_lang.proofs.disabled.absent_of_each.Given as goal

abbrev pub invariant-list : goal.invariant-list
invariant-list l = map (λ v. texts v.items) l.absent.items ≡ map (own_absent (layout_of l.names)) (standings (take l.one-index l.list))
