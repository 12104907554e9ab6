-- The lists so far.
use Rattle.std.proofs.Common.{◌≡◌, map, take}
use Rattle.just_lang.specs.Disabling.{is_filled}
use Rattle.just_lang.specs.DisablingTables.{texts}
use Rattle.just_lang.proofs.disabled.filled.Given as goal

abbrev pub invariant-lists : goal.invariant-lists
invariant-lists l = l.filled.items ≡ map is_filled (map (λ v. texts v.items) (take l.list-index l.lists))
