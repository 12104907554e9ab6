-- The names so far are copied.
use Rattle.std.proofs.Common.{◌≡◌, take}
use Rattle.just_lang.specs.DisablingTables.{texts}
use Rattle.just_lang.proofs.tables.texts_of.Given as goal

abbrev pub invariant-names : goal.invariant-names
invariant-names l = l.copies.items ≡ texts (take l.name-index l.names)
