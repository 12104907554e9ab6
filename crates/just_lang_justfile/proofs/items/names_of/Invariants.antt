-- The names so far, and those that are still to come.
use Rattle.std.proofs.Common.{◌≡◌, ◌++◌, drop}
use Rattle.just_lang_spots.specs.Entries.{entries}
use Rattle.just_lang_justfile.specs.Standing.{names_of}
use Rattle.just_lang_justfile.proofs.items.names_of.Given as goal

abbrev pub invariant-items : goal.invariant-items
invariant-items l = l.names.items ++ names_of (entries (drop l.one-index l.items)) ≡ names_of (entries l.items)
