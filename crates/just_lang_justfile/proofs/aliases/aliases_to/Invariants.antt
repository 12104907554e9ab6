-- The aliases so far, and those that are still to come.
use Rattle.std.proofs.Common.{◌≡◌, ◌++◌, drop}
use Rattle.just_lang_spots.specs.Entries.{entries}
use Rattle.just_lang_justfile.specs.Aliases.{aliases_to}
use Rattle.just_lang_justfile.proofs.aliases.aliases_to.Given as goal

abbrev pub invariant-items : goal.invariant-items
invariant-items g l =
    l.all.items ++ aliases_to (g.L.Linker.links l.links) l.number l.kind (entries (drop l.one-index l.items)) ≡ aliases_to (g.L.Linker.links l.links) l.number l.kind (entries l.items)
