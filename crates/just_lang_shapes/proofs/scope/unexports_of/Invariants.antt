-- The names so far, and those that are still to come.
use Rattle.std.proofs.Common.{◌≡◌, ◌++◌, drop}
use Rattle.just_lang_spots.specs.Entries.{entries}
use Rattle.just_lang_shapes.specs.Scopes.{unexports_of}
use Rattle.just_lang_shapes.proofs.scope.unexports_of.Given as goal

abbrev pub invariant-items : goal.invariant-items
invariant-items l = l.all.items ++ unexports_of (entries (drop l.one-index l.items)) ≡ unexports_of (entries l.items)
