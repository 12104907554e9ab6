-- The assignments so far, and those that are still to come.
use Rattle.std.proofs.Common.{◌≡◌, ◌++◌, drop}
use Rattle.just_lang_spots.specs.Entries.{entries}
use Rattle.just_lang_shapes.specs.Scopes.{assignments_of}
use Rattle.just_lang_shapes.proofs.scope.assignments_of.Given as goal

abbrev pub invariant-items : goal.invariant-items
invariant-items g l =
    l.all.items ++ assignments_of (g.T.Texts.text_of l.texts) (entries (drop l.one-index l.items)) ≡ assignments_of (g.T.Texts.text_of l.texts) (entries l.items)
