-- The recipes so far, and those that are still to come.
use Rattle.std.proofs.Common.{◌≡◌, ◌++◌, drop}
use Rattle.just_lang_spots.specs.Entries.{entries}
use Rattle.just_lang_justfile.specs.Recipes.{recipes_of}
use Rattle.just_lang_justfile.proofs.recipes.recipes_of.Given as goal

abbrev pub invariant-standing : goal.invariant-standing
invariant-standing g l =
    l.all.items
    ++ recipes_of (g.L.Linker.links l.project.links.now) l.parent.number (g.T.Texts.text_of l.project.texts.now) l.project.layout.now.files l.parent.path.now (entries (drop l.one-index l.standing))
    ≡ recipes_of (g.L.Linker.links l.project.links.now) l.parent.number (g.T.Texts.text_of l.project.texts.now) l.project.layout.now.files l.parent.path.now (entries l.standing)
