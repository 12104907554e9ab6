-- The dependencies so far, and those that are still to come.
use Rattle.std.proofs.Common.{◌≡◌, ◌++◌, drop}
use Rattle.just_lang_justfile.specs.Recipes.{dependencies_of}
use Rattle.just_lang_justfile.proofs.dependencies.dependencies_of.Given as goal

abbrev pub invariant-dependencies : goal.invariant-dependencies
invariant-dependencies g l =
    l.all.items ++ dependencies_of (g.L.Linker.links l.links) l.number (g.T.Texts.text_of l.texts) (drop l.dependency-index l.dependencies)
    ≡ dependencies_of (g.L.Linker.links l.links) l.number (g.T.Texts.text_of l.texts) l.dependencies
