-- What is shown so far, and what is still to come.
use Rattle.std.proofs.Common.{◌≡◌, ◌++◌, drop, map}
use Rattle.just_print_tree.specs.Kept.{tolds}
use Rattle.just_print_tree.specs.Names.{listed_recipe}
use Rattle.just_print_tree.proofs.names.recipes_of.Given as goal

abbrev pub invariant-recipes : goal.invariant-recipes
invariant-recipes g l =
    l.all.items ++ map (listed_recipe (g.T.Texts.text_of l.texts) l.justfile) (tolds (drop l.one-index l.recipes)) ≡ map (listed_recipe (g.T.Texts.text_of l.texts) l.justfile) (tolds l.recipes)
