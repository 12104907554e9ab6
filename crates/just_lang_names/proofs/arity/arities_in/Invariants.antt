-- The arities so far, and those that are still to come.
use Rattle.std.proofs.Common.{◌≡◌, ◌++◌, map, drop}
use Rattle.just_lang_spots.specs.Entries.{entries}
use Rattle.just_lang_names.specs.Arities.{arity_of_item}
use Rattle.just_lang_names.proofs.arity.arities_in.Given as goal

abbrev pub invariant-recipes : goal.invariant-recipes
invariant-recipes g l =
    l.arities.items ++ map (arity_of_item (g.T.Texts.text_of l.texts)) (entries (drop l.one-index l.recipes))
    ≡ map (arity_of_item (g.T.Texts.text_of l.texts)) (entries l.recipes)
