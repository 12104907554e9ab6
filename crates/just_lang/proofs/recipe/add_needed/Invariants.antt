-- The places so far, and those that are still to come.
use Rattle.std.proofs.Common.{◌≡◌, ◌++◌, drop}
use Rattle.just_lang_names.specs.Names.{layout_of, wins_of}
use Rattle.just_lang.specs.CycleTables.{needed_by}
use Rattle.just_lang.proofs.recipe.add_needed.Given as goal

abbrev pub invariant-dependencies : goal.invariant-dependencies
invariant-dependencies l =
    l.places.items ++ needed_by (wins_of l.names) (layout_of l.names) l.number (drop l.dependency-index l.dependencies)
    ≡ l.fn.places.items ++ needed_by (wins_of l.names) (layout_of l.names) l.number l.dependencies
