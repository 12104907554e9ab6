-- What is left follows what was added.
use Rattle.std.proofs.Common.{◌≡◌, ◌++◌, drop}
use Rattle.just_cli_texts.proofs.ChoiceLaws.{lines_among}
use Rattle.just_cli_texts.proofs.choices.push_choices.Given as goal

abbrev pub invariant-recipes : goal.invariant-recipes
invariant-recipes l =
    l.lines.items ++ lines_among l.groups l.justfile l.outer (drop l.recipe-index l.recipes) ≡ l.initial.lines.items ++ lines_among l.groups l.justfile l.outer l.recipes
