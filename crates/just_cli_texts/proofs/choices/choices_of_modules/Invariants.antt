-- What is left follows what was added.
use Rattle.std.proofs.Common.{◌≡◌, ◌++◌, drop, map}
use Rattle.std.specs.List.{flat_map}
use Rattle.just_cli_texts.specs.Choices.{choices_of}
use Rattle.just_cli_texts.proofs.choices.choices_of_modules.Given as goal

abbrev pub invariant-modules : goal.invariant-modules
invariant-modules l =
    l.lines.items ++ flat_map (choices_of l.config (map (λ j. j.now) l.justfiles)) (map (λ m. m.now) (drop l.outer-index l.modules))
    ≡ flat_map (choices_of l.config (map (λ j. j.now) l.justfiles)) (map (λ m. m.now) l.modules)
