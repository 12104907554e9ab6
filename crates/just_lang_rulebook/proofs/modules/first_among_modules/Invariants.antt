-- What was found, and what is still to come.
use Rattle.std.proofs.Common.{◌≡◌, drop}
use Rattle.std.specs.List.{flat_map}
use Rattle.just_lang_spots.specs.Spots.{earlier, first_spot}
use Rattle.just_lang_layout.specs.Items.{items_of_module}
use Rattle.just_lang_rulebook.proofs.modules.first_among_modules.Given as goal

abbrev pub invariant-modules : goal.invariant-modules
invariant-modules g l =
    earlier l.found (first_spot (flat_map (λ m. g.R.ModuleRule.spots l.rule (items_of_module l.files m)) (drop l.some_module-index l.modules)))
    ≡ first_spot (flat_map (λ m. g.R.ModuleRule.spots l.rule (items_of_module l.files m)) l.modules)
