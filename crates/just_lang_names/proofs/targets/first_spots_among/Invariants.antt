-- What was found, and what is still to come, by the texts that the arities are by.
use Rattle.std.proofs.Common.{◌≡◌, ℕ, List, Option, map, drop}
use Rattle.std.specs.List.{flat_map}
use Rattle.just_lang_syntax.specs.declared.ast.StringLiteral.{StringLiteral}
use Rattle.just_lang_spots.specs.Spots.{earlier, first_spot}
use Rattle.just_lang_names.specs.Arities.{AreArities}
use Rattle.just_lang_names.specs.Names.{layout_of, wins_of}
use Rattle.just_lang_names.specs.TargetSpots.{unknown_dependency, miscounted_dependency, option_dependency}
use Rattle.just_lang_names.specs.Targets.{dependency_of}
use Rattle.just_lang_names.proofs.targets.first_spots_among.Given as goal

abbrev pub invariant-dependencies : goal.invariant-dependencies
invariant-dependencies l =
    record {
      unknown : earlier l.unknown (first_spot (flat_map (unknown_dependency (wins_of l.names) (layout_of l.names)) (map dependency_of (drop l.one-index l.dependencies))))
          ≡ first_spot (flat_map (unknown_dependency (wins_of l.names) (layout_of l.names)) (map dependency_of l.dependencies));
      miscounted : (text_of : StringLiteral → Option (List ℕ)) → AreArities text_of l.names l.arities
          → earlier l.miscounted (first_spot (flat_map (miscounted_dependency text_of (wins_of l.names) (layout_of l.names)) (map dependency_of (drop l.one-index l.dependencies))))
          ≡ first_spot (flat_map (miscounted_dependency text_of (wins_of l.names) (layout_of l.names)) (map dependency_of l.dependencies));
      on_option : (text_of : StringLiteral → Option (List ℕ)) → AreArities text_of l.names l.arities
          → earlier l.on_option (first_spot (flat_map (option_dependency text_of (wins_of l.names) (layout_of l.names)) (map dependency_of (drop l.one-index l.dependencies))))
          ≡ first_spot (flat_map (option_dependency text_of (wins_of l.names) (layout_of l.names)) (map dependency_of l.dependencies));
    }
