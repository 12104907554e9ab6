-- One more dependency.
use Rattle.std.proofs.Common.{◌∙◌}
use Rattle.just_lang_names.specs.Names.{layout_of, wins_of}
use Rattle.just_lang_names.specs.TargetSpots.{unknown_dependency, miscounted_dependency, option_dependency}
use Rattle.just_lang_names.specs.Targets.{dependency_of}
use Rattle.just_lang_names.proofs.Steps.{first_step_of}
use Rattle.just_lang_names.proofs.targets.first_spots_among.Goals as goal

pub dependencies-preserved : goal.dependencies-preserved
dependencies-preserved c =
    let wins = wins_of c.args.names.now in
    let layout = layout_of c.args.names.now in
    let xs = c.args.dependencies.now in
    let i = c.dependencies.one-index in
    record {
      unknown =
          first_step_of (unknown_dependency wins layout) dependency_of c.dependencies.unknown c.spots_of-here.result.unknown c.earlier-unknown.result xs i c.one-item.result
          c.dependencies-test.true c.one-item.is c.spots_of-here.ensures.unknown c.earlier-unknown.ensures ∙ c.dependencies.invariant.unknown;
      miscounted = λ text_of h.
          first_step_of (miscounted_dependency text_of wins layout) dependency_of c.dependencies.miscounted c.spots_of-here.result.miscounted c.earlier-miscounted.result xs i c.one-item.result
          c.dependencies-test.true c.one-item.is (c.spots_of-here.ensures.miscounted text_of h) c.earlier-miscounted.ensures ∙ c.dependencies.invariant.miscounted text_of h;
      on_option = λ text_of h.
          first_step_of (option_dependency text_of wins layout) dependency_of c.dependencies.on_option c.spots_of-here.result.on_option c.earlier-on_option.result xs i c.one-item.result
          c.dependencies-test.true c.one-item.is (c.spots_of-here.ensures.on_option text_of h) c.earlier-on_option.ensures ∙ c.dependencies.invariant.on_option text_of h;
    }
