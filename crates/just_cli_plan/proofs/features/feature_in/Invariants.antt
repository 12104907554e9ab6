-- None of the modules so far has one.
use Rattle.std.proofs.Common.{◌≡◌, drop, map}
use Rattle.just_cli_plan.specs.Features.{feature_in}
use Rattle.just_cli_plan.proofs.features.feature_in.Given as goal

abbrev pub invariant-modules : goal.invariant-modules
invariant-modules l = feature_in (map (λ m. m.now) (drop l.module-index l.modules)) ≡ feature_in (map (λ m. m.now) l.modules)
