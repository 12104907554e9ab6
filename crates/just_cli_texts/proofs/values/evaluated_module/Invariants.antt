-- The names that are left lead from here where all lead.
use Rattle.std.proofs.Common.{◌≡◌, drop, map}
use Rattle.just_cli_texts.specs.Evaluated.{evaluated_module}
use Rattle.just_cli_texts.proofs.values.evaluated_module.Given as goal

abbrev pub invariant-names : goal.invariant-names
invariant-names l = evaluated_module (map (λ m. m.now) l.modules) (drop l.name-index l.names) l.inside ≡ evaluated_module (map (λ m. m.now) l.modules) l.names l.root
