-- The names that are left lead from here where all lead.
use Rattle.std.proofs.Common.{◌≡◌, drop, map}
use Rattle.just_eval_words.specs.Commands.{inner_at}
use Rattle.just_cli_texts.proofs.defaults.is_listed.Given as goal

abbrev pub invariant-names : goal.invariant-names
invariant-names l = inner_at (map (λ m. m.now) l.modules) (drop l.name-index l.names) l.inside ≡ inner_at (map (λ m. m.now) l.modules) l.names l.root
