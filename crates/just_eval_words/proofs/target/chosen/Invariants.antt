-- The words that are left lead from here where all lead.
use Rattle.std.proofs.Common.{◌≡◌, drop, map}
use Rattle.just_eval_words.specs.Targets.{chosen}
use Rattle.just_eval_words.proofs.target.chosen.Given as goal

abbrev pub invariant-words : goal.invariant-words
invariant-words l =
    chosen (map (λ m. m.now) l.modules) (drop l.at l.words) l.justfile ≡ chosen (map (λ m. m.now) l.modules) l.words l.root
