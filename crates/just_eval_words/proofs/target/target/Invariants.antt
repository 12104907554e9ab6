-- The parts that are left lead from here where the word leads.
use Rattle.std.proofs.Common.{◌≡◌, length, map}
use denote.Shadow.{shadow}
use denote.Text.{Utf8}
use Rattle.just_eval_words.specs.Paths.{parts}
use Rattle.just_eval_words.specs.Names.{target_of}
use Rattle.just_eval_words.proofs.target.target.Given as goal

abbrev pub invariant-parts : goal.invariant-parts
invariant-parts l =
    record {
      utf8 : shadow (Utf8 l.rest);
      same : target_of (map (λ m. m.now) l.modules) (parts l.rest) l.word l.inside ≡ target_of (map (λ m. m.now) l.modules) (parts l.word) l.word l.justfile;
    }

abbrev pub decreases-parts : goal.decreases-parts
decreases-parts l = length l.rest
