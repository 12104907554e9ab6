-- All so far are texts.
use Rattle.std.proofs.Common.{◌≡◌, ◌++◌, drop, string_bytes}
use Rattle.just_eval.specs.Bodies.{front, behind_front}
use Rattle.just_eval.specs.Parts.{fragments_of}
use Rattle.just_eval.proofs.text.push_front.Given as goal

abbrev pub invariant-parts : goal.invariant-parts
invariant-parts l =
    record {
      front : string_bytes l.text ++ front (fragments_of (drop l.at l.parts)) ≡ string_bytes l.initial.text ++ front (fragments_of l.parts);
      behind : behind_front (fragments_of (drop l.at l.parts)) ≡ behind_front (fragments_of l.parts);
    }
