-- All so far are sigils.
use Rattle.std.proofs.Common.{◌≡◌, drop}
use Rattle.std.specs.Str.{IsCharBoundary}
use Rattle.just_eval.specs.Bodies.{no_sigils, split_sigils}
use Rattle.just_eval.proofs.sigils.split_sigils.Given as goal

abbrev pub invariant-bytes : goal.invariant-bytes
invariant-bytes l =
    record {
      same : split_sigils l.guards l.read (drop l.at l.text) ≡ split_sigils l.guards no_sigils l.text;
      boundary : IsCharBoundary l.text l.at;
    }
