-- One that matches is among those that are left.
use Rattle.std.proofs.Common.{◌≡◌, drop}
use Rattle.std.specs.List.{list_any}
use Rattle.just_eval_words.specs.Patterns.{matches_built}
use Rattle.just_eval_words.proofs.pattern.any_built.Given as goal

abbrev pub invariant-patterns : goal.invariant-patterns
invariant-patterns l =
    list_any (λ r. matches_built r l.text) (drop l.regex-index l.all) ≡ list_any (λ r. matches_built r l.text) l.all
