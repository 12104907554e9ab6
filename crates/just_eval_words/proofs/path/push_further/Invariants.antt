-- What was added and the names that are left are all.
use Rattle.std.proofs.Common.{◌≡◌, ◌++◌, drop, string_bytes}
use Rattle.just_eval_words.specs.Paths.{further}
use Rattle.just_eval_words.proofs.path.push_further.Given as goal

abbrev pub invariant-names : goal.invariant-names
invariant-names l =
    string_bytes l.text ++ further (drop l.name-index l.names) ≡ string_bytes l.fn.text ++ further l.names
