-- What is given so far is given by the words so far.
use Rattle.std.proofs.Common.{◌≡◌, map}
use Rattle.just_eval_words.specs.Invocations.{as_given}
use Rattle.just_eval_words.proofs.invocation.all_given.Given as goal

abbrev pub invariant-words : goal.invariant-words
invariant-words l = l.given.items ≡ map as_given l.yielded
