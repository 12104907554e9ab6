-- The words that are left do what all do.
use Rattle.std.proofs.Common.{◌≡◌, drop}
use Rattle.just_eval_words.specs.Switches.{words_of, awaited, takes, all_taken}
use Rattle.just_eval_words.proofs.words.all_taken.Given as goal

abbrev pub invariant-words : goal.invariant-words
invariant-words l =
    takes l.recipe (awaited l.next) (words_of l.taken) (drop l.at l.words) ≡ all_taken l.recipe l.words
