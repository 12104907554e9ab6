-- The letters that are left do what all do.
use Rattle.std.proofs.Common.{◌≡◌, drop, false, Ok}
use Rattle.just_eval_words.specs.Switches.{words_of, awaited, letters_taken, Awaited}
use Rattle.just_eval_words.proofs.switch.letters_taken.Given as goal

abbrev pub invariant-letters : goal.invariant-letters
invariant-letters l =
    letters_taken l.recipe (drop l.at l.letters) (Ok (words_of l.taken, awaited l.next)) ≡ letters_taken l.recipe l.letters (Ok (words_of l.fn.taken, Awaited.a_word false))
