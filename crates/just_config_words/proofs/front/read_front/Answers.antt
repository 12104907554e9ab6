-- Each turn reads a word with its values, or ends.
use Rattle.just_config_words.proofs.Fronts.{nothing_read, split_at, word_taken}
use Rattle.just_config_words.proofs.front.read_front.Goals as goal

pub words-init : goal.words-init
words-init c = nothing_read c.args.words.now c.new-given.result.items c.new-given.ensures.items

pub words-preserved : goal.words-preserved
words-preserved c = word_taken _ _ _ _ _ _ _ _ c.words.invariant c.in-Word.ensures (rw c.in-Taken.is at c.in_ok-count-in-Word.ensures) c.skip-rest.ensures

pub returns-in-Positional : goal.returns-in-Positional
returns-in-Positional c = split_at _ _ _ _ c.words.invariant c.in-Positional.ensures
