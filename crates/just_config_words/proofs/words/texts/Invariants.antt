-- The words so far are copied.
use Rattle.std.proofs.Common.{◌≡◌, map, take}
use Rattle.just_config_words.proofs.words.texts.Given as goal

abbrev pub invariant-words : goal.invariant-words
invariant-words l = l.texts.items ≡ map (λ w. w.now) (take l.word-index l.words)
