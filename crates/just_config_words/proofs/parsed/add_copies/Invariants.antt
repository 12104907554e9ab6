-- The texts so far are added.
use Rattle.std.proofs.Common.{◌≡◌, ◌++◌, take}
use Rattle.just_config_words.proofs.parsed.add_copies.Given as goal

abbrev pub invariant-more : goal.invariant-more
invariant-more l = l.texts.items ≡ l.fn.texts.items ++ take l.text-index l.more
