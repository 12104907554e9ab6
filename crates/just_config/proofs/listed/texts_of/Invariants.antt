-- The entries to come follow those so far.
use Rattle.std.proofs.Common.{◌≡◌, ◌++◌, map, length}
use Rattle.just_config.specs.Listed.{entry_text}
use Rattle.just_config.proofs.listed.texts_of.Given as goal

abbrev pub invariant-entries : goal.invariant-entries
invariant-entries l = l.texts.items ++ map entry_text l.rest.entries ≡ map entry_text l.fn.values.entries

abbrev pub decreases-entries : goal.decreases-entries
decreases-entries l = length l.rest.entries
