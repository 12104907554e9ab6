-- The entries that are left, before what was gathered behind them, are all of them.
use Rattle.std.proofs.Common.{◌≡◌, reverse, vec_len}
use Rattle.just_lang_syntax.specs.File.{gathered}
use Rattle.just_lang_syntax.proofs.Gather.{onto}
use Rattle.just_lang_syntax.proofs.entry.gather.Given as goal

abbrev pub invariant-entries : goal.invariant-entries
invariant-entries l = onto l.entries.items (reverse l.lines.items) (reverse l.items.items) ≡ gathered l.initial.entries.items

abbrev pub decreases-entries : goal.decreases-entries
decreases-entries l = vec_len l.entries
