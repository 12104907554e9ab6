-- The text so far, before that of the lines to come.
use Rattle.std.proofs.Common.{None, map}
use Rattle.std.specs.Prelude.{string_bytes}
use Rattle.just_search_load.specs.Running.{out_of}
use Rattle.just_search_load.specs.Tangles.{text_of_lines}
use Rattle.just_search_load.proofs.Running.{Written}
use Rattle.just_search_load.proofs.markdown.tangle_lines.Given as goal

abbrev pub invariant-lines : goal.invariant-lines
invariant-lines l = Written (λ line. line.now) l.lines l.line-index l.block (string_bytes l.text) (text_of_lines (out_of None (map (λ line. line.now) l.lines)))
