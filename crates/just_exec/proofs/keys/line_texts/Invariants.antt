-- The texts so far and those of what is left are those of all.
use Rattle.std.proofs.Common.{◌≡◌, ◌++◌, drop, map}
use Rattle.just_lang_types.specs.declared.node.BodyLine.{BodyLine}
use Rattle.just_exec.proofs.keys.line_texts.Given as goal

abbrev pub invariant-lines : goal.invariant-lines
invariant-lines l = l.texts.items ++ map (λ (x : BodyLine). x.text) (drop l.line-index l.lines) ≡ map (λ (x : BodyLine). x.text) l.lines
