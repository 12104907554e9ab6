-- What was added, and what is still to come.
use Rattle.std.proofs.Common.{◌≡◌, ◌++◌, drop}
use Rattle.just_lang_rulebook.specs.Front.{continued}
use Rattle.just_lang_rulebook.proofs.line_front.push_continued.Given as goal

abbrev pub invariant-lines : goal.invariant-lines
invariant-lines l = l.text.items ++ continued (drop l.line-index l.lines) ≡ l.fn.text.items ++ continued l.lines
