-- The text so far, and what is still to come.
use Rattle.std.proofs.Common.{◌≡◌, ◌++◌, drop, string_bytes}
use Rattle.just_lang_rulebook.specs.Front.{plain_text}
use Rattle.just_lang_rulebook.proofs.line_front.plain_text.Given as goal

abbrev pub invariant-fragments : goal.invariant-fragments
invariant-fragments l = string_bytes l.text ++ plain_text (drop l.fragment-index l.fragments) ≡ plain_text l.fragments
