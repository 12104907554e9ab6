-- No fragment so far is a value.
use Rattle.std.proofs.Common.{◌≡◌, drop}
use Rattle.std.specs.List.{list_any}
use Rattle.just_lang_rulebook.specs.Front.{is_value}
use Rattle.just_lang_rulebook.proofs.line_front.has_value.Given as goal

abbrev pub invariant-fragments : goal.invariant-fragments
invariant-fragments l = list_any is_value (drop l.fragment-index l.fragments) ≡ list_any is_value l.fragments
