-- All texts so far are in the form.
use Rattle.std.proofs.Common.{◌≡◌, drop}
use Rattle.just_config_words.specs.Forms.{are_in_form}
use Rattle.just_config_words.proofs.entry.Form.has_all.Given as goal

abbrev pub invariant-texts : goal.invariant-texts
invariant-texts l = are_in_form l.self (drop l.text-index l.texts) ≡ are_in_form l.self l.texts
