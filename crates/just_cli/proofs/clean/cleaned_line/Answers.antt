-- One entry, or another number of them.
use Rattle.std.proofs.Common.{◌∙◌, sym, ap}
use Rattle.just_cli.specs.Cleaning.{cleaned_line}
use Rattle.just_cli.proofs.CleaningLaws.{one_entry, more_entries}
use Rattle.just_cli.proofs.clean.cleaned_line.Goals as goal

pub returns-then-count-eq1 : goal.returns-then-count-eq1
returns-then-count-eq1 c = one_entry c.in-Removed.count _ c.if-count-eq1.true c.in_ok-format-in-Removed.ensures.ok ∙ sym (ap (λ x. cleaned_line x) c.in-Removed.is)

pub returns-in_ok-format-in-Removed-2 : goal.returns-in_ok-format-in-Removed-2
returns-in_ok-format-in-Removed-2 c = more_entries c.in-Removed.count _ c.if-count-eq1.false c.in_ok-format-in-Removed-2.ensures.ok ∙ sym (ap (λ x. cleaned_line x) c.in-Removed.is)
