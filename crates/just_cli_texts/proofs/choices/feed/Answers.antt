-- Lines are fed where there are some, and none are refused.
use Rattle.std.proofs.Common.{◌≡◌, Bool, true, false, inr, subst, string_bytes}
use Rattle.just_print_lists.specs.Groups.{is_nil}
use Rattle.just_print_commands.specs.Projects.{Parts}
use Rattle.just_cli_texts.specs.Choices.{AreChoices}
use Rattle.just_cli_texts.specs.Laid.{laid_by}
use Rattle.just_cli_texts.specs.Wholes.{parts_in}
use Rattle.just_cli_texts.proofs.ChoiceLaws.{feeds_some, feeds_none}
use Rattle.just_cli_texts.proofs.choices.feed.Goals as goal

pub returns-then-is_nil-clause-refused : goal.returns-then-is_nil-clause-refused
returns-then-is_nil-clause-refused c =
    let lines = c.in_ok-lines.lines.items in
    let chosen = subst (λ (p : Parts). AreChoices c.args.config.now p lines) c.project.ensures c.in_ok-lines.ensures in
    let none : is_nil lines ≡ true = rw (c.is_nil.ensures, c.as_slice.ensures.value) at c.if-is_nil.true in
    inr (feeds_none c.args.environ.now.pairs c.args.config.now (laid_by c.args.laid.now) (parts_in c.in_ok-whole.whole) c.in_ok-whole.ensures.parts lines chosen none)

pub returns-clause-fed : goal.returns-clause-fed
returns-clause-fed c =
    let lines = c.in_ok-lines.lines.items in
    let chosen = subst (λ (p : Parts). AreChoices c.args.config.now p lines) c.project.ensures c.in_ok-lines.ensures in
    let some : is_nil lines ≡ false = rw (c.is_nil.ensures, c.as_slice.ensures.value) at c.if-is_nil.false in
    feeds_some c.args.environ.now.pairs c.args.config.now (laid_by c.args.laid.now) (parts_in c.in_ok-whole.whole) c.in_ok-whole.ensures.parts lines chosen some (string_bytes c.in_ok-text.text)
    (rw c.as_slice-2.ensures.value at c.in_ok-text.ensures)
