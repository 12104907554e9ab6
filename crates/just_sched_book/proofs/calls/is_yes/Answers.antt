-- The trimmed answer is one of two words.
use Rattle.std.proofs.Common.{◌≡◌, ℕ, ◌||◌, Bool, List, codes, ap, ap₂, ◌∙◌}
use Rattle.std.specs.Str.{trim, str_eq_ignore_ascii_case}
use Rattle.just_sched_history.specs.Match.{is_yes}
use Rattle.just_sched_history.proofs.RowLaws.{or_left, or_right}
use Rattle.just_sched_book.proofs.calls.is_yes.Goals as goal

-- two tests of the trimmed answer say whether it confirms
tests_are : (answer word : List ℕ) (short long : Bool) → word ≡ trim answer → short ≡ str_eq_ignore_ascii_case word (codes "y") → long ≡ str_eq_ignore_ascii_case word (codes "yes") → (short || long) ≡ is_yes answer
tests_are answer word short long same p q =
    ap₂ (λ x y. x || y) p q ∙ ap (λ w. str_eq_ignore_ascii_case w (codes "y") || str_eq_ignore_ascii_case w (codes "yes")) same

pub returns-then-short : goal.returns-then-short
returns-then-short c = or_left _ _ _ (tests_are c.args.answer.now c.trim-word.result.now c.is_word-short.result c.is_word-long.result c.trim-word.ensures.trim c.is_word-short.ensures c.is_word-long.ensures) c.if-short.true

pub returns-else-short : goal.returns-else-short
returns-else-short c = or_right _ _ _ (tests_are c.args.answer.now c.trim-word.result.now c.is_word-short.result c.is_word-long.result c.trim-word.ensures.trim c.is_word-short.ensures c.is_word-long.ensures) c.if-short.false
