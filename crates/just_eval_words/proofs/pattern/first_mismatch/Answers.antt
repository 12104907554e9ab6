-- A value that no pattern matches, or one that a pattern matches.
use Rattle.std.proofs.Common.{rules, ◌≡◌, ◌<◌, Bool, true, false, List, ℕ, length, get_or, not, Some, sym, ap, ◌∙◌}
use Rattle.std.specs.List.{list_any}
use Rattle.just_eval_words.specs.Patterns.{matches}
use Rattle.just_eval_words.proofs.Firsts.{value_found, value_passed}
use Rattle.just_eval_words.proofs.pattern.first_mismatch.Goals as goal

-- whether no pattern matches a value
abbrev test : List (List ℕ) → List ℕ → Bool
test patterns v = not (list_any (λ p. matches p v) patterns)

pub returns-then-wrong : goal.returns-then-wrong
returns-then-wrong c =
    let v = c.value-item.result in
    let vs = c.args.values.now in
    let ps = c.args.pattern.now.texts in
    let lt : c.values.value-index < length vs = search rules in
    let is : v ≡ get_or vs c.values.value-index v = search rules in
    let wrong : test ps v ≡ true = ap (λ qs. test qs v) (sym c.as_slice-patterns.ensures) ∙ sym c.in_ok-wrong.ensures ∙ c.if-wrong.true in
    ap (λ x. Some x) c.in_ok-try_clone.ensures ∙ sym (value_found (test ps) vs c.values.value-index v lt is wrong) ∙ c.values.invariant

pub values-preserved : goal.values-preserved
values-preserved c =
    let v = c.value-item.result in
    let vs = c.args.values.now in
    let ps = c.args.pattern.now.texts in
    let lt : c.values.value-index < length vs = search rules in
    let is : v ≡ get_or vs c.values.value-index v = search rules in
    let right : test ps v ≡ false = ap (λ qs. test qs v) (sym c.as_slice-patterns.ensures) ∙ sym c.in_ok-wrong.ensures ∙ c.if-wrong.false in
    value_passed (test ps) vs c.values.value-index v lt is right ∙ c.values.invariant
