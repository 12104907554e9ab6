-- What stands before the inputs, then they, then what stands behind them.
use Rattle.std.proofs.Common.{◌≡◌, ◌++◌, append_assoc, true, codes, string_bytes, sym, ap, ◌∙◌}
use Rattle.serde_json.specs.Data.{Members, object}
use Rattle.serde_json.specs.Written.{compact_text, members_text}
use Rattle.just_cache.specs.Keys.{before_inputs, behind_inputs}
use Rattle.just_cache.proofs.Cut.{text_with, takes_inputs}
use Rattle.just_cache.proofs.text.text_around.Goals as goal

pub returns-clause-text : goal.returns-clause-text
returns-clause-text c given same =
    let k = c.args.key.now in
    let before = string_bytes c.push_before.new.text in
    let head = before ++ codes ",\"inputs\":" in
    let inputs = c.args.inputs.now in
    let tail = members_text true (behind_inputs k) in
    let first : (following : Members) → before ++ members_text true following ≡ compact_text (object (before_inputs k following)) =
    λ following. c.in_ok-push_before.ensures following ∙ ap (λ t. t ++ compact_text (object (before_inputs k following))) c.in_ok-text.ensures.bytes in
    c.in_ok-push_behind.ensures
    ∙ ap (λ t. t ++ tail) (c.in_ok-push_str.ensures.bytes ∙ ap (λ t. t ++ inputs) c.in_ok-place.ensures.text)
    ∙ append_assoc head inputs tail
    ∙ ap (λ v. head ++ (v ++ tail)) (sym same)
    ∙ text_with k before first given

pub returns-clause-place : goal.returns-clause-place
returns-clause-place c =
    let k = c.args.key.now in
    let before = string_bytes c.push_before.new.text in
    let first : (following : Members) → before ++ members_text true following ≡ compact_text (object (before_inputs k following)) =
    λ following. c.in_ok-push_before.ensures following ∙ ap (λ t. t ++ compact_text (object (before_inputs k following))) c.in_ok-text.ensures.bytes in
    takes_inputs k before first c.in_ok-place.place c.in_ok-place.ensures.place
