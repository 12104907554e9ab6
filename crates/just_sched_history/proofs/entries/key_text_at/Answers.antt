-- The class of the plan takes the inputs at their place.
use Rattle.std.proofs.Common.{Some, map, zip, ap, ◌∙◌}
use Rattle.std.proofs.lemmas.Result.{IfOk-weaker}
use Rattle.hex.specs.Hex.{encode_lower}
use Rattle.just_cache.specs.Keys.{key_text}
use Rattle.just_cache.proofs.Laws.{none_there, with_files}
use Rattle.just_sched_history.proofs.entries.key_text_at.Goals as goal

pub key_text_of_class-requires : goal.key_text_of_class-requires
key_text_of_class-requires c = none_there c.args.plan.now.key c.args.plan.now.inputs_at c.as_str.result.now (c.as_str.ensures ∙ c.args.plan.now.classed) c.args.plan.now.placed

pub returns : goal.returns
returns c =
    let p = c.args.plan.now in
    let named = ap (λ v. key_text (record p.key { inputs = Some v })) (c.in_ok-digests.ensures ∙ ap (λ names. zip names (map encode_lower c.args.sums.now)) c.as_slice.ensures) in
    IfOk-weaker c.key_text_of_class.result _ _ (λ s same. same ∙ with_files p.key p.inputs_at c.as_str.result.now (c.as_str.ensures ∙ p.classed) p.placed (Some c.in_ok-digests.field-0) ∙ named) c.key_text_of_class.ensures
