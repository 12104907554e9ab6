-- The inputs that are left out are `null`.
use Rattle.std.proofs.Common.{refl, ◌∙◌}
use Rattle.serde_json.specs.Data.{null}
use Rattle.just_cache.proofs.Laws.{none_there}
use Rattle.just_cache.proofs.text.class_with_place.Goals as goal

pub invariant_of-result : goal.invariant_of-result
invariant_of-result c = record { null = none_there c.args.key.now c.in_ok-text.inputs_at c.from.result (c.from.ensures ∙ c.in_ok-text.ensures.text null refl) c.in_ok-text.ensures.place }

pub returns-clause-text : goal.returns-clause-text
returns-clause-text c = c.from.ensures ∙ c.in_ok-text.ensures.text null refl
