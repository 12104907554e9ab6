-- Some variables are unknown.
use Rattle.std.proofs.Common.{map, ◌∙◌}
use Rattle.just_eval.proofs.UnknownVariables.{some_unknown}
use Rattle.just_eval.proofs.overrides.unknown_texts.Goals as goal

pub returns : goal.returns
returns c =
    some_unknown (map (λ m. m.now) c.args.modules.now) c.args.overrides.now c.in_ok-unknown.unknown c.in_ok-unknown.ensures c.len.ensures.ordered c.in_ok-variable_texts.field-0
    (λ h. c.if-len-eq0.false (c.len.ensures.len ∙ h)) c.in_ok-variable_texts.ensures
