-- The modules that were found are one list with any other.
use Rattle.std.proofs.Common.{◌∙◌}
use Rattle.just_cli_texts.proofs.EvaluateLaws.{text_in_all, refusal_in_all}
use Rattle.just_cli_texts.proofs.values.evaluate.Goals as goal

pub returns-in-Err-clause-refused : goal.returns-in-Err-clause-refused
returns-in-Err-clause-refused c =
    refusal_in_all _ _ c.format_of-format.ensures _ c.args.scopes.now c.args.justfile.now (rw (← c.as_slice-all.ensures.value) at c.in_ok-modules.ensures) _ _ (c.as_slice.ensures ∙ c.in_ok-names.ensures) _ c.in-Err.ensures.refused

pub returns-clause-text : goal.returns-clause-text
returns-clause-text c =
    text_in_all _ _ c.format_of-format.ensures _ c.args.scopes.now c.args.justfile.now (rw (← c.as_slice-all.ensures.value) at c.in_ok-modules.ensures) _ _ (c.as_slice.ensures ∙ c.in_ok-names.ensures) _ c.in-Ok.ensures.text
