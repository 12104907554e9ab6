-- A text that is no pattern.
use Rattle.std.proofs.Common.{◌≡◌, ◌∙◌}
use Rattle.just_eval_words.proofs.Matching.{none_is}
use Rattle.just_eval_words.proofs.pattern.built.Goals as goal

pub returns-in-Err-Syntax : goal.returns-in-Err-Syntax
returns-in-Err-Syntax c =
    none_is c.args.pattern.now c.as_str.result.now (c.as_str.ensures.value ∙ c.in_ok-source.ensures) c.in-Err-Syntax.field-0-0 (rw c.in-Err-Syntax.field-0-is at c.in-Err-Syntax.ensures.by_grammar) (rw c.in-Err-Syntax.field-0-is at c.in-Err-Syntax.ensures.kind)
