-- What a text fixes, by the laws.
use Rattle.std.proofs.Common.{◌∙◌}
use Rattle.std.proofs.lemmas.Result.{IfOk-weaker}
use Rattle.just_cache.proofs.Laws.{same_class, same_key}
use Rattle.just_cache.proofs.text.key_text.Goals as goal

pub returns-clause-class : goal.returns-clause-class
returns-clause-class c = IfOk-weaker c.key_text_with.result _ _ (λ s same k e. same_class k c.args.key.now (e ∙ same)) c.key_text_with.ensures

pub returns-clause-key : goal.returns-clause-key
returns-clause-key c = IfOk-weaker c.key_text_with.result _ _ (λ s same p k q e. same_key k c.args.key.now q p (e ∙ same)) c.key_text_with.ensures
