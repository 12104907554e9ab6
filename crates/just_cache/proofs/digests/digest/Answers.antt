-- The text is the digest, so it has its digits.
use Rattle.std.proofs.Common.{length, sym, ap, subst, ◌∙◌}
use Rattle.std.proofs.lemmas.Result.{IfOk-weaker}
use Rattle.std.specs.List.{AllPass}
use Rattle.just_cache.specs.Digests.{is_lower_hex}
use Rattle.just_cache.proofs.Digits.{size, digits}
use Rattle.just_cache.proofs.digests.digest.Goals as goal

pub returns-clause-size : goal.returns-clause-size
returns-clause-size c = IfOk-weaker c.digits_of.result _ _ (λ s same. ap length same ∙ size c.args.text.now) c.digits_of.ensures

pub returns-clause-digits : goal.returns-clause-digits
returns-clause-digits c = IfOk-weaker c.digits_of.result _ _ (λ s same. subst (AllPass is_lower_hex) (sym same) (digits c.args.text.now)) c.digits_of.ensures
