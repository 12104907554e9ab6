-- What the patterns that were built match, the patterns do.
use Rattle.std.proofs.Common.{◌≡◌, ◌∙◌, arith}
use Rattle.just_eval_words.proofs.pattern.any_matches.Goals as goal

pub returns : goal.returns
returns c = c.in_ok-found.ensures ∙ c.requires c.args.text.now (λ k. omega (arith, c.type_inv.text k))
