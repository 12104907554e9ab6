-- The class text is cut before and behind its `null`.
use Rattle.std.proofs.Common.{sym, subst}
use Rattle.std.specs.Str.{IsCharBoundary}
use Rattle.just_cache.proofs.Cut.{before_null, behind_null}
use Rattle.just_cache.proofs.text.key_text_of_class.Goals as goal

pub split_at-requires : goal.split_at-requires
split_at-requires c = before_null c.args.class.now c.args.inputs_at c.requires

pub split_at-requires-2 : goal.split_at-requires-2
split_at-requires-2 c = subst (λ l. IsCharBoundary l 4) (sym c.split_at.ensures.back) (behind_null c.args.class.now c.args.inputs_at c.utf8.class c.requires)
