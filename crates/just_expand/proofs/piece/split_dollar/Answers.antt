-- A `$` that begins nothing else stands alone.
use Rattle.std.proofs.Common.{◌++◌, refl, sym, subst, ap, ◌∙◌}
use Rattle.just_expand.specs.Pieces.{BeginsWithoutName}
use Rattle.just_expand.proofs.Lists.{is_empty}
use Rattle.just_expand.proofs.piece.split_dollar.Goals as goal

pub returns-then-is_empty : goal.returns-then-is_empty
unfolding lib.Utf8.encode
returns-then-is_empty c =
    let none = is_empty c.split_name.result.0.now (sym c.if-is_empty.ensures) in
    let rest = c.split_name.ensures.whole ∙ ap (λ t. t ++ c.split_name.result.1.now) none in
    (refl, (c.in_default.ensures.cases, c.in_default-strip_prefix.ensures.cases, subst BeginsWithoutName (sym rest) c.split_name.ensures.longest))
