-- The first `:-` parts name and default, unless none stands there.
use Rattle.std.proofs.Common.{◌∷◌, inr, ap, sym, subst}
use Rattle.just_expand.specs.Bytes.{close_brace}
use Rattle.just_expand.specs.Pieces.{Lacks}
use Rattle.just_expand.proofs.Lists.{lacks_left, lacks_right, is_not_empty}
use Rattle.just_expand.proofs.Braces.{finish_braced, finish_defaulted}
use Rattle.just_expand.proofs.Splits.{no_mark, cut_at_mark, first_mark}
use Rattle.just_expand.proofs.piece.read_inside.Goals as goal

pub returns-in_default : goal.returns-in_default
returns-in_default c = λ rest.
    (ap (λ t. 36 ∷ 123 ∷ t) (finish_braced c.args.inside.now rest), (c.requires, inr (no_mark c.args.inside.now c.in_default.ensures.cases)))

pub returns-else-is_empty : goal.returns-else-is_empty
returns-else-is_empty c = λ rest.
    let f = c.in-Some.ensures.cases in
    let name = c.in-Some.name.now in
    let default = c.in-Some.default.now in
    let whole = cut_at_mark c.args.inside.now name default f.0 f.1 f.2 f.3 f.4 in
    let lacks = subst (Lacks close_brace) whole c.requires in (
      ap (λ t. 36 ∷ 123 ∷ t) (finish_defaulted c.args.inside.now name default rest whole),
      (
        is_not_empty name (sym c.if-is_empty.ensures),
        lacks_left 125 name _ lacks,
        first_mark c.args.inside.now name default f.0 f.1 f.2 whole f.6,
        (lacks_right 125 name _ lacks).1.1,
      ),
    )
