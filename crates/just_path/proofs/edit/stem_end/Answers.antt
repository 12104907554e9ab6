-- The path up to its last name, and that name's stem, are both text.
use Rattle.std.proofs.Common.{◌≡◌, ◌∙◌, sym, ap, subst, List, ℕ, ◌++◌}
use Rattle.std.specs.Str.{IsUtf8}
use Rattle.std.proofs.lemmas.Str.{IsUtf8-append}
use Rattle.just_path.proofs.TextFronts.{name_text, stem_cut, text_before}
use Rattle.just_path.proofs.edit.stem_end.Goals as goal

pub overflow_sub-result : goal.overflow_sub-result
overflow_sub-result c =
    let (a, e) = c.in-Some.ensures.stands in
    (stem_cut c.args.text.now c.trim_back-ended.result.now a c.in-Some-name.name.now c.stem_of-stem.result.now c.trim_back-ended.ensures.slice
    (c.trim_back-ended.ensures.slice ∙ e ∙ ap (λ x. a ++ x) (name_text _ _ c.in-Some-name.ensures)) c.stem_of-stem.ensures.stem).0

pub returns-in-Some-name-clause-utf8 : goal.returns-in-Some-name-clause-utf8
returns-in-Some-name-clause-utf8 c =
    let (a, e) = c.in-Some.ensures.stands in
    let k : c.trim_back-ended.result.now ≡ a ++ c.in-Some-name.name.now = c.trim_back-ended.ensures.slice ∙ e ∙ ap (λ x. a ++ x) (name_text _ _ c.in-Some-name.ensures) in
    let s = stem_cut c.args.text.now c.trim_back-ended.result.now a c.in-Some-name.name.now c.stem_of-stem.result.now c.trim_back-ended.ensures.slice k c.stem_of-stem.ensures.stem in
    subst (λ (x : List ℕ). IsUtf8 x) (sym s.2) (IsUtf8-append a c.stem_of-stem.result.now (text_before c.trim_back-ended.result.now a c.in-Some-name.name.now k c.trim_back-ended.utf8 c.stem_of-stem.ensures.utf8) c.stem_of-stem.utf8)
