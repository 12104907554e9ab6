-- The components that stay are the normal form.
use Rattle.std.proofs.Common.{◌≡◌, ◌∙◌, ap, [], arith, false, fold}
use Rattle.std.proofs.lemmas.List.{nil_from_length}
use Rattle.std.proofs.lemmas.Result.{IfOk-weaker}
use Rattle.std.proofs.lemmas.Grind.{common_steps}
use Rattle.just_path.specs.Comps.{comps, comp_text, dot, is_empty}
use Rattle.just_path.specs.Component.{comp_of}
use Rattle.just_path.specs.Path.{pushed}
use Rattle.just_path.specs.Reduced.{comps_of}
use Rattle.just_path.specs.Clean.{normal_form, cleaned}
use Rattle.just_path.proofs.CleanPaths.{made_empty, made_path, filled_from_length}
use Rattle.just_path.proofs.clean.made.Goals as goal

pub returns-then-is_empty : goal.returns-then-is_empty
returns-then-is_empty c =
    let h : comps_of c.in_ok-kept.kept.items ≡ normal_form (comps c.args.text.now) = c.in_ok-kept.ensures ∙ ap normal_form c.new.ensures.left in
    let e : dot ≡ cleaned c.args.text.now = made_empty c.args.text.now c.in_ok-kept.kept.items h (nil_from_length c.in_ok-kept.kept.items (grind (arith, common_steps))) in
    IfOk-weaker c.from_str.result (λ p. p ≡ dot) (λ p. p ≡ cleaned c.args.text.now) (λ p is. is ∙ e) c.from_str.ensures

pub returns : goal.returns
returns c =
    let h : comps_of c.in_ok-kept.kept.items ≡ normal_form (comps c.args.text.now) = c.in_ok-kept.ensures ∙ ap normal_form c.new.ensures.left in
    let f : is_empty c.in_ok-kept.kept.items ≡ false = filled_from_length c.in_ok-kept.kept.items (λ e. grind (arith, common_steps)) in
    let e : fold (λ path component. pushed path (comp_text (comp_of component))) [] c.as_slice-components.result.now ≡ cleaned c.args.text.now =
    ap (λ cs. fold (λ path component. pushed path (comp_text (comp_of component))) [] cs) c.as_slice-components.ensures.value
    ∙ made_path c.args.text.now c.in_ok-kept.kept.items h f in
    IfOk-weaker c.path_of.result (λ p. p ≡ fold (λ path component. pushed path (comp_text (comp_of component))) [] c.as_slice-components.result.now) (λ p. p ≡ cleaned c.args.text.now) (λ p is. is ∙ e) c.path_of.ensures
