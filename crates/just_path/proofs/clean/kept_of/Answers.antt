-- What stays has no rewrite, so it is the normal form.
use Rattle.std.proofs.Common.{◌≡◌, ◌∙◌, sym, ap, List, [], ◌++◌, arith}
use Rattle.std.proofs.lemmas.List.{append-nil}
use Rattle.std.proofs.lemmas.Grind.{common_steps}
use Rattle.just_path.specs.Comps.{Comp}
use Rattle.just_path.specs.Walk.{comps_left}
use Rattle.just_path.specs.Clean.{normal_form}
use Rattle.just_path.specs.Reduced.{comps_of}
use Rattle.just_path.proofs.NormalForms.{normal_form_of_reduced}
use Rattle.just_path.proofs.clean.kept_of.Goals as goal

pub returns : goal.returns
returns c =
    let ks : List Comp = comps_of c.components.kept.items in
    let none : comps_left c.components.left ≡ [] = grind (arith, common_steps) in
    sym (normal_form_of_reduced ks c.components.invariant.reduced)
    ∙ ap normal_form (sym (append-nil ks) ∙ ap (λ r. ks ++ r) (sym none))
    ∙ c.components.invariant.same
