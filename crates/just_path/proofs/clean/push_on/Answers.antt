-- One component more.
use Rattle.std.proofs.Common.{◌≡◌, ◌∙◌, ap, [], ◌∷◌, ◌++◌, append_assoc}
use Rattle.std.proofs.lemmas.List.{map_push}
use Rattle.just_path.specs.Component.{comp_of}
use Rattle.just_path.specs.Clean.{normal_form}
use Rattle.just_path.specs.Reduced.{is_reduced, comps_of}
use Rattle.just_path.proofs.clean.push_on.Goals as goal

pub returns : goal.returns
returns c =
    let t = ap comps_of c.in_ok-push.ensures.items ∙ map_push comp_of c.args.kept.now.items c.args.component in
    record {
      reduced = ap is_reduced t ∙ c.requires;
      same = λ rest. ap (λ cs. normal_form (cs ++ rest)) t ∙ ap normal_form (append_assoc (comps_of c.args.kept.now.items) (comp_of c.args.component ∷ []) rest);
    }
