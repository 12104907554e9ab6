-- Two components more.
use Rattle.std.proofs.Common.{◌≡◌, ◌∙◌, ap, refl, List, [], ◌∷◌, ◌++◌, true, append_assoc}
use Rattle.std.proofs.lemmas.List.{map_push}
use Rattle.just_path.specs.Comps.{parent}
use Rattle.just_path.specs.Component.{comp_of}
use Rattle.just_path.specs.declared.component.Utf8Component.{Utf8Component}
use Rattle.just_path.specs.Clean.{normal_form}
use Rattle.just_path.specs.Reduced.{may_precede, is_reduced, comps_of}
use Rattle.just_path.proofs.Truths.{and_both}
use Rattle.just_path.proofs.NormalForms.{reduced_push}
use Rattle.just_path.proofs.clean.put_back.Goals as goal

two_more : (old mid new : List Utf8Component) (x y : Utf8Component) → mid ≡ old ++ x ∷ [] → new ≡ mid ++ y ∷ [] → comps_of new ≡ (comps_of old ++ comp_of x ∷ []) ++ comp_of y ∷ []
two_more old mid new x y e f = ap comps_of f ∙ map_push comp_of mid y ∙ ap (λ cs. cs ++ comp_of y ∷ []) (ap comps_of e ∙ map_push comp_of old x)

pub returns : goal.returns
returns c =
    let t = two_more c.args.kept.now.items c.push.new.self.items c.push-2.new.self.items c.args.last _ c.in_ok-push.ensures.items c.in_ok-push-2.ensures.items in
    record {
      reduced = ap is_reduced t ∙ reduced_push (comps_of c.args.kept.now.items) (comp_of c.args.last) parent c.requires.reduced (and_both (may_precede (comp_of c.args.last) (parent ∷ [])) true c.requires.fits refl);
      same = λ rest. ap (λ cs. normal_form (cs ++ rest)) t ∙ ap normal_form (append_assoc (comps_of c.args.kept.now.items ++ comp_of c.args.last ∷ []) (parent ∷ []) rest);
    }
