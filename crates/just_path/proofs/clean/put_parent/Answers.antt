-- By the last component that stays.
use Rattle.std.proofs.Common.{◌≡◌, ◌∙◌, sym, ap, refl, List, [], ◌∷◌, ◌++◌, false, append_assoc}
use Rattle.std.proofs.lemmas.List.{map_push}
use Rattle.std.proofs.lemmas.Result.{on_ok_weaker}
use Rattle.just_path.specs.Comps.{Comp, parent, root, current, normal}
use Rattle.just_path.specs.Component.{comp_of}
use Rattle.just_path.specs.declared.component.Utf8Component.{Utf8Component}
use Rattle.just_path.specs.Clean.{normal_form}
use Rattle.just_path.specs.Reduced.{is_reduced, comps_of}
use Rattle.just_path.proofs.NormalForms.{reduced_init, not_reduced_front, drops_pair, drops_parent}
use Rattle.just_path.proofs.clean.put_parent.Goals as goal

one_more : (old new : List Utf8Component) (x : Utf8Component) → new ≡ old ++ x ∷ [] → comps_of new ≡ comps_of old ++ comp_of x ∷ []
one_more old new x e = ap comps_of e ∙ map_push comp_of old x

pub returns-in-Normal-clause-reduced : goal.returns-in-Normal-clause-reduced
returns-in-Normal-clause-reduced c =
    let t = one_more c.pop.new.self.items c.args.kept.now.items c.in-Some.last c.in-Some.ensures.items in
    reduced_init (comps_of c.pop.new.self.items) (comp_of c.in-Some.last) (ap is_reduced (sym t) ∙ c.requires)

pub returns-in-Normal-clause-same : goal.returns-in-Normal-clause-same
returns-in-Normal-clause-same c = λ rest.
    let ks : List Comp = comps_of c.pop.new.self.items in
    let t = one_more c.pop.new.self.items c.args.kept.now.items c.in-Some.last c.in-Some.ensures.items in
    sym (ap (λ cs. normal_form (cs ++ parent ∷ rest)) (t ∙ ap (λ x. ks ++ comp_of x ∷ []) c.in-Normal.is) ∙ ap normal_form (append_assoc ks (normal c.in-Normal.field-0.now ∷ []) (parent ∷ rest))
    ∙ drops_pair ks rest c.in-Normal.field-0.now)

pub push_on-requires : goal.push_on-requires
push_on-requires c =
    let t = one_more c.pop.new.self.items c.args.kept.now.items c.in-Some.last c.in-Some.ensures.items in
    ap is_reduced (sym t) ∙ c.requires

pub returns-in-RootDir-clause-same : goal.returns-in-RootDir-clause-same
returns-in-RootDir-clause-same c =
    let ks : List Comp = comps_of c.pop.new.self.items in
    let new : List Comp = comps_of c.push_on.new.kept.items in
    let t = one_more c.pop.new.self.items c.args.kept.now.items c.in-Some.last c.in-Some.ensures.items in
    let r : ks ++ comp_of c.in-Some.last ∷ [] ≡ ks ++ root ∷ [] = ap (λ x. ks ++ comp_of x ∷ []) c.in-RootDir.is in
    let drops : (rest : List Comp) → normal_form (ks ++ comp_of c.in-Some.last ∷ rest) ≡ normal_form (comps_of c.args.kept.now.items ++ parent ∷ rest) =
    λ rest. ap (λ x. normal_form (ks ++ comp_of x ∷ rest)) c.in-RootDir.is ∙ sym (drops_parent ks rest)
    ∙ sym (ap (λ cs. normal_form (cs ++ parent ∷ rest)) (t ∙ r) ∙ ap normal_form (append_assoc ks (root ∷ []) (parent ∷ rest))) in
    let more : ((rest : List Comp) → normal_form (new ++ rest) ≡ normal_form (ks ++ comp_of c.in-Some.last ∷ rest)) → (rest : List Comp) → normal_form (new ++ rest) ≡ normal_form (comps_of c.args.kept.now.items ++ parent ∷ rest) =
    λ same rest. same rest ∙ drops rest in
    on_ok_weaker c.push_on.result more c.push_on.ensures.same

pub put_back-requires-in-CurDir-clause-fits : goal.put_back-requires-in-CurDir-clause-fits
put_back-requires-in-CurDir-clause-fits c =
    let t = one_more c.pop.new.self.items c.args.kept.now.items c.in-Some.last c.in-Some.ensures.items in
    let stuck : is_reduced (comps_of c.args.kept.now.items) ≡ false =
    ap is_reduced (t ∙ ap (λ x. comps_of c.pop.new.self.items ++ comp_of x ∷ []) c.in-CurDir.is) ∙ not_reduced_front (comps_of c.pop.new.self.items) (current ∷ []) refl in
    cc (stuck, c.requires)
