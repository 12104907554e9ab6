-- One component more was the same in both.
use Rattle.std.proofs.Common.{◌≡◌, ◌∙◌, sym, ap, refl, [], ◌∷◌, ◌++◌, length, append_assoc, rules, true, arith}
use Rattle.std.proofs.lemmas.Grind.{common_steps}
use Rattle.just_path.specs.Path.{text_of}
use Rattle.just_path.specs.Component.{comp_of}
use Rattle.just_path.specs.Walk.{comps_left, slice_left}
use Rattle.just_path.specs.Order.{comp_eq, begins_with}
use Rattle.just_path.proofs.SameComponents.{comp_eq_same}
use Rattle.just_path.proofs.Pushes.{joined_again}
use Rattle.just_path.proofs.path.Utf8Path.strip_prefix.Goals as goal

pub components-init : goal.components-init
components-init c = record {
  same = search rules;
  slice = c.components-left.ensures.slice (length (comps_left c.components-wanted.result)) 0 ∙ search rules;
  taken = ([], sym c.components-left.ensures.left, sym c.components-wanted.ensures.left);
}

pub components-preserved : goal.components-preserved
components-preserved c =
    let eq : comp_eq (comp_of c.in-Some-take_first.component) (comp_of c.in-Some.want) ≡ true = search rules in
    let one : comp_of c.in-Some-take_first.component ≡ comp_of c.in-Some.want = comp_eq_same _ _ eq in
    let a : comps_left c.components.left ≡ comp_of c.in-Some-take_first.component ∷ comps_left c.take_first-in-Some.new.self = c.in-Some-take_first.ensures.step.takes in
    let b : comps_left c.components.wanted ≡ comp_of c.in-Some.want ∷ comps_left c.take_first.new.self = c.in-Some.ensures.step.takes in
    let (cs, t, u) = c.components.invariant.taken in
    record {
      same =
          (let s : begins_with (comps_left c.take_first-in-Some.new.self) (comps_left c.take_first.new.self) ≡ begins_with (comps_left c.components.left) (comps_left c.components.wanted) = rw (a, b, eq) refl in s)
          ∙ c.components.invariant.same;
      slice =
          sym (c.in-Some-take_first.ensures.step.shortens (length (comps_left c.take_first.new.self)) 0)
          ∙ ap (λ n. slice_left c.components.left n 0) (sym (ap length b))
          ∙ c.components.invariant.slice;
      taken = (
        cs ++ comp_of c.in-Some.want ∷ [],
        t ∙ ap (λ xs. cs ++ xs) (a ∙ ap (λ x. x ∷ comps_left c.take_first-in-Some.new.self) one) ∙ sym (append_assoc cs (comp_of c.in-Some.want ∷ []) (comps_left c.take_first-in-Some.new.self)),
        u ∙ ap (λ xs. cs ++ xs) b ∙ sym (append_assoc cs (comp_of c.in-Some.want ∷ []) (comps_left c.take_first.new.self)),
      );
    }

pub returns-clause-joins : goal.returns-clause-joins
returns-clause-joins c = joined_again (text_of c.args.self.now) (text_of c.args.base) (text_of c.as_path.result) (grind (arith, common_steps))
