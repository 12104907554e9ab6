-- What stands before the last name, up to its last component, is the parent; without a name it is that of what stands in front.
use Rattle.std.proofs.Common.{◌∙◌, sym, ap, subst, List, ℕ, Some, option_map}
use Rattle.just_path.specs.Path.{text_of}
use Rattle.just_path.specs.Comps.{comps}
use Rattle.just_path.specs.Parts.{parent_of, parent_of_lead, HasOneLess}
use Rattle.just_path.proofs.FileNames.{parent_behind, parent_alone}
use Rattle.just_path.proofs.Parents.{less_behind, less_alone}
use Rattle.just_path.proofs.TextFronts.{parent_front}
use Rattle.just_path.proofs.path.Utf8Path.parent.Goals as goal

pub returns-in-Some-clause-parent : goal.returns-in-Some-clause-parent
returns-in-Some-clause-parent c = ap Some (c.new.ensures ∙ c.trim_back.ensures.slice) ∙ parent_behind _ _ _ c.in-Some.ensures ∙ ap parent_of c.as_str-text.ensures

pub returns-in-Some-clause-less : goal.returns-in-Some-clause-less
returns-in-Some-clause-less c =
    subst (λ (t : List ℕ). HasOneLess (comps t) (option_map text_of (Some c.new.result))) c.as_str-text.ensures
    (less_behind _ _ _ c.new.result c.in-Some.ensures (ap comps c.new.ensures ∙ c.trim_back.ensures.comps))

pub returns-in-Some-clause-front : goal.returns-in-Some-clause-front
returns-in-Some-clause-front c =
    parent_front (text_of c.args.self.now) (text_of c.new.result)
    (sym (ap Some (c.new.ensures ∙ c.trim_back.ensures.slice) ∙ parent_behind _ _ _ c.in-Some.ensures ∙ ap parent_of c.as_str-text.ensures))

pub returns-in-None-clause-parent : goal.returns-in-None-clause-parent
returns-in-None-clause-parent c = c.above.ensures.parent ∙ ap parent_of_lead c.leading.ensures ∙ parent_alone _ c.in-None.ensures ∙ ap parent_of c.as_str-text.ensures

pub returns-in-None-clause-less : goal.returns-in-None-clause-less
returns-in-None-clause-less c =
    subst (λ (t : List ℕ). HasOneLess (comps t) (option_map text_of c.above.result)) c.as_str-text.ensures
    (less_alone _ _ c.above.result c.in-None.ensures c.leading.ensures c.above.ensures.parent)
