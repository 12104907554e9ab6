-- The parameters of a recipe are in order, where those are options that attributes make options.
use Rattle.std.proofs.Common.{◌≡◌, ◌⊎◌, inl, inr, ℕ, Bool, true, false, not, ◌&&◌, ◌||◌, List, [], ◌∷◌, Option, refl, sym, ap, ◌∙◌, subst}
use Rattle.std.specs.Prelude.{is_some}
use Rattle.std.specs.List.{AllByRecursion}
use Rattle.std.proofs.lemmas.List.Elements.{All-from_recursion}
use Rattle.just_lang_syntax.specs.declared.ast.AstParameter.{AstParameter}
use Rattle.just_lang_syntax.specs.declared.ast.Attribute.{Attribute}
use Rattle.just_lang_syntax.specs.declared.ast.StringLiteral.{StringLiteral}
use Rattle.just_lang_types.specs.declared.recipe.Parameter.{Parameter}
use Rattle.just_lang_spots.specs.Places.{name_spot}
use Rattle.just_lang_types.specs.Options as tree
use Rattle.just_lang_rules.specs.ParameterSpots as rule
use Rattle.just_lang_shapes.specs.Parameters.{parameter_of, parameters_of}
use Rattle.just_lang.specs.Sound.{is_option, wants_value, AreInOrder}
use Rattle.just_lang.proofs.Known.{default_stays}
use Rattle.just_lang.proofs.Lists.{none_left, none_right}
use Rattle.just_lang.proofs.Options.{same_default, wants_same}
use Rattle.just_lang.proofs.Parameters.{no_spot}

module _ (text_of : StringLiteral → Option (List ℕ)) (attributes : List Attribute) where
  abbrev made : AstParameter → Parameter
  made p = parameter_of text_of attributes p

  -- those are options that attributes make options
  abbrev pub AreAgreed : List AstParameter → Type 0
  AreAgreed ps = AllByRecursion (λ (p : AstParameter). is_option (made p) ≡ tree.is_option text_of attributes p) ps

  placed : (w o : Bool) → (w && not o) ≡ false → (w ≡ false) ⊎ (o ≡ true)
  placed false o h = inl refl
  placed true true h = inr refl
  placed true false h = absurd (let no : ⊥ = cc in no)

  behind_one : (file : ℕ) (ps : List AstParameter) → AreAgreed ps → rule.required_behind text_of attributes file true ps ≡ [] → AllByRecursion (λ (q : Parameter). (wants_value q ≡ false) ⊎ (is_option q ≡ true)) (parameters_of text_of attributes ps)
  behind_one file [] agreed h = tt
  behind_one file (p ∷ ps) agreed h = (
    fits (placed (rule.wants_value p) (tree.is_option text_of attributes p) (no_spot (rule.is_misplaced text_of attributes p) (name_spot file p.name) (none_left (rule.misplaced text_of attributes file true p) (rule.required_behind text_of attributes file true ps) h))),
    behind_one file ps agreed.1 (none_right (rule.misplaced text_of attributes file true p) (rule.required_behind text_of attributes file true ps) h),
  )
    where
      fits : (rule.wants_value p ≡ false) ⊎ (tree.is_option text_of attributes p ≡ true) → (wants_value (made p) ≡ false) ⊎ (is_option (made p) ≡ true)
      fits (inl free) = inl (wants_same text_of attributes p ∙ free)
      fits (inr by_switch) = inr (agreed.0 ∙ by_switch)

  or_true : (a b : Bool) → b ≡ true → (a || b) ≡ true
  or_true true b h = refl
  or_true false b h = h

  pub in_order : (file : ℕ) (behind : Bool) (ps : List AstParameter) → AreAgreed ps → rule.required_behind text_of attributes file behind ps ≡ [] → AreInOrder (parameters_of text_of attributes ps)
  in_order file behind [] agreed h = tt
  in_order file behind (p ∷ ps) agreed h =
      let rest : rule.required_behind text_of attributes file (behind || is_some p.default) ps ≡ [] = none_right (rule.misplaced text_of attributes file behind p) (rule.required_behind text_of attributes file (behind || is_some p.default) ps) h in (
        (λ given.
            let has : is_some p.default ≡ true = sym (ap is_some (default_stays text_of attributes p) ∙ same_default text_of p.default) ∙ given in
            All-from_recursion (λ (q : Parameter). (wants_value q ≡ false) ⊎ (is_option q ≡ true)) (parameters_of text_of attributes ps)
            (behind_one file ps agreed.1 (subst (λ (b : Bool). rule.required_behind text_of attributes file b ps ≡ []) (or_true behind (is_some p.default) has) rest))),
        in_order file (behind || is_some p.default) ps agreed.1 rest,
      )
