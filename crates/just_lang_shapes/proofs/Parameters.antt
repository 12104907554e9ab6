-- The parameters of a recipe, one more at a time.
use Rattle.std.proofs.Common.{◌≡◌, ◌<◌, ◌+◌, ℕ, List, [], ◌∷◌, ◌++◌, map, length, drop, get_or, append_assoc, sym, ap, ◌∙◌}
use Rattle.std.specs.Prelude.{Option}
use Rattle.just_lang_syntax.specs.declared.ast.AstParameter.{AstParameter}
use Rattle.just_lang_syntax.specs.declared.ast.Attribute.{Attribute}
use Rattle.just_lang_syntax.specs.declared.ast.StringLiteral.{StringLiteral}
use Rattle.just_lang_types.specs.declared.recipe.Parameter.{Parameter}
use Rattle.just_lang_spots.proofs.ListLaws.{drop_here}
use Rattle.just_lang_shapes.specs.Parameters.{keys_of, parameter_with, parameter_of, parameters_of}

pub parameters_step : (text_of : StringLiteral → Option (List ℕ)) (attributes : List Attribute) (ps : List AstParameter) (i : ℕ) (p : AstParameter) (all more : List Parameter) (made : Parameter)
    → i < length ps → p ≡ get_or ps i p → made ≡ parameter_with text_of (keys_of text_of attributes p.name.text) p → more ≡ all ++ made ∷ []
    → all ++ parameters_of text_of attributes (drop i ps) ≡ parameters_of text_of attributes ps
    → more ++ parameters_of text_of attributes (drop (i + 1) ps) ≡ parameters_of text_of attributes ps
parameters_step text_of attributes ps i p all more made lt is e k h =
    ap (λ (xs : List Parameter). xs ++ parameters_of text_of attributes (drop (i + 1) ps)) k
    ∙ append_assoc all (made ∷ []) (parameters_of text_of attributes (drop (i + 1) ps))
    ∙ ap (λ (x : Parameter). all ++ (x ∷ parameters_of text_of attributes (drop (i + 1) ps))) e
    ∙ ap (λ (xs : List AstParameter). all ++ parameters_of text_of attributes xs) (sym (drop_here ps i p lt is))
    ∙ h
