-- Parameters that want a value, one more at a time.
use Rattle.std.proofs.Common.{◌≡◌, ◌<◌, ◌+◌, ℕ, suc, List, ◌∷◌, drop, length, get_or, Bool, sym, ◌∙◌, ap, add-one, drop-cons}
use Rattle.std.specs.Prelude.{◌||◌, is_some, Option}
use Rattle.just_lang_syntax.specs.declared.ast.AstParameter.{AstParameter}
use Rattle.just_lang_syntax.specs.declared.ast.Attribute.{Attribute}
use Rattle.just_lang_syntax.specs.declared.ast.StringLiteral.{StringLiteral}
use Rattle.just_lang_spots.specs.declared.spot.Spot.{Spot}
use Rattle.just_lang_spots.specs.Spots.{earlier, first_spot}
use Rattle.just_lang_spots.proofs.Spots.{first_behind}
use Rattle.just_lang_rules.specs.ParameterSpots.{misplaced, required_behind}

-- one more parameter: what was found behind it, and what is still to come
pub required_step : (text_of : StringLiteral → Option (List ℕ)) (attributes : List Attribute) (file : ℕ) (behind then : Bool) (found here next : Option Spot) (ps : List AstParameter) (i : ℕ) (p : AstParameter)
    → i < length ps → p ≡ get_or ps i p → here ≡ first_spot (misplaced text_of attributes file behind p) → then ≡ (behind || is_some p.default) → next ≡ earlier found here
    → earlier next (first_spot (required_behind text_of attributes file then (drop (i + 1) ps))) ≡ earlier found (first_spot (required_behind text_of attributes file behind (drop i ps)))
required_step text_of attributes file behind then found here next ps i p less is h t k =
    let rest : List AstParameter = drop (i + 1) ps in
    let cons : drop i ps ≡ p ∷ drop (i + 1) ps = rw (add-one, drop-cons ps i p) (ap (λ (y : AstParameter). y ∷ drop (suc i) ps) (sym is)) in
    ap (λ (o : Option Spot). earlier o (first_spot (required_behind text_of attributes file then rest))) (k ∙ ap (earlier found) h)
    ∙ ap (λ (b : Bool). earlier (earlier found (first_spot (misplaced text_of attributes file behind p))) (first_spot (required_behind text_of attributes file b rest))) t
    ∙ sym (first_behind found (misplaced text_of attributes file behind p) (required_behind text_of attributes file (behind || is_some p.default) rest))
    ∙ ap (λ (ys : List AstParameter). earlier found (first_spot (required_behind text_of attributes file behind ys))) (sym cons)
