-- The text of a condition by those of its parts.
use Rattle.std.proofs.Common.{◌≡◌, ℕ, Bool, List, refl, sym, ap, ◌∙◌}
use Rattle.std.specs.Prelude.{if◌then◌else◌, Option, Some, None}
use Rattle.std.specs.Option.{option_and_then}
use Rattle.just_lang_syntax.specs.declared.ast.StringLiteral.{StringLiteral}
use Rattle.just_lang_syntax.specs.declared.ast.Comparison.{Comparison}
use Rattle.just_lang_syntax.specs.declared.ast.Expr.{Expr}
use Rattle.just_lang_syntax.specs.declared.ast.Expr.TheVariants as e
use Rattle.just_lang_syntax.specs.declared.ast.Expr.TheOpen.{Expr-F}
use Rattle.just_lang_syntax.specs.declared.ast.Expr.TheFolds.{fold-roll-Expr}
use Rattle.just_lang_types.specs.ConstantTexts.{is_comparison, with_both, chosen, text_of_parts, const_text}

pub text_if : (text_of : StringLiteral → Option (List ℕ)) (a : Expr) (c : Comparison) (b d : Expr) (chained : Bool) (x : Expr)
    → const_text text_of (e.If a c b d chained x) ≡ chosen c (const_text text_of a) (const_text text_of b) (const_text text_of d) (const_text text_of x)
text_if text_of a c b d chained x = ap (const_text text_of) (sym (e.rolls-If a c b d chained x)) ∙ fold-roll-Expr (Option (List ℕ)) (text_of_parts text_of) (Expr-F.If a c b d chained x)

-- the condition first, then the one or the other
chosen_by : (c : Comparison) (l r q a : Option (List ℕ)) → option_and_then (λ (b : Bool). if b then q else a) (with_both (λ x y. Some (is_comparison c x y)) l r) ≡ chosen c l r q a
chosen_by c None r q a = refl
chosen_by c (Some x) None q a = refl
chosen_by c (Some x) (Some y) q a = refl

-- the same by what the parts are
pub chosen_given : (c : Comparison) (l l' r r' q q' a a' : Option (List ℕ)) (test : Option Bool) (text : Option (List ℕ))
    → test ≡ with_both (λ x y. Some (is_comparison c x y)) l r → text ≡ option_and_then (λ (b : Bool). if b then q else a) test
    → l ≡ l' → r ≡ r' → q ≡ q' → a ≡ a' → text ≡ chosen c l' r' q' a'
chosen_given c l l' r r' q q' a a' test text t h hl hr hq ha =
    h ∙ ap (λ (o : Option Bool). option_and_then (λ (b : Bool). if b then q else a) o) t ∙ chosen_by c l r q a ∙ (λ i. chosen c (hl i) (hr i) (hq i) (ha i))
