-- The text of a condition by those of its parts.
use Rattle.std.proofs.Common.{◌≡◌, ℕ, List, Option, ap, ◌∙◌, sym}
use Rattle.just_lang_syntax.specs.declared.ast.Expr.{Expr}
use Rattle.just_lang_types.specs.ConstantTexts.{const_text}
use Rattle.just_lang_types.proofs.Choices.{text_if, chosen_given}
use Rattle.just_lang_types.proofs.expr_text.+const_text.Goals as goal

pub returns-in_ok-alternative-in-If : goal.returns-in_ok-alternative-in-If
returns-in_ok-alternative-in-If g t c =
    let f : Expr → Option (List ℕ) = const_text (g.T.Texts.text_of c.args.texts.now) in
    let a : c.in_ok-left-in-If.left ≡ f c.in-If.left = c.in_ok-left-in-If.ensures ∙ ap f c.get.ensures in
    let b : c.in_ok-right-in-If.right ≡ f c.in-If.right = c.in_ok-right-in-If.ensures ∙ ap f c.get-in-If.ensures in
    let d : c.in_ok-consequent-in-If.consequent ≡ f c.in-If.consequent = c.in_ok-consequent-in-If.ensures ∙ ap f c.get-in-If-2.ensures in
    let e : c.in_ok-alternative-in-If.alternative ≡ f c.in-If.alternative = c.in_ok-alternative-in-If.ensures ∙ ap f c.get-in-If-3.ensures in
    chosen_given c.in-If.comparison c.in_ok-left-in-If.left (f c.in-If.left) c.in_ok-right-in-If.right (f c.in-If.right) c.in_ok-consequent-in-If.consequent (f c.in-If.consequent) c.in_ok-alternative-in-If.alternative (f c.in-If.alternative)
    c.compared-test.result c.chosen.result c.compared-test.ensures c.chosen.ensures a b d e
    ∙ sym (text_if (g.T.Texts.text_of c.args.texts.now) c.in-If.left c.in-If.comparison c.in-If.right c.in-If.consequent c.in-If.chained c.in-If.alternative) ∙ ap f (sym c.in-If.is)
