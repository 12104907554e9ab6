-- The first place in an expression by those of its parts.
use Rattle.std.proofs.Common.{◌≡◌, ap, ◌∙◌, sym}
use Rattle.just_lang_syntax.specs.declared.ast.Expr.{Expr}
use Rattle.just_lang_spots.specs.Spots.{first_spot}
use Rattle.just_lang_rules.specs.ConstantTexts.{variables_of_expr}
use Rattle.just_lang_rules.proofs.Folds.{variables_if, variables_join, variables_concat}
use Rattle.just_lang_rules.proofs.Parts.{joined_two, joined_four}
use Rattle.just_lang_rules.proofs.constant_texts.+first_variable.Goals as goal

pub returns-in-If : goal.returns-in-If
returns-in-If t c =
    let f = c.args.file in
    let a : c.first_variable-left.result ≡ first_spot (variables_of_expr f c.in-If.left) = c.first_variable-left.ensures ∙ ap (λ (y : Expr). first_spot (variables_of_expr f y)) c.get.ensures in
    let b : c.first_variable-right.result ≡ first_spot (variables_of_expr f c.in-If.right) = c.first_variable-right.ensures ∙ ap (λ (y : Expr). first_spot (variables_of_expr f y)) c.get-in-If.ensures in
    let d : c.first_variable-consequent.result ≡ first_spot (variables_of_expr f c.in-If.consequent) = c.first_variable-consequent.ensures ∙ ap (λ (y : Expr). first_spot (variables_of_expr f y)) c.get-in-If-2.ensures in
    let e : c.first_variable-alternative.result ≡ first_spot (variables_of_expr f c.in-If.alternative) = c.first_variable-alternative.ensures ∙ ap (λ (y : Expr). first_spot (variables_of_expr f y)) c.get-in-If-3.ensures in
    joined_four (variables_of_expr f c.in-If.left) (variables_of_expr f c.in-If.right) (variables_of_expr f c.in-If.consequent) (variables_of_expr f c.in-If.alternative)
    c.first_variable-left.result c.first_variable-right.result c.first_variable-consequent.result c.first_variable-alternative.result c.earlier-blocks.result c.earlier-behind.result c.earlier.result
    c.earlier-blocks.ensures c.earlier-behind.ensures c.earlier.ensures a b d e
    ∙ ap first_spot (sym (variables_if f c.in-If.left c.in-If.comparison c.in-If.right c.in-If.consequent c.in-If.chained c.in-If.alternative)) ∙ ap (λ (x : Expr). first_spot (variables_of_expr f x)) (sym c.in-If.is)

pub returns-in-Join : goal.returns-in-Join
returns-in-Join t c =
    let f = c.args.file in
    let a : c.first_variable-first.result ≡ first_spot (variables_of_expr f c.in-Join.first) = c.first_variable-first.ensures ∙ ap (λ (y : Expr). first_spot (variables_of_expr f y)) c.get-in-Join.ensures in
    let b : c.first_variable-second.result ≡ first_spot (variables_of_expr f c.in-Join.second) = c.first_variable-second.ensures ∙ ap (λ (y : Expr). first_spot (variables_of_expr f y)) c.get-in-Join-2.ensures in
    joined_two (variables_of_expr f c.in-Join.first) (variables_of_expr f c.in-Join.second) c.first_variable-first.result c.first_variable-second.result c.earlier-in-Join.result c.earlier-in-Join.ensures a b
    ∙ ap first_spot (sym (variables_join f c.in-Join.first c.in-Join.second)) ∙ ap (λ (x : Expr). first_spot (variables_of_expr f x)) (sym c.in-Join.is)

pub returns-in-Concat : goal.returns-in-Concat
returns-in-Concat t c =
    let f = c.args.file in
    let a : c.first_variable-first-in-Concat.result ≡ first_spot (variables_of_expr f c.in-Concat.first) = c.first_variable-first-in-Concat.ensures ∙ ap (λ (y : Expr). first_spot (variables_of_expr f y)) c.get-in-Concat.ensures in
    let b : c.first_variable-second-in-Concat.result ≡ first_spot (variables_of_expr f c.in-Concat.second) = c.first_variable-second-in-Concat.ensures ∙ ap (λ (y : Expr). first_spot (variables_of_expr f y)) c.get-in-Concat-2.ensures in
    joined_two (variables_of_expr f c.in-Concat.first) (variables_of_expr f c.in-Concat.second) c.first_variable-first-in-Concat.result c.first_variable-second-in-Concat.result c.earlier-in-Concat.result c.earlier-in-Concat.ensures a b
    ∙ ap first_spot (sym (variables_concat f c.in-Concat.first c.in-Concat.second)) ∙ ap (λ (x : Expr). first_spot (variables_of_expr f x)) (sym c.in-Concat.is)
