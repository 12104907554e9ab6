-- The blocks of an `if`.
use Rattle.std.proofs.Common.{rules, ◌≡◌, true, false, Ok, sym, ap, ◌∙◌}
use Rattle.just_eval_closure.specs.Scopes.{found_in}
use Rattle.just_eval_closure.specs.Values.{value, compared_by}
use Rattle.just_eval_closure.proofs.Exprs.{compared_text, is_then, is_else, if_ok, said_of}
use Rattle.just_eval_closure.proofs.expression.+value.Goals as goal

pub value-returns-in-Ok-true : goal.value-returns-in-Ok-true
value-returns-in-Ok-true g n c =
    let names = g.N.Names.meaning c.args.names.now in
    let env = found_in c.args.env.now.pairs.now c.args.env.now.environ.now.pairs in
    let told : compared_text true ≡ c.in_ok-holds-in-If.field-0 = search rules in
    let held = c.in_ok-holds-in-If.ensures in
    let left : c.in_ok-left-in-If.left ≡ value names env c.in-If.left = c.in_ok-left-in-If.ensures ∙ ap (λ x. value names env x) c.get.ensures in
    let right : held.0 ≡ value names env c.in-If.right = said_of (λ v. v ≡ value names env c.get-in-If.result.now) c.value-in-If.result held.0 held.1 c.value-in-If.ensures ∙ ap (λ x. value names env x) c.get-in-If.ensures in
    let taken : compared_text true ≡ compared_by c.in-If.comparison (value names env c.in-If.left) (value names env c.in-If.right) =
    told ∙ held.2 ∙ ap (λ v. compared_by c.in-If.comparison v held.0) left ∙ ap (λ v. compared_by c.in-If.comparison (value names env c.in-If.left) v) right in
    let is = is_then names env c.in-If.left c.in-If.comparison c.in-If.right c.in-If.consequent c.in-If.chained c.in-If.alternative taken in
    if_ok (λ v. v ≡ value names env c.get-in-Ok-true.result.now) (λ v. v ≡ value names env c.args.expr.now) c.value-in-Ok-true.result (λ v h. h ∙ ap (λ x. value names env x) c.get-in-Ok-true.ensures ∙ is ∙ ap (λ x. value names env x) (sym c.in-If.is)) c.value-in-Ok-true.ensures

pub value-returns-in-Ok-false : goal.value-returns-in-Ok-false
value-returns-in-Ok-false g n c =
    let names = g.N.Names.meaning c.args.names.now in
    let env = found_in c.args.env.now.pairs.now c.args.env.now.environ.now.pairs in
    let told : compared_text false ≡ c.in_ok-holds-in-If.field-0 = search rules in
    let held = c.in_ok-holds-in-If.ensures in
    let left : c.in_ok-left-in-If.left ≡ value names env c.in-If.left = c.in_ok-left-in-If.ensures ∙ ap (λ x. value names env x) c.get.ensures in
    let right : held.0 ≡ value names env c.in-If.right = said_of (λ v. v ≡ value names env c.get-in-If.result.now) c.value-in-If.result held.0 held.1 c.value-in-If.ensures ∙ ap (λ x. value names env x) c.get-in-If.ensures in
    let taken : compared_text false ≡ compared_by c.in-If.comparison (value names env c.in-If.left) (value names env c.in-If.right) =
    told ∙ held.2 ∙ ap (λ v. compared_by c.in-If.comparison v held.0) left ∙ ap (λ v. compared_by c.in-If.comparison (value names env c.in-If.left) v) right in
    let is = is_else names env c.in-If.left c.in-If.comparison c.in-If.right c.in-If.consequent c.in-If.chained c.in-If.alternative taken in
    if_ok (λ v. v ≡ value names env c.get-in-Ok-false.result.now) (λ v. v ≡ value names env c.args.expr.now) c.value-in-Ok-false.result (λ v h. h ∙ ap (λ x. value names env x) c.get-in-Ok-false.ensures ∙ is ∙ ap (λ x. value names env x) (sym c.in-If.is)) c.value-in-Ok-false.ensures
