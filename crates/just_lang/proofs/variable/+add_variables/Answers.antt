-- The variables that an expression names are those that its parts name.
use Rattle.std.proofs.Common.{◌≡◌, ◌++◌, ◌∙◌, List, Option, ap, subst, sym}
use Rattle.just_lang_syntax.specs.declared.ast.Expr.{Expr}
use Rattle.just_lang_syntax.specs.declared.ast.Expr.TheVariants as v
use Rattle.just_lang_syntax.specs.declared.ast.Name.{Name}
use Rattle.just_lang_names.specs.NamesUsed.{names_of_expr}
use Rattle.just_lang.specs.CycleTables.{places_in}
use Rattle.just_lang_names.proofs.ScopeLaws.{names_if, names_join, names_concat, names_env}
use Rattle.just_lang.proofs.CycleNames.{adds_two, adds_four, on_ok}
use Rattle.just_lang.proofs.variable.+add_variables.Goals as goal

pub returns-in_ok-add_variables-in-If-3 : goal.returns-in_ok-add_variables-in-If-3
returns-in_ok-add_variables-in-If-3 t c =
    let index = c.args.index.now in
    let old = c.args.places.now.items in
    let p = c.add_variables.new.places.items in
    let q = c.add_variables-in-If.new.places.items in
    let r = c.add_variables-in-If-2.new.places.items in
    let s = c.add_variables-in-If-3.new.places.items in
    let a : p ≡ old ++ places_in index (names_of_expr c.in-If.left) = c.in_ok-add_variables-in-If.ensures ∙ ap (λ (x : Expr). old ++ places_in index (names_of_expr x)) c.get.ensures in
    let b : q ≡ p ++ places_in index (names_of_expr c.in-If.right) = c.in_ok-add_variables-in-If-2.ensures ∙ ap (λ (x : Expr). p ++ places_in index (names_of_expr x)) c.get-in-If.ensures in
    let d : r ≡ q ++ places_in index (names_of_expr c.in-If.consequent) = c.in_ok-add_variables-in-If-3.ensures ∙ ap (λ (x : Expr). q ++ places_in index (names_of_expr x)) c.get-in-If-2.ensures in
    let more : Expr → Type 0 = λ x. s ≡ r ++ places_in index (names_of_expr x) in
    on_ok (more c.get-in-If-3.result.now) (s ≡ old ++ places_in index (names_of_expr c.args.expr.now)) c.add_variables-in-If-3.result
    (λ h. adds_four index (names_of_expr c.in-If.left) (names_of_expr c.in-If.right) (names_of_expr c.in-If.consequent) (names_of_expr c.in-If.alternative) old p q r s a b d (subst more c.get-in-If-3.ensures h)
    ∙ ap (λ (xs : List Name). old ++ places_in index xs) (sym (names_if c.in-If.left c.in-If.comparison c.in-If.right c.in-If.consequent c.in-If.chained c.in-If.alternative))
    ∙ ap (λ (x : Expr). old ++ places_in index (names_of_expr x)) (sym c.in-If.is)) c.add_variables-in-If-3.ensures

pub returns-in_ok-add_variables-in-Join : goal.returns-in_ok-add_variables-in-Join
returns-in_ok-add_variables-in-Join t c =
    let index = c.args.index.now in
    let old = c.args.places.now.items in
    let p = c.add_variables-in-Join.new.places.items in
    let q = c.add_variables-in-Join-2.new.places.items in
    let a : p ≡ old ++ places_in index (names_of_expr c.in-Join.first) = c.in_ok-add_variables-in-Join.ensures ∙ ap (λ (x : Expr). old ++ places_in index (names_of_expr x)) c.get-in-Join.ensures in
    let more : Expr → Type 0 = λ x. q ≡ p ++ places_in index (names_of_expr x) in
    on_ok (more c.get-in-Join-2.result.now) (q ≡ old ++ places_in index (names_of_expr c.args.expr.now)) c.add_variables-in-Join-2.result
    (λ h. adds_two index (names_of_expr c.in-Join.first) (names_of_expr c.in-Join.second) old p q a (subst more c.get-in-Join-2.ensures h)
    ∙ ap (λ (xs : List Name). old ++ places_in index xs) (sym (names_join c.in-Join.first c.in-Join.second))
    ∙ ap (λ (x : Expr). old ++ places_in index (names_of_expr x)) (sym c.in-Join.is)) c.add_variables-in-Join-2.ensures

pub returns-in_ok-add_variables-in-Concat : goal.returns-in_ok-add_variables-in-Concat
returns-in_ok-add_variables-in-Concat t c =
    let index = c.args.index.now in
    let old = c.args.places.now.items in
    let p = c.add_variables-in-Concat.new.places.items in
    let q = c.add_variables-in-Concat-2.new.places.items in
    let a : p ≡ old ++ places_in index (names_of_expr c.in-Concat.first) = c.in_ok-add_variables-in-Concat.ensures ∙ ap (λ (x : Expr). old ++ places_in index (names_of_expr x)) c.get-in-Concat.ensures in
    let more : Expr → Type 0 = λ x. q ≡ p ++ places_in index (names_of_expr x) in
    on_ok (more c.get-in-Concat-2.result.now) (q ≡ old ++ places_in index (names_of_expr c.args.expr.now)) c.add_variables-in-Concat-2.result
    (λ h. adds_two index (names_of_expr c.in-Concat.first) (names_of_expr c.in-Concat.second) old p q a (subst more c.get-in-Concat-2.ensures h)
    ∙ ap (λ (xs : List Name). old ++ places_in index xs) (sym (names_concat c.in-Concat.first c.in-Concat.second))
    ∙ ap (λ (x : Expr). old ++ places_in index (names_of_expr x)) (sym c.in-Concat.is)) c.add_variables-in-Concat-2.ensures

pub returns-in-Some : goal.returns-in-Some
returns-in-Some t c =
    let index = c.args.index.now in
    let old = c.args.places.now.items in
    let p = c.add_variables-in-Env.new.places.items in
    let q = c.add_variables-in-Some.new.places.items in
    let a : p ≡ old ++ places_in index (names_of_expr c.in-Env.key) = c.in_ok-add_variables-in-Env.ensures ∙ ap (λ (x : Expr). old ++ places_in index (names_of_expr x)) c.get-in-Env.ensures in
    let more : Expr → Type 0 = λ x. q ≡ p ++ places_in index (names_of_expr x) in
    on_ok (more c.get-in-Some.result.now) (q ≡ old ++ places_in index (names_of_expr c.args.expr.now)) c.add_variables-in-Some.result
    (λ h. adds_two index (names_of_expr c.in-Env.key) (names_of_expr c.in-Some.default) old p q a (subst more c.get-in-Some.ensures h)
    ∙ ap (λ (xs : List Name). old ++ places_in index xs) (sym (names_env c.in-Env.line c.in-Env.column c.in-Env.key c.in-Some.default))
    ∙ ap (λ (x : Expr). old ++ places_in index (names_of_expr x)) (sym (c.in-Env.is ∙ ap (λ (o : Option Expr). v.Env c.in-Env.line c.in-Env.column c.in-Env.key o) c.in-Some.is))) c.add_variables-in-Some.ensures
