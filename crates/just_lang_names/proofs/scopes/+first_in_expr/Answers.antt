-- The first name in an expression that isn't known, by those of its parts.
use Rattle.std.proofs.Common.{◌≡◌, List, Option, ap, ◌∙◌, sym}
use Rattle.std.specs.List.{flat_map}
use Rattle.just_lang_syntax.specs.declared.ast.Expr.{Expr}
use Rattle.just_lang_syntax.specs.declared.ast.Expr.TheVariants as v
use Rattle.just_lang_syntax.specs.declared.ast.Name.{Name}
use Rattle.just_lang_spots.specs.declared.spot.Spot.{Spot}
use Rattle.just_lang_spots.specs.Spots.{first_spot}
use Rattle.just_lang_rules.proofs.Parts.{given_two, given_four}
use Rattle.just_lang_names.specs.NamesUsed.{names_of_expr}
use Rattle.just_lang_names.specs.Scopes.{scope_of}
use Rattle.just_lang_names.specs.ScopeSpots.{unknown_name}
use Rattle.just_lang_names.proofs.ScopeLaws.{names_if, names_join, names_concat, names_env}
use Rattle.just_lang_names.proofs.scopes.+first_in_expr.Goals as goal

pub returns-in-If : goal.returns-in-If
returns-in-If t c =
    let f : Name → List Spot = unknown_name (scope_of c.args.scope.now) c.args.file in
    let a : c.first_in_expr-left.result ≡ first_spot (flat_map f (names_of_expr c.in-If.left)) = c.first_in_expr-left.ensures ∙ ap (λ (y : Expr). first_spot (flat_map f (names_of_expr y))) c.get.ensures in
    let b : c.first_in_expr-right.result ≡ first_spot (flat_map f (names_of_expr c.in-If.right)) = c.first_in_expr-right.ensures ∙ ap (λ (y : Expr). first_spot (flat_map f (names_of_expr y))) c.get-in-If.ensures in
    let d : c.first_in_expr-consequent.result ≡ first_spot (flat_map f (names_of_expr c.in-If.consequent)) = c.first_in_expr-consequent.ensures ∙ ap (λ (y : Expr). first_spot (flat_map f (names_of_expr y))) c.get-in-If-2.ensures in
    let e : c.first_in_expr-alternative.result ≡ first_spot (flat_map f (names_of_expr c.in-If.alternative)) = c.first_in_expr-alternative.ensures ∙ ap (λ (y : Expr). first_spot (flat_map f (names_of_expr y))) c.get-in-If-3.ensures in
    given_four f (names_of_expr c.in-If.left) (names_of_expr c.in-If.right) (names_of_expr c.in-If.consequent) (names_of_expr c.in-If.alternative)
    c.first_in_expr-left.result c.first_in_expr-right.result c.first_in_expr-consequent.result c.first_in_expr-alternative.result c.earlier-blocks.result c.earlier-behind.result c.earlier.result
    c.earlier-blocks.ensures c.earlier-behind.ensures c.earlier.ensures a b d e
    ∙ ap (λ (xs : List Name). first_spot (flat_map f xs)) (sym (names_if c.in-If.left c.in-If.comparison c.in-If.right c.in-If.consequent c.in-If.chained c.in-If.alternative)) ∙ ap (λ (x : Expr). first_spot (flat_map f (names_of_expr x))) (sym c.in-If.is)

pub returns-in-Join : goal.returns-in-Join
returns-in-Join t c =
    let f : Name → List Spot = unknown_name (scope_of c.args.scope.now) c.args.file in
    let a : c.first_in_expr-first.result ≡ first_spot (flat_map f (names_of_expr c.in-Join.first)) = c.first_in_expr-first.ensures ∙ ap (λ (y : Expr). first_spot (flat_map f (names_of_expr y))) c.get-in-Join.ensures in
    let b : c.first_in_expr-second.result ≡ first_spot (flat_map f (names_of_expr c.in-Join.second)) = c.first_in_expr-second.ensures ∙ ap (λ (y : Expr). first_spot (flat_map f (names_of_expr y))) c.get-in-Join-2.ensures in
    given_two f (names_of_expr c.in-Join.first) (names_of_expr c.in-Join.second) c.first_in_expr-first.result c.first_in_expr-second.result c.earlier-in-Join.result c.earlier-in-Join.ensures a b
    ∙ ap (λ (xs : List Name). first_spot (flat_map f xs)) (sym (names_join c.in-Join.first c.in-Join.second)) ∙ ap (λ (x : Expr). first_spot (flat_map f (names_of_expr x))) (sym c.in-Join.is)

pub returns-in-Concat : goal.returns-in-Concat
returns-in-Concat t c =
    let f : Name → List Spot = unknown_name (scope_of c.args.scope.now) c.args.file in
    let a : c.first_in_expr-first-in-Concat.result ≡ first_spot (flat_map f (names_of_expr c.in-Concat.first)) = c.first_in_expr-first-in-Concat.ensures ∙ ap (λ (y : Expr). first_spot (flat_map f (names_of_expr y))) c.get-in-Concat.ensures in
    let b : c.first_in_expr-second-in-Concat.result ≡ first_spot (flat_map f (names_of_expr c.in-Concat.second)) = c.first_in_expr-second-in-Concat.ensures ∙ ap (λ (y : Expr). first_spot (flat_map f (names_of_expr y))) c.get-in-Concat-2.ensures in
    given_two f (names_of_expr c.in-Concat.first) (names_of_expr c.in-Concat.second) c.first_in_expr-first-in-Concat.result c.first_in_expr-second-in-Concat.result c.earlier-in-Concat.result c.earlier-in-Concat.ensures a b
    ∙ ap (λ (xs : List Name). first_spot (flat_map f xs)) (sym (names_concat c.in-Concat.first c.in-Concat.second)) ∙ ap (λ (x : Expr). first_spot (flat_map f (names_of_expr x))) (sym c.in-Concat.is)

pub returns-in-Some : goal.returns-in-Some
returns-in-Some t c =
    let f : Name → List Spot = unknown_name (scope_of c.args.scope.now) c.args.file in
    let a : c.first_in_expr-key.result ≡ first_spot (flat_map f (names_of_expr c.in-Env.key)) = c.first_in_expr-key.ensures ∙ ap (λ (y : Expr). first_spot (flat_map f (names_of_expr y))) c.get-in-Env.ensures in
    let b : c.first_in_expr-default.result ≡ first_spot (flat_map f (names_of_expr c.in-Some.default)) = c.first_in_expr-default.ensures ∙ ap (λ (y : Expr). first_spot (flat_map f (names_of_expr y))) c.get-in-Some.ensures in
    given_two f (names_of_expr c.in-Env.key) (names_of_expr c.in-Some.default) c.first_in_expr-key.result c.first_in_expr-default.result c.earlier-in-Some.result c.earlier-in-Some.ensures a b
    ∙ ap (λ (xs : List Name). first_spot (flat_map f xs)) (sym (names_env c.in-Env.line c.in-Env.column c.in-Env.key c.in-Some.default))
    ∙ ap (λ (x : Expr). first_spot (flat_map f (names_of_expr x))) (sym (c.in-Env.is ∙ ap (λ (o : Option Expr). v.Env c.in-Env.line c.in-Env.column c.in-Env.key o) c.in-Some.is))
