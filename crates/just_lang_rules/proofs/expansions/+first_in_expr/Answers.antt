-- The first string in an expression by those of its parts.
use Rattle.std.proofs.Common.{◌≡◌, List, Option, ap, ◌∙◌, sym}
use Rattle.std.specs.List.{flat_map}
use Rattle.just_lang_syntax.specs.declared.ast.Expr.{Expr}
use Rattle.just_lang_syntax.specs.declared.ast.Expr.TheVariants as v
use Rattle.just_lang_syntax.specs.declared.ast.StringLiteral.{StringLiteral}
use Rattle.just_lang_spots.specs.declared.spot.Spot.{Spot}
use Rattle.just_lang_spots.specs.Spots.{spot_where, first_spot}
use Rattle.just_lang_spots.specs.Places.{literal_spot}
use Rattle.just_lang_rules.specs.Literals.{literals_of_expr}
use Rattle.just_lang_rules.specs.Expansions.{cannot_expand}
use Rattle.just_lang_rules.proofs.Folds.{literals_if, literals_join, literals_concat, literals_env}
use Rattle.just_lang_rules.proofs.Parts.{given_two, given_four}
use Rattle.just_lang_rules.proofs.expansions.+first_in_expr.Goals as goal

pub returns-in_ok-alternative-in-If : goal.returns-in_ok-alternative-in-If
returns-in_ok-alternative-in-If g t c =
    let f : StringLiteral → List Spot = λ x. spot_where (cannot_expand (g.T.Texts.text_of c.args.texts.now) x) (literal_spot c.args.file x) in
    let a : c.in_ok-left-in-If.left ≡ first_spot (flat_map f (literals_of_expr c.in-If.left)) = c.in_ok-left-in-If.ensures ∙ ap (λ (y : Expr). first_spot (flat_map f (literals_of_expr y))) c.get.ensures in
    let b : c.in_ok-right-in-If.right ≡ first_spot (flat_map f (literals_of_expr c.in-If.right)) = c.in_ok-right-in-If.ensures ∙ ap (λ (y : Expr). first_spot (flat_map f (literals_of_expr y))) c.get-in-If.ensures in
    let d : c.in_ok-consequent-in-If.consequent ≡ first_spot (flat_map f (literals_of_expr c.in-If.consequent)) = c.in_ok-consequent-in-If.ensures ∙ ap (λ (y : Expr). first_spot (flat_map f (literals_of_expr y))) c.get-in-If-2.ensures in
    let e : c.in_ok-alternative-in-If.alternative ≡ first_spot (flat_map f (literals_of_expr c.in-If.alternative)) = c.in_ok-alternative-in-If.ensures ∙ ap (λ (y : Expr). first_spot (flat_map f (literals_of_expr y))) c.get-in-If-3.ensures in
    given_four f (literals_of_expr c.in-If.left) (literals_of_expr c.in-If.right) (literals_of_expr c.in-If.consequent) (literals_of_expr c.in-If.alternative)
    c.in_ok-left-in-If.left c.in_ok-right-in-If.right c.in_ok-consequent-in-If.consequent c.in_ok-alternative-in-If.alternative c.earlier-blocks.result c.earlier-behind.result c.earlier.result
    c.earlier-blocks.ensures c.earlier-behind.ensures c.earlier.ensures a b d e
    ∙ ap (λ (xs : List StringLiteral). first_spot (flat_map f xs)) (sym (literals_if c.in-If.left c.in-If.comparison c.in-If.right c.in-If.consequent c.in-If.chained c.in-If.alternative)) ∙ ap (λ (x : Expr). first_spot (flat_map f (literals_of_expr x))) (sym c.in-If.is)

pub returns-in_ok-second-in-Join : goal.returns-in_ok-second-in-Join
returns-in_ok-second-in-Join g t c =
    let f : StringLiteral → List Spot = λ x. spot_where (cannot_expand (g.T.Texts.text_of c.args.texts.now) x) (literal_spot c.args.file x) in
    let a : c.in_ok-first-in-Join.first ≡ first_spot (flat_map f (literals_of_expr c.in-Join.first)) = c.in_ok-first-in-Join.ensures ∙ ap (λ (y : Expr). first_spot (flat_map f (literals_of_expr y))) c.get-in-Join.ensures in
    let b : c.in_ok-second-in-Join.second ≡ first_spot (flat_map f (literals_of_expr c.in-Join.second)) = c.in_ok-second-in-Join.ensures ∙ ap (λ (y : Expr). first_spot (flat_map f (literals_of_expr y))) c.get-in-Join-2.ensures in
    given_two f (literals_of_expr c.in-Join.first) (literals_of_expr c.in-Join.second) c.in_ok-first-in-Join.first c.in_ok-second-in-Join.second c.earlier-in-Join.result c.earlier-in-Join.ensures a b
    ∙ ap (λ (xs : List StringLiteral). first_spot (flat_map f xs)) (sym (literals_join c.in-Join.first c.in-Join.second)) ∙ ap (λ (x : Expr). first_spot (flat_map f (literals_of_expr x))) (sym c.in-Join.is)

pub returns-in_ok-second-in-Concat : goal.returns-in_ok-second-in-Concat
returns-in_ok-second-in-Concat g t c =
    let f : StringLiteral → List Spot = λ x. spot_where (cannot_expand (g.T.Texts.text_of c.args.texts.now) x) (literal_spot c.args.file x) in
    let a : c.in_ok-first-in-Concat.first ≡ first_spot (flat_map f (literals_of_expr c.in-Concat.first)) = c.in_ok-first-in-Concat.ensures ∙ ap (λ (y : Expr). first_spot (flat_map f (literals_of_expr y))) c.get-in-Concat.ensures in
    let b : c.in_ok-second-in-Concat.second ≡ first_spot (flat_map f (literals_of_expr c.in-Concat.second)) = c.in_ok-second-in-Concat.ensures ∙ ap (λ (y : Expr). first_spot (flat_map f (literals_of_expr y))) c.get-in-Concat-2.ensures in
    given_two f (literals_of_expr c.in-Concat.first) (literals_of_expr c.in-Concat.second) c.in_ok-first-in-Concat.first c.in_ok-second-in-Concat.second c.earlier-in-Concat.result c.earlier-in-Concat.ensures a b
    ∙ ap (λ (xs : List StringLiteral). first_spot (flat_map f xs)) (sym (literals_concat c.in-Concat.first c.in-Concat.second)) ∙ ap (λ (x : Expr). first_spot (flat_map f (literals_of_expr x))) (sym c.in-Concat.is)

pub returns-in_ok-default-in-Some : goal.returns-in_ok-default-in-Some
returns-in_ok-default-in-Some g t c =
    let f : StringLiteral → List Spot = λ x. spot_where (cannot_expand (g.T.Texts.text_of c.args.texts.now) x) (literal_spot c.args.file x) in
    let a : c.in_ok-key-in-Env.key ≡ first_spot (flat_map f (literals_of_expr c.in-Env.key)) = c.in_ok-key-in-Env.ensures ∙ ap (λ (y : Expr). first_spot (flat_map f (literals_of_expr y))) c.get-in-Env.ensures in
    let b : c.in_ok-default-in-Some.default ≡ first_spot (flat_map f (literals_of_expr c.in-Some.default)) = c.in_ok-default-in-Some.ensures ∙ ap (λ (y : Expr). first_spot (flat_map f (literals_of_expr y))) c.get-in-Some.ensures in
    given_two f (literals_of_expr c.in-Env.key) (literals_of_expr c.in-Some.default) c.in_ok-key-in-Env.key c.in_ok-default-in-Some.default c.earlier-in-Some.result c.earlier-in-Some.ensures a b
    ∙ ap (λ (xs : List StringLiteral). first_spot (flat_map f xs)) (sym (literals_env c.in-Env.line c.in-Env.column c.in-Env.key c.in-Some.default))
    ∙ ap (λ (x : Expr). first_spot (flat_map f (literals_of_expr x))) (sym (c.in-Env.is ∙ ap (λ (o : Option Expr). v.Env c.in-Env.line c.in-Env.column c.in-Env.key o) c.in-Some.is))
