-- An expression by those inside it.
use Rattle.std.proofs.Common.{Option, ap, ◌∙◌}
use Rattle.just_lang_syntax.specs.declared.ast.Expr.{Expr}
use Rattle.just_lang_syntax.specs.declared.ast.Expr.TheVariants as v
use Rattle.just_lang_shapes.proofs.ExpandedExprs.{if_of, join_of, concat_of, env_of}
use Rattle.just_lang_shapes.proofs.expansions.+expanding.Goals as goal

pub expanded_expr-returns-in_ok-alternative-in-If : goal.expanded_expr-returns-in_ok-alternative-in-If
expanded_expr-returns-in_ok-alternative-in-If g t c =
    if_of (g.T.Texts.text_of c.args.texts.now) c.args.expr.now c.in-If.left c.in-If.right c.in-If.consequent c.in-If.alternative c.in-If.comparison c.in-If.chained
    c.in_ok-left-in-If.left c.in_ok-right-in-If.right c.in_ok-consequent-in-If.consequent c.in_ok-alternative-in-If.alternative
    c.in-If.is c.in_ok-left-in-If.ensures c.in_ok-right-in-If.ensures c.in_ok-consequent-in-If.ensures c.in_ok-alternative-in-If.ensures

pub expanded_expr-returns-in_ok-second-in-Join : goal.expanded_expr-returns-in_ok-second-in-Join
expanded_expr-returns-in_ok-second-in-Join g t c =
    join_of (g.T.Texts.text_of c.args.texts.now) c.args.expr.now c.in-Join.first c.in-Join.second c.in_ok-first-in-Join.first c.in_ok-second-in-Join.second
    c.in-Join.is c.in_ok-first-in-Join.ensures c.in_ok-second-in-Join.ensures

pub expanded_expr-returns-in_ok-second-in-Concat : goal.expanded_expr-returns-in_ok-second-in-Concat
expanded_expr-returns-in_ok-second-in-Concat g t c =
    concat_of (g.T.Texts.text_of c.args.texts.now) c.args.expr.now c.in-Concat.first c.in-Concat.second c.in_ok-first-in-Concat.first c.in_ok-second-in-Concat.second
    c.in-Concat.is c.in_ok-first-in-Concat.ensures c.in_ok-second-in-Concat.ensures

pub expanded_expr-returns-in_ok-default-in-Some : goal.expanded_expr-returns-in_ok-default-in-Some
expanded_expr-returns-in_ok-default-in-Some g t c =
    env_of (g.T.Texts.text_of c.args.texts.now) c.args.expr.now c.in-Env.line c.in-Env.column c.in-Env.key c.in-Some.default c.in_ok-key-in-Env.key c.in_ok-default-in-Some.default
    (c.in-Env.is ∙ ap (λ (o : Option Expr). v.Env c.in-Env.line c.in-Env.column c.in-Env.key o) c.in-Some.is) c.in_ok-key-in-Env.ensures c.in_ok-default-in-Some.ensures
