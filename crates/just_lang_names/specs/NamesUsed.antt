-- The names in an expression.
use Rattle.std.specs.Prelude.{List, [], ◌∷◌, ◌++◌, Option, Some, None}
use Rattle.just_lang_syntax.specs.declared.ast.Name.{Name}
use Rattle.just_lang_syntax.specs.declared.ast.Expr.{Expr}
use Rattle.just_lang_syntax.specs.declared.ast.Expr.TheOpen.{Expr-F}
use Rattle.just_lang_syntax.specs.declared.ast.Expr.TheFolds.{fold-Expr}

-- the names in an expression, by those of its parts
abbrev pub names_of_parts : Expr-F (List Name) → List Name
names_of_parts (Expr-F.If left comparison right consequent chained alternative) = left ++ (right ++ (consequent ++ alternative))
names_of_parts (Expr-F.Root inside) = inside
names_of_parts (Expr-F.Join first second) = first ++ second
names_of_parts (Expr-F.Concat first second) = first ++ second
names_of_parts (Expr-F.Literal x) = []
names_of_parts (Expr-F.Variable x) = x ∷ []
names_of_parts (Expr-F.Group inside) = inside
names_of_parts (Expr-F.Env line column key None) = key
names_of_parts (Expr-F.Env line column key (Some default)) = key ++ default

abbrev pub names_of_expr : Expr → List Name
names_of_expr = fold-Expr (List Name) names_of_parts
