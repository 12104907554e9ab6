-- What an expression uses, and where names are assigned.
use Rattle.std.specs.Prelude.{ℕ, suc, if◌then◌else◌, List, [], ◌∷◌, ◌++◌, map, Option, Some, None, bytes_eq}
use Rattle.std.specs.List.{filter_map}
use Rattle.just_lang_syntax.specs.declared.ast.Expr.{Expr}
use Rattle.just_lang_syntax.specs.declared.ast.Expr.TheOpen.{Expr-F}
use Rattle.just_lang_syntax.specs.declared.ast.Expr.TheFolds.{fold-Expr}
use Rattle.just_lang_types.specs.declared.scope.Assignment.{Assignment}
use Rattle.just_lang_spots.specs.Graph.{IsAcyclic}

abbrev pub or_nothing : {A : Type 0} → Option (List A) → List A
or_nothing None = []
or_nothing (Some xs) = xs

-- the names in an expression
abbrev pub names_step : Expr-F (List (List ℕ)) → List (List ℕ)
names_step (Expr-F.If left comparison right consequent chained alternative) = left ++ (right ++ (consequent ++ alternative))
names_step (Expr-F.Root inside) = inside
names_step (Expr-F.Join first second) = first ++ second
names_step (Expr-F.Concat first second) = first ++ second
names_step (Expr-F.Literal s) = []
names_step (Expr-F.Variable name) = name.text ∷ []
names_step (Expr-F.Group inside) = inside
names_step (Expr-F.Env line column key default) = key ++ or_nothing default

abbrev pub names_in : Expr → List (List ℕ)
names_in = fold-Expr (List (List ℕ)) names_step

-- the number of the first of these assignments that has the name, where they are numbered from n on
abbrev pub named_from : ℕ → List Assignment → List ℕ → Option ℕ
named_from n [] name = None
named_from n (a ∷ more) name = if bytes_eq a.name name then Some n else named_from (suc n) more name

-- the number of the assignment of a name
abbrev pub named : List Assignment → List ℕ → Option ℕ
named assignments name = named_from 0 assignments name

-- the numbers of the assignments that each assignment uses
abbrev pub uses : List Assignment → List (List ℕ)
uses assignments = map (λ a. filter_map (named assignments) (names_in a.value)) assignments

-- no variable leads to itself by those that its value uses
abbrev pub AreEnding : List Assignment → Type 0
AreEnding assignments = IsAcyclic (uses assignments)
