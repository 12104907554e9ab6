-- Recipe lines: what the grammar says is read, so it is one.
use Rattle.std.proofs.Common.{◌≡◌, true, false, List, [], Option, Ok, codes, refl, sym, ◌∙◌}
use Rattle.just_lang_read.specs.Place.{Place, AreMany, starts, begins}
use Rattle.just_lang_read.specs.Reader.{pure}
use Rattle.just_lang_read.proofs.Laws.{many_again, ok_value, ok_place}
use Rattle.just_lang_syntax.specs.declared.ast.Name.{Name}
use Rattle.just_lang_syntax.specs.declared.ast.Expr.{Expr}
use Rattle.just_lang_syntax.specs.declared.ast.Attribute.{Attribute}
use Rattle.just_lang_syntax.specs.declared.ast.ParameterKind.{ParameterKind}
use Rattle.just_lang_syntax.specs.declared.ast.ParameterKind.TheVariants.{Singular, Plus, Star}
use Rattle.just_lang_syntax.specs.declared.ast.AstParameter.{AstParameter}
use Rattle.just_lang_syntax.specs.declared.ast.AstDependency.{AstDependency}
use Rattle.just_lang_syntax.specs.declared.ast.AstRecipe.{AstRecipe}
use Rattle.just_lang_read.specs.Characters.{begins_name}
use Rattle.just_lang_syntax.specs.Places.{IsPath}
use Rattle.just_lang_syntax.specs.Places.IsPath.{names}
use Rattle.just_lang_syntax.specs.Exprs.{IsInner}
use Rattle.just_lang_syntax.specs.Recipes.{begins_parameter, begins_dependency, IsDefault, IsParameter, IsSingular, IsVariadic, AreParameters, IsDependencyValue, IsDependency, AreDependencies, AreSubsequents, IsRecipeLine}
use Rattle.just_lang_syntax.specs.Recipes.IsDefault.{default, without}
use Rattle.just_lang_syntax.specs.Recipes.IsParameter.{parameter}
use Rattle.just_lang_syntax.specs.Recipes.IsVariadic.{star, plus, none as no_variadic}
use Rattle.just_lang_syntax.specs.Recipes.AreParameters.{parameters}
use Rattle.just_lang_syntax.specs.Recipes.IsDependency.{bare, grouped}
use Rattle.just_lang_syntax.specs.Recipes.AreDependencies.{dependencies}
use Rattle.just_lang_syntax.specs.Recipes.AreSubsequents.{none as no_subsequents, some as some_subsequents}
use Rattle.just_lang_syntax.specs.Recipes.IsRecipeLine.{line}
use Rattle.just_lang_syntax.specs.Readers as reader
use Rattle.just_lang_syntax.specs.ItemReaders as item
use Rattle.just_lang_read.proofs.Laws.{begins_first, begins_other, starts_other}
use Rattle.just_lang_syntax.proofs.Tokens.{token_again, name_again}
use Rattle.just_lang_syntax.proofs.LineLaws.{maybe_again, path_again, rest_again}
use Rattle.just_lang_syntax.proofs.ExprComplete.{value_again, inner_again, expr_again}
use Rattle.just_lang_syntax.proofs.Loops.{values_shorter, parameters_shorter, dependencies_shorter}

-- ---- parameters

-- the default of a parameter
pub parameter_default_again : (p q : Place) (x : Option Expr) → IsDefault p q x → item.parameter_default p ≡ Ok (x, q)
unfolding item.parameter_default
parameter_default_again p q x (default m y t v z) =
    rw (t.0, token_again (codes "=") p m t, value_again (reader.inner 256) (IsInner 256) (inner_again 256) m q y v, z) refl
parameter_default_again p q x (without n e z) = rw (n, e, z) refl

-- a parameter behind the sign of its kind
pub parameter_again : (kind : ParameterKind) (p q : Place) (x : AstParameter) → IsParameter kind p q x → item.parameter kind p ≡ Ok (x, q)
unfolding item.parameter
parameter_again kind p q x (parameter m n export name d b i v z) =
    rw (maybe_again (codes "$") p m export b, name_again m n name i, parameter_default_again n q d v, z) refl

-- the last parameter, which takes several values
pub variadic_again : (p q : Place) (x : Option AstParameter) → IsVariadic p q x → item.variadic p ≡ Ok (x, q)
unfolding item.variadic
variadic_again p q x (star m y t i z) = rw (t.0, token_again (codes "*") p m t, parameter_again Star m q y i, z) refl
variadic_again p q x (plus m y t i z) =
    rw (begins_other 43 42 [] p (begins_first 43 [] p t.0) refl, t.0, token_again (codes "+") p m t, parameter_again Plus m q y i, z) refl
variadic_again p q x (no_variadic n o e z) = rw (n, o, e, z) refl

-- the parameters that take one value
pub singular_again : (p q : Place) (xs : List AstParameter) → AreMany IsSingular p q xs → begins_parameter q ≡ false → item.singular p ≡ Ok (xs, q)
unfolding item.singular
singular_again p q xs are done =
    many_again begins_parameter (item.parameter Singular) parameters_shorter IsSingular (λ a b x i. (i.0, parameter_again Singular a b x i.1)) p q xs are done

-- all parameters
pub parameters_again : (p q : Place) (xs : List AstParameter) → AreParameters p q xs → item.parameters p ≡ Ok (xs, q)
unfolding item.parameters
parameters_again p q xs (parameters m ys last are done v z) = rw (singular_again p m ys are done, variadic_again m q last v, z) refl

-- ---- dependencies

-- the arguments of a dependency
pub dependency_values_again : (p q : Place) (xs : List Expr) → AreMany IsDependencyValue p q xs → begins (codes ")") q ≡ true → item.dependency_values p ≡ Ok (xs, q)
unfolding item.dependency_values
dependency_values_again p q xs are done =
    many_again item.is_open item.expr values_shorter IsDependencyValue (λ a b x i. (rw (i.0) refl, expr_again a b x i.1)) p q xs are (rw done refl)

-- a path begins with a name
path_begins : (p q : Place) (xs : List Name) → IsPath p q xs → starts begins_name p ≡ true
path_begins p q xs (names m first others n are done z) = n.0

-- a dependency
pub dependency_again : (p q : Place) (x : AstDependency) → IsDependency p q x → item.dependency p ≡ Ok (x, q)
unfolding item.dependency
dependency_again p q x (bare ns i z) = rw (starts_other begins_name 40 [] p (path_begins p q ns i) refl, path_again p q ns i, z) refl
dependency_again p q x (grouped m n o ns xs t i are u z) =
    rw (t.0, token_again (codes "(") p m t, path_again m n ns i, dependency_values_again n o xs are (u.0), token_again (codes ")") o q u, z) refl

-- where a dependency stands one begins
pub dependency_begins : (p q : Place) (x : AstDependency) → IsDependency p q x → begins_dependency p ≡ true
dependency_begins p q x (bare ns i z) = rw (starts_other begins_name 40 [] p (path_begins p q ns i) refl, path_begins p q ns i) refl
dependency_begins p q x (grouped m n o ns xs t i are u z) = rw (t.0) refl

-- dependencies, as long as one begins
pub dependencies_again : (p q : Place) (xs : List AstDependency) → AreDependencies p q xs → item.dependencies p ≡ Ok (xs, q)
unfolding item.dependencies
dependencies_again p q xs (dependencies are done) =
    many_again begins_dependency item.dependency dependencies_shorter IsDependency (λ a b x i. (dependency_begins a b x i, dependency_again a b x i)) p q xs are done

-- `&&` and dependencies, or nothing
pub subsequents_again : (p q : Place) (xs : List AstDependency) → AreSubsequents p q xs → item.subsequents p ≡ Ok (xs, q)
unfolding item.subsequents
subsequents_again p q xs (no_subsequents n e z) = rw (n, e, z) refl
subsequents_again p q xs (some_subsequents m t b i) = rw (t.0, token_again (codes "&&") p m t, b) (dependencies_again m q xs i)

-- ---- the line

-- the line of a recipe
pub recipe_line_again : (attributes : List Attribute) (p q : Place) (x : AstRecipe) → IsRecipeLine attributes p q x → item.recipe_line attributes p ≡ Ok (x, q)
unfolding item.recipe_line
recipe_line_again attributes p q x (line m n o r s t quiet name ps a b c k i j u d g l z) =
    rw (
      maybe_again (codes "@") p m quiet k,
      name_again m n name i,
      parameters_again n o ps j,
      token_again (codes ":") o r u,
      dependencies_again r s a d,
      subsequents_again s t b g,
      rest_again t q c l,
      z,
    ) refl

-- so one line stands there, and ends at one place
pub recipe_line_one : (attributes : List Attribute) (p q r : Place) (x y : AstRecipe) → IsRecipeLine attributes p q x → IsRecipeLine attributes p r y
    → (x ≡ y) × (q ≡ r)
recipe_line_one attributes p q r x y i j =
    let e : pure x q ≡ Ok (y, r) = sym (recipe_line_again attributes p q x i) ∙ recipe_line_again attributes p r y j in
    (ok_value x y q r e, ok_place x y q r e)
