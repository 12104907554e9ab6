-- The loops over parameters, dependencies, their values and fragments.
use Rattle.std.proofs.Common.{◌≡◌, ◌<◌, true, false, List, [], ◌∷◌, ◌++◌, length, Ok, Err, refl}
use Rattle.just_lang_read.specs.Place.{Place}
use Rattle.just_lang_read.specs.Reader.{Outcome, Reader, and_then, pure, many}
use Rattle.just_lang_read.specs.declared.error.ReadError.{ReadError}
use Rattle.just_lang_syntax.specs.declared.ast.Expr.{Expr}
use Rattle.just_lang_syntax.specs.declared.ast.ParameterKind.TheVariants.{Singular}
use Rattle.just_lang_syntax.specs.declared.ast.AstParameter.{AstParameter}
use Rattle.just_lang_syntax.specs.declared.ast.AstDependency.{AstDependency}
use Rattle.just_lang_syntax.specs.declared.ast.Fragment.{Fragment}
use Rattle.just_lang_syntax.specs.Recipes.{begins_parameter, begins_dependency}
use Rattle.just_lang_syntax.specs.ItemReaders as item
use Rattle.just_lang_syntax.proofs.Collect.{to_come, more_is, end_is, wrong_is}
use Rattle.just_lang_syntax.proofs.Shorter.{expr_shorter, parameter_lt, dependency_lt, fragment_lt}

-- where nothing was found, all is still to come
begins_with : {A : Type 0} (o : Outcome (List A)) → o ≡ and_then o (λ xs. pure ([] ++ xs))
begins_with (Ok s) = refl
begins_with (Err e) = refl

-- ---- expressions up to a closing parenthesis

-- an argument of a dependency takes a character
pub values_shorter : (p q : Place) (x : Expr) → item.is_open p ≡ true → item.expr p ≡ Ok (x, q) → length q.rest < length p.rest
values_shorter p q x m h = expr_shorter p q x h

-- the arguments that were found, and those to come
unfoldable pub values_to_come : List Expr → Reader (List Expr)
values_to_come found = to_come item.is_open item.expr found

-- before the first argument none was found
pub values_begin : (p : Place) → item.dependency_values p ≡ values_to_come [] p
unfolding item.dependency_values values_to_come to_come
values_begin p = begins_with (many item.is_open item.expr p)

-- a further argument is one that was found
pub values_more : (p q : Place) (x : Expr) (found : List Expr) → item.is_open p ≡ true → item.expr p ≡ Ok (x, q) → values_to_come found p ≡ values_to_come (found ++ x ∷ []) q
unfolding values_to_come
values_more p q x found m o = more_is item.is_open item.expr values_shorter p q x found m o

-- where the parenthesis closes, all were found
pub values_done : (p : Place) (found : List Expr) → item.is_open p ≡ false → values_to_come found p ≡ Ok (found, p)
unfolding values_to_come
values_done p found m = end_is item.is_open item.expr values_shorter p found m

-- where one isn't read, the arguments are refused as it is
pub values_wrong : (p : Place) (found : List Expr) (e : ReadError) → item.is_open p ≡ true → item.expr p ≡ Err e → values_to_come found p ≡ Err e
unfolding values_to_come
values_wrong p found e m o = wrong_is item.is_open item.expr values_shorter p found e m o

-- ---- parameters that take one value

-- a parameter takes a character
pub parameters_shorter : (p q : Place) (x : AstParameter) → begins_parameter p ≡ true → item.parameter Singular p ≡ Ok (x, q) → length q.rest < length p.rest
parameters_shorter p q x m h = parameter_lt Singular p q x h

-- the parameters that were found, and those to come
unfoldable pub parameters_to_come : List AstParameter → Reader (List AstParameter)
parameters_to_come found = to_come begins_parameter (item.parameter Singular) found

-- before the first parameter none was found
pub parameters_begin : (p : Place) → item.singular p ≡ parameters_to_come [] p
unfolding item.singular parameters_to_come to_come
parameters_begin p = begins_with (many begins_parameter (item.parameter Singular) p)

-- a further parameter is one that was found
pub parameters_more : (p q : Place) (x : AstParameter) (found : List AstParameter) → begins_parameter p ≡ true → item.parameter Singular p ≡ Ok (x, q) → parameters_to_come found p ≡ parameters_to_come (found ++ x ∷ []) q
unfolding parameters_to_come
parameters_more p q x found m o = more_is begins_parameter (item.parameter Singular) parameters_shorter p q x found m o

-- where no further one begins, all were found
pub parameters_done : (p : Place) (found : List AstParameter) → begins_parameter p ≡ false → parameters_to_come found p ≡ Ok (found, p)
unfolding parameters_to_come
parameters_done p found m = end_is begins_parameter (item.parameter Singular) parameters_shorter p found m

-- where one isn't read, the parameters are refused as it is
pub parameters_wrong : (p : Place) (found : List AstParameter) (e : ReadError) → begins_parameter p ≡ true → item.parameter Singular p ≡ Err e → parameters_to_come found p ≡ Err e
unfolding parameters_to_come
parameters_wrong p found e m o = wrong_is begins_parameter (item.parameter Singular) parameters_shorter p found e m o

-- ---- dependencies

-- a dependency takes a character
pub dependencies_shorter : (p q : Place) (x : AstDependency) → begins_dependency p ≡ true → item.dependency p ≡ Ok (x, q) → length q.rest < length p.rest
dependencies_shorter p q x m h = dependency_lt p q x h

-- the dependencies that were found, and those to come
unfoldable pub dependencies_to_come : List AstDependency → Reader (List AstDependency)
dependencies_to_come found = to_come begins_dependency item.dependency found

-- before the first dependency none was found
pub dependencies_begin : (p : Place) → item.dependencies p ≡ dependencies_to_come [] p
unfolding item.dependencies dependencies_to_come to_come
dependencies_begin p = begins_with (many begins_dependency item.dependency p)

-- a further dependency is one that was found
pub dependencies_more : (p q : Place) (x : AstDependency) (found : List AstDependency) → begins_dependency p ≡ true → item.dependency p ≡ Ok (x, q) → dependencies_to_come found p ≡ dependencies_to_come (found ++ x ∷ []) q
unfolding dependencies_to_come
dependencies_more p q x found m o = more_is begins_dependency item.dependency dependencies_shorter p q x found m o

-- where no further one begins, all were found
pub dependencies_done : (p : Place) (found : List AstDependency) → begins_dependency p ≡ false → dependencies_to_come found p ≡ Ok (found, p)
unfolding dependencies_to_come
dependencies_done p found m = end_is begins_dependency item.dependency dependencies_shorter p found m

-- where one isn't read, the dependencies are refused as it is
pub dependencies_wrong : (p : Place) (found : List AstDependency) (e : ReadError) → begins_dependency p ≡ true → item.dependency p ≡ Err e → dependencies_to_come found p ≡ Err e
unfolding dependencies_to_come
dependencies_wrong p found e m o = wrong_is begins_dependency item.dependency dependencies_shorter p found e m o

-- ---- fragments of a line

-- a fragment takes a character
pub fragments_shorter : (p q : Place) (x : Fragment) → item.line_goes_on p ≡ true → item.fragment_at p ≡ Ok (x, q) → length q.rest < length p.rest
fragments_shorter p q x m h = fragment_lt p q x m h

-- the fragments that were found, and those to come
unfoldable pub fragments_to_come : List Fragment → Reader (List Fragment)
fragments_to_come found = to_come item.line_goes_on item.fragment_at found

-- before the first fragment none was found
pub fragments_begin : (p : Place) → item.fragments p ≡ fragments_to_come [] p
unfolding item.fragments fragments_to_come to_come
fragments_begin p = begins_with (many item.line_goes_on item.fragment_at p)

-- a further fragment is one that was found
pub fragments_more : (p q : Place) (x : Fragment) (found : List Fragment) → item.line_goes_on p ≡ true → item.fragment_at p ≡ Ok (x, q) → fragments_to_come found p ≡ fragments_to_come (found ++ x ∷ []) q
unfolding fragments_to_come
fragments_more p q x found m o = more_is item.line_goes_on item.fragment_at fragments_shorter p q x found m o

-- where the line ends, all were found
pub fragments_done : (p : Place) (found : List Fragment) → item.line_goes_on p ≡ false → fragments_to_come found p ≡ Ok (found, p)
unfolding fragments_to_come
fragments_done p found m = end_is item.line_goes_on item.fragment_at fragments_shorter p found m

-- where one isn't read, the fragments are refused as it is
pub fragments_wrong : (p : Place) (found : List Fragment) (e : ReadError) → item.line_goes_on p ≡ true → item.fragment_at p ≡ Err e → fragments_to_come found p ≡ Err e
unfolding fragments_to_come
fragments_wrong p found e m o = wrong_is item.line_goes_on item.fragment_at fragments_shorter p found e m o
