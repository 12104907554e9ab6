-- Recipe lines take characters.
use Rattle.std.proofs.Common.{◌≡◌, ◌<◌, ◌≤◌, List, [], ◌∷◌, length, Option, Ok, codes, arith}
use Rattle.just_lang_read.specs.Place.{Place}
use Rattle.just_lang_syntax.specs.declared.ast.Attribute.{Attribute}
use Rattle.just_lang_syntax.specs.declared.ast.ParameterKind.TheVariants.{Singular, Plus, Star}
use Rattle.just_lang_syntax.specs.declared.ast.AstParameter.{AstParameter}
use Rattle.just_lang_syntax.specs.declared.ast.AstDependency.{AstDependency}
use Rattle.just_lang_syntax.specs.declared.ast.AstRecipe.{AstRecipe}
use Rattle.just_lang_syntax.specs.Recipes.{IsSingular, IsVariadic, AreParameters, IsDependency, AreDependencies, AreSubsequents, IsRecipeLine}
use Rattle.just_lang_syntax.specs.Recipes.IsVariadic.{star, plus, none as no_variadic}
use Rattle.just_lang_syntax.specs.Recipes.AreParameters.{parameters}
use Rattle.just_lang_syntax.specs.Recipes.AreDependencies.{dependencies}
use Rattle.just_lang_syntax.specs.Recipes.AreSubsequents.{none as no_subsequents, some as some_subsequents}
use Rattle.just_lang_syntax.specs.Recipes.IsRecipeLine.{line}
use Rattle.just_lang_syntax.specs.ItemReaders as item
use Rattle.just_lang_syntax.proofs.Tokens.{token_lt}
use Rattle.just_lang_syntax.proofs.LineLaws.{behind_maybe, behind_rest}
use Rattle.just_lang_syntax.proofs.PathLoop.{are_le}
use Rattle.just_lang_syntax.proofs.ExprShorter.{name_lt}
use Rattle.just_lang_syntax.proofs.Shorter.{behind_parameter, behind_dependency}
use Rattle.just_lang_syntax.proofs.RecipeSound.{recipe_line_ok}

-- behind the last parameter no more is left
behind_variadic : (p q : Place) (x : Option AstParameter) → IsVariadic p q x → length q.rest ≤ length p.rest
behind_variadic p q x (star m y t i z) = omega (arith, token_lt 42 [] p m t, behind_parameter Star m q y i)
behind_variadic p q x (plus m y t i z) = omega (arith, token_lt 43 [] p m t, behind_parameter Plus m q y i)
behind_variadic p q x (no_variadic n o e z) = rw e (omega arith)

-- behind a parameter that takes one value less is left
behind_singular : (p q : Place) (x : AstParameter) → IsSingular p q x → length q.rest < length p.rest
behind_singular p q x (b, i) = behind_parameter Singular p q x i

-- behind parameters no more is left
behind_parameters : (p q : Place) (xs : List AstParameter) → AreParameters p q xs → length q.rest ≤ length p.rest
behind_parameters p q xs (parameters m ys several are done v z) = omega (arith, are_le IsSingular behind_singular p m ys are, behind_variadic m q several v)

-- nor behind dependencies
behind_dependencies : (p q : Place) (xs : List AstDependency) → AreDependencies p q xs → length q.rest ≤ length p.rest
behind_dependencies p q xs (dependencies are done) = are_le IsDependency behind_dependency p q xs are

-- nor behind those behind `&&`
behind_subsequents : (p q : Place) (xs : List AstDependency) → AreSubsequents p q xs → length q.rest ≤ length p.rest
behind_subsequents p q xs (no_subsequents n e z) = rw e (omega arith)
behind_subsequents p q xs (some_subsequents m t b i) = omega (arith, token_lt 38 (38 ∷ []) p m t, behind_dependencies m q xs i)

-- behind a recipe line less is left
pub behind_recipe_line : (attributes : List Attribute) (p q : Place) (x : AstRecipe) → IsRecipeLine attributes p q x → length q.rest < length p.rest
behind_recipe_line attributes p q x (line m n o r s t quiet name ps a b c k i j u d g l z) =
    omega (
      arith,
      behind_maybe (codes "@") p m quiet k,
      name_lt m n name i,
      behind_parameters n o ps j,
      token_lt 58 [] o r u,
      behind_dependencies r s a d,
      behind_subsequents s t b g,
      behind_rest t q c l,
    )

-- a recipe line takes a character
pub recipe_line_lt : (attributes : List Attribute) (p q : Place) (x : AstRecipe) → item.recipe_line attributes p ≡ Ok (x, q) → length q.rest < length p.rest
recipe_line_lt attributes p q x h = behind_recipe_line attributes p q x (recipe_line_ok attributes p q x h)
