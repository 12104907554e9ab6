-- The line of a recipe: its name, its parameters and the recipes that it depends on.
use Rattle.std.specs.Prelude.{◌≡◌, ℕ, Bool, true, false, ◌||◌, List, [], ◌∷◌, ◌++◌, Option, Some, None, codes}
use Rattle.just_lang_read.specs.Place.{Place, Rule, AreMany, starts, begins}
use Rattle.just_lang_syntax.specs.declared.ast.Name.{Name}
use Rattle.just_lang_syntax.specs.declared.ast.Expr.{Expr}
use Rattle.just_lang_syntax.specs.declared.ast.Attribute.{Attribute}
use Rattle.just_lang_syntax.specs.declared.ast.ParameterKind.{ParameterKind}
use Rattle.just_lang_syntax.specs.declared.ast.ParameterKind.TheVariants.{Singular, Plus, Star}
use Rattle.just_lang_syntax.specs.declared.ast.AstParameter.{AstParameter}
use Rattle.just_lang_syntax.specs.declared.ast.AstDependency.{AstDependency}
use Rattle.just_lang_syntax.specs.declared.ast.AstRecipe.{AstRecipe}
use Rattle.just_lang_read.specs.Characters.{begins_name}
use Rattle.just_lang_read.specs.Lines.{IsToken}
use Rattle.just_lang_syntax.specs.Places.{IsName, IsPath, IsRest}
use Rattle.just_lang_syntax.specs.Exprs.{IsInner, IsValue, IsExpr}

-- the token of this text, or nothing where it doesn't stand
pub data IsMaybe (text : List ℕ) (p q : Place) (there : Bool) : Type 0 where
  here : IsToken text p q → there ≡ true → IsMaybe text p q there
  not_here : begins text p ≡ false → q ≡ p → there ≡ false → IsMaybe text p q there

-- ---- parameters

-- `=` and a value, or nothing
pub data IsDefault (p q : Place) (x : Option Expr) : Type 0 where
  default : (m : Place) (y : Expr) → IsToken (codes "=") p m → IsValue (IsInner 256) m q y → x ≡ Some y → IsDefault p q x
  without : begins (codes "=") p ≡ false → q ≡ p → x ≡ None → IsDefault p q x

-- a parameter behind the sign of its kind
pub data IsParameter (kind : ParameterKind) (p q : Place) (x : AstParameter) : Type 0 where
  parameter : (m n : Place) (export : Bool) (name : Name) (default : Option Expr) → IsMaybe (codes "$") p m export → IsName m n name → IsDefault n q default
      → x ≡ record { kind = kind; export = export; name = name; default = default } → IsParameter kind p q x

-- whether a parameter begins here that takes one value
abbrev pub begins_parameter : Place → Bool
begins_parameter p = begins (codes "$") p || starts begins_name p

-- the last parameter, which takes several values, if there is one
pub data IsVariadic (p q : Place) (x : Option AstParameter) : Type 0 where
  star : (m : Place) (y : AstParameter) → IsToken (codes "*") p m → IsParameter Star m q y → x ≡ Some y → IsVariadic p q x
  plus : (m : Place) (y : AstParameter) → IsToken (codes "+") p m → IsParameter Plus m q y → x ≡ Some y → IsVariadic p q x
  none : begins (codes "*") p ≡ false → begins (codes "+") p ≡ false → q ≡ p → x ≡ None → IsVariadic p q x

abbrev pub listed : Option AstParameter → List AstParameter
listed None = []
listed (Some x) = x ∷ []

-- a parameter that takes one value
abbrev pub IsSingular : Rule AstParameter
IsSingular p q x = (begins_parameter p ≡ true) × IsParameter Singular p q x

pub data AreParameters (p q : Place) (xs : List AstParameter) : Type 0 where
  parameters : (m : Place) (singular : List AstParameter) (last : Option AstParameter) → AreMany IsSingular p m singular → begins_parameter m ≡ false
      → IsVariadic m q last → xs ≡ singular ++ listed last → AreParameters p q xs

-- ---- dependencies

-- an expression that isn't a closing parenthesis
abbrev pub IsDependencyValue : Rule Expr
IsDependencyValue p q x = (begins (codes ")") p ≡ false) × IsExpr p q x

pub data IsDependency (p q : Place) (x : AstDependency) : Type 0 where
  bare : (path : List Name) → IsPath p q path → x ≡ record { path = path; grouped = false; arguments = [] } → IsDependency p q x
  grouped : (m n o : Place) (path : List Name) (arguments : List Expr) → IsToken (codes "(") p m → IsPath m n path → AreMany IsDependencyValue n o arguments
      → IsToken (codes ")") o q → x ≡ record { path = path; grouped = true; arguments = arguments } → IsDependency p q x

-- whether a dependency begins here
abbrev pub begins_dependency : Place → Bool
begins_dependency p = begins (codes "(") p || starts begins_name p

-- dependencies, as long as one begins
pub data AreDependencies (p q : Place) (xs : List AstDependency) : Type 0 where
  dependencies : AreMany IsDependency p q xs → begins_dependency q ≡ false → AreDependencies p q xs

-- `&&` and at least one dependency, or nothing
pub data AreSubsequents (p q : Place) (xs : List AstDependency) : Type 0 where
  none : begins (codes "&&") p ≡ false → q ≡ p → xs ≡ [] → AreSubsequents p q xs
  some : (m : Place) → IsToken (codes "&&") p m → begins_dependency m ≡ true → AreDependencies m q xs → AreSubsequents p q xs

-- ---- the line

-- the line of a recipe that has these attributes; its body is still empty
pub data IsRecipeLine (attributes : List Attribute) (p q : Place) (x : AstRecipe) : Type 0 where
  line : (m n o r s t : Place) (quiet : Bool) (name : Name) (parameters : List AstParameter) (priors subsequents : List AstDependency) (comment : Option (List ℕ))
      → IsMaybe (codes "@") p m quiet → IsName m n name → AreParameters n o parameters → IsToken (codes ":") o r → AreDependencies r s priors
      → AreSubsequents s t subsequents → IsRest t q comment
      → x ≡ record { attributes = attributes; quiet = quiet; name = name; parameters = parameters; priors = priors; subsequents = subsequents; comment = comment; body = [] }
      → IsRecipeLine attributes p q x
