-- Where an expression opens too many levels before anything else is wrong.
-- Each rule says that what stands from p on is right up to an expression that is too deep.
use Rattle.std.specs.Prelude.{◌≡◌, ℕ, zero, suc, Bool, true, false, List, [], ◌∷◌, ◌++◌, Some, codes}
use Rattle.just_lang_read.specs.Place.{Place, Rule, AreMany, begins, behind_text}
use Rattle.just_lang_syntax.specs.declared.ast.Name.{Name}
use Rattle.just_lang_syntax.specs.declared.ast.Comparison.{Comparison}
use Rattle.just_lang_syntax.specs.declared.ast.Expr.{Expr}
use Rattle.just_lang_syntax.specs.declared.ast.Argument.{Argument}
use Rattle.just_lang_syntax.specs.declared.ast.Attribute.{Attribute}
use Rattle.just_lang_syntax.specs.declared.ast.AstParameter.{AstParameter}
use Rattle.just_lang_syntax.specs.declared.ast.AstDependency.{AstDependency}
use Rattle.just_lang_syntax.specs.declared.form.Form.{Form}
use Rattle.just_lang_syntax.specs.declared.form.Form.TheVariants.{Arg, Cache, Open}
use Rattle.just_lang_syntax.specs.declared.form.Sort.TheVariants as sort
use Rattle.just_lang_syntax.specs.declared.item.Opening.TheVariants as opening
use Rattle.just_lang_syntax.specs.declared.entry.Body.{Body}
use Rattle.just_lang_read.specs.Lines.{is_blank_line, IsToken, IsWord}
use Rattle.just_lang_syntax.specs.Places.{IsName, IsPath}
use Rattle.just_lang_syntax.specs.Exprs.{begins_condition, IsComparison, IsValue, IsBlock, IsInner}
use Rattle.just_lang_syntax.specs.Forms.{form_of, has_text, key_form, sort_of}
use Rattle.just_lang_syntax.specs.Attributes.{is_keyed, may_cache, may_have, is_first, behind_first, takes_text, goes_on, IsKey, IsArgument, IsAttribute, IsFurtherAttribute, IsAttributeLine, AreAttributes}
use Rattle.just_lang_syntax.specs.Recipes.{begins_parameter, IsMaybe, IsSingular, AreParameters, IsDependency, IsDependencyValue, AreDependencies}
use Rattle.just_lang_syntax.specs.Bodies.{opens, is_body_line, IsFragment}
use Rattle.just_lang_syntax.specs.Items.{opening_at, opens_module}
use Rattle.just_lang_syntax.specs.File.{indentation_at, is_in_body}

-- some of these stand from p on, and then what is too deep
pub data IsDeepBehind {A : Type 0} (Is : Rule A) (Deep : Place → Type 0) (p : Place) : Type 0 where
  behind : (m : Place) (xs : List A) → AreMany Is p m xs → Deep m → IsDeepBehind Is Deep p

-- ---- expressions: Inner is one a level further in, Deep is one there that is too deep

module _ (Inner : Rule Expr) (Deep : Place → Type 0) where
  pub data IsDeepValue (p : Place) : Type 0 where
    group : (m : Place) → IsToken (codes "(") p m → Deep m → IsDeepValue p
    env_key : (m n : Place) → IsWord (codes "env") p m → IsToken (codes "(") m n → Deep n → IsDeepValue p
    env_default : (m n o r : Place) (key : Expr) → IsWord (codes "env") p m → IsToken (codes "(") m n → Inner n o key → IsToken (codes ",") o r → Deep r
        → IsDeepValue p

  pub data IsDeepBlock (p : Place) : Type 0 where
    block : (m : Place) → IsToken (codes "{") p m → Deep m → IsDeepBlock p

  pub data IsDeepLevel (p : Place) : Type 0 where
    left_side : (m : Place) → begins_condition p ≡ true → IsToken (codes "if") p m → Deep m → IsDeepLevel p
    right_side : (m n o : Place) (left : Expr) (c : Comparison) → begins_condition p ≡ true → IsToken (codes "if") p m → Inner m n left → IsComparison n o c
        → Deep o → IsDeepLevel p
    consequent : (m n o r : Place) (left right : Expr) (c : Comparison) → begins_condition p ≡ true → IsToken (codes "if") p m → Inner m n left
        → IsComparison n o c → Inner o r right → IsDeepBlock r → IsDeepLevel p
    alternative : (m n o r s t : Place) (left right then_part : Expr) (c : Comparison) → begins_condition p ≡ true → IsToken (codes "if") p m
        → Inner m n left → IsComparison n o c → Inner o r right → IsBlock Inner r s then_part → IsWord (codes "else") s t → begins_condition t ≡ false
        → IsDeepBlock t → IsDeepLevel p
    further : (m n o r s t : Place) (left right then_part : Expr) (c : Comparison) → begins_condition p ≡ true → IsToken (codes "if") p m
        → Inner m n left → IsComparison n o c → Inner o r right → IsBlock Inner r s then_part → IsWord (codes "else") s t → begins_condition t ≡ true
        → Deep t → IsDeepLevel p
    root : (m : Place) → IsToken (codes "/") p m → Deep m → IsDeepLevel p
    value : begins_condition p ≡ false → IsDeepValue p → IsDeepLevel p
    joined : (m n : Place) (a : Expr) → begins_condition p ≡ false → IsValue Inner p m a → IsToken (codes "/") m n → Deep n → IsDeepLevel p
    concatenated : (m n : Place) (a : Expr) → begins_condition p ≡ false → IsValue Inner p m a → IsToken (codes "+") m n → Deep n → IsDeepLevel p

-- one inside another where so many levels may open: where none may, any is too deep
unfoldable pub IsTooDeep : ℕ → Place → Type 0
IsTooDeep zero p = Unit {0}
IsTooDeep (suc left) p = IsDeepLevel (IsInner left) (IsTooDeep left) p

abbrev pub IsDeepExpr : Place → Type 0
IsDeepExpr p = IsDeepLevel (IsInner 256) (IsTooDeep 256) p

-- ---- attributes

pub data IsDeepArgument (form : Form) (earlier : List Argument) (p : Place) : Type 0 where
  text : takes_text form earlier ≡ true → IsDeepExpr p → IsDeepArgument form earlier p
  option : (m : Place) (k : Name) → form ≡ Arg → is_first earlier ≡ false → IsKey p m k → may_have (behind_first earlier) k.text ≡ true
      → has_text (key_form k.text) ≡ true → IsDeepExpr m → IsDeepArgument form earlier p
  cached : (m : Place) (k : Name) → form ≡ Cache → IsKey p m k → may_cache earlier k.text ≡ true → IsDeepExpr m → IsDeepArgument form earlier p
  any : form ≡ Open → is_keyed p ≡ false → IsDeepExpr p → IsDeepArgument form earlier p
  any_key : (m : Place) (k : Name) → form ≡ Open → IsKey p m k → IsDeepExpr m → IsDeepArgument form earlier p

-- further arguments, and one that is too deep
abbrev pub IsDeepFurther : Form → List Argument → Place → List Argument → Type 0
IsDeepFurther form earlier p [] = (m : Place) × (goes_on p ≡ true) × IsToken (codes ",") p m × IsDeepArgument form earlier m
IsDeepFurther form earlier p (x ∷ xs) =
    (m : Place) × (n : Place) × (goes_on p ≡ true) × IsToken (codes ",") p m × IsArgument form earlier m n x × IsDeepFurther form (earlier ++ x ∷ []) n xs

pub data IsDeepAttribute (p : Place) : Type 0 where
  first_argument : (m n : Place) (name : Name) → IsName p m name → IsToken (codes "(") m n → IsDeepArgument (form_of name.text) [] n → IsDeepAttribute p
  other_argument : (m n o : Place) (name : Name) (x : Argument) (xs : List Argument) → IsName p m name → IsToken (codes "(") m n → IsArgument (form_of name.text) [] n o x
      → IsDeepFurther (form_of name.text) (x ∷ []) o xs → IsDeepAttribute p

pub data IsDeepFurtherAttribute (p : Place) : Type 0 where
  further : (m : Place) → IsToken (codes ",") p m → IsDeepAttribute m → IsDeepFurtherAttribute p

pub data IsDeepAttributeLine (p : Place) : Type 0 where
  first_attribute : (m : Place) → IsToken (codes "[") p m → IsDeepAttribute m → IsDeepAttributeLine p
  other_attribute : (m n : Place) (x : Attribute) → IsToken (codes "[") p m → IsAttribute m n x → IsDeepBehind IsFurtherAttribute IsDeepFurtherAttribute n → IsDeepAttributeLine p

-- ---- recipes

pub data IsDeepDefault (p : Place) : Type 0 where
  default : (m : Place) → IsToken (codes "=") p m → IsDeepValue (IsInner 256) (IsTooDeep 256) m → IsDeepDefault p

pub data IsDeepParameter (p : Place) : Type 0 where
  parameter : (m n : Place) (export : Bool) (name : Name) → IsMaybe (codes "$") p m export → IsName m n name → IsDeepDefault n → IsDeepParameter p

pub data IsDeepSingular (p : Place) : Type 0 where
  singular : begins_parameter p ≡ true → IsDeepParameter p → IsDeepSingular p

pub data AreDeepParameters (p : Place) : Type 0 where
  singular : IsDeepBehind IsSingular IsDeepSingular p → AreDeepParameters p
  star : (m n : Place) (xs : List AstParameter) → AreMany IsSingular p m xs → begins_parameter m ≡ false → IsToken (codes "*") m n → IsDeepParameter n
      → AreDeepParameters p
  plus : (m n : Place) (xs : List AstParameter) → AreMany IsSingular p m xs → begins_parameter m ≡ false → IsToken (codes "+") m n → IsDeepParameter n
      → AreDeepParameters p

pub data IsDeepDependencyValue (p : Place) : Type 0 where
  value : begins (codes ")") p ≡ false → IsDeepExpr p → IsDeepDependencyValue p

pub data IsDeepDependency (p : Place) : Type 0 where
  grouped : (m n : Place) (path : List Name) → IsToken (codes "(") p m → IsPath m n path → IsDeepBehind IsDependencyValue IsDeepDependencyValue n
      → IsDeepDependency p

pub data IsDeepRecipeLine (p : Place) : Type 0 where
  parameters : (m n : Place) (quiet : Bool) (name : Name) → IsMaybe (codes "@") p m quiet → IsName m n name → AreDeepParameters n → IsDeepRecipeLine p
  priors : (m n o r : Place) (quiet : Bool) (name : Name) (xs : List AstParameter) → IsMaybe (codes "@") p m quiet → IsName m n name → AreParameters n o xs
      → IsToken (codes ":") o r → IsDeepBehind IsDependency IsDeepDependency r → IsDeepRecipeLine p
  subsequents : (m n o r s t : Place) (quiet : Bool) (name : Name) (xs : List AstParameter) (priors : List AstDependency) → IsMaybe (codes "@") p m quiet
      → IsName m n name → AreParameters n o xs → IsToken (codes ":") o r → AreDependencies r s priors → IsToken (codes "&&") s t
      → IsDeepBehind IsDependency IsDeepDependency t → IsDeepRecipeLine p

-- ---- bodies

pub data IsDeepFragment (p : Place) : Type 0 where
  value : (m : Place) → opens p ≡ true → IsToken (codes "{{") p m → IsDeepExpr m → IsDeepFragment p

pub data IsDeepBodyLine (indentation : List ℕ) (p : Place) : Type 0 where
  line : is_body_line indentation p ≡ true → IsDeepBehind IsFragment IsDeepFragment (behind_text indentation p) → IsDeepBodyLine indentation p

-- ---- items

pub data IsDeepAssignment (p : Place) : Type 0 where
  assignment : (m n : Place) (name : Name) → IsName p m name → IsToken (codes ":=") m n → IsDeepExpr n → IsDeepAssignment p

pub data IsDeepSetting (p : Place) : Type 0 where
  text : (m n o : Place) (name : Name) → IsToken (codes "set") p m → IsName m n name → IsToken (codes ":=") n o → sort_of name.text ≡ sort.Text → IsDeepExpr o
      → IsDeepSetting p
  any_text : (m n o : Place) (name : Name) → IsToken (codes "set") p m → IsName m n name → IsToken (codes ":=") n o → sort_of name.text ≡ sort.Open
      → begins (codes "[") o ≡ false → IsDeepExpr o → IsDeepSetting p

pub data IsDeepItem (p : Place) : Type 0 where
  assignment : opening_at p ≡ opening.Assignment → IsDeepAssignment p → IsDeepItem p
  export : (m : Place) → opening_at p ≡ opening.Export → IsToken (codes "export") p m → IsDeepAssignment m → IsDeepItem p
  setting : opening_at p ≡ opening.Setting → IsDeepSetting p → IsDeepItem p
  attributes : opening_at p ≡ opening.Recipe → IsDeepBehind IsAttributeLine IsDeepAttributeLine p → IsDeepItem p
  recipe : (m : Place) (xs : List Attribute) → opening_at p ≡ opening.Recipe → AreAttributes p m xs → opens_module m ≡ false → IsDeepRecipeLine m → IsDeepItem p

-- what begins at a place where that body may go on
pub data IsDeepEntry (b : Body) (p : Place) : Type 0 where
  line : (indentation : List ℕ) → is_blank_line p ≡ false → indentation_at b p ≡ Some indentation → IsDeepBodyLine indentation p → IsDeepEntry b p
  item : is_blank_line p ≡ false → is_in_body b p ≡ false → IsDeepItem p → IsDeepEntry b p
