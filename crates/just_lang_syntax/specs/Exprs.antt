-- Expressions.
use Rattle.std.specs.Prelude.{◌≡◌, ℕ, zero, suc, Bool, true, false, ◌&&◌, ◌||◌, Option, Some, None, codes}
use Rattle.just_lang_read.specs.Place.{Place, Rule, starts, begins}
use Rattle.just_lang_syntax.specs.declared.ast.Name.{Name}
use Rattle.just_lang_syntax.specs.declared.ast.StringLiteral.{StringLiteral}
use Rattle.just_lang_syntax.specs.declared.ast.Comparison.{Comparison}
use Rattle.just_lang_syntax.specs.declared.ast.Comparison.TheVariants.{Equal, Unequal}
use Rattle.just_lang_syntax.specs.declared.ast.Expr.{Expr}
use Rattle.just_lang_syntax.specs.declared.ast.Expr.TheVariants as e
use Rattle.just_lang_read.specs.Characters.{begins_name, is_quote}
use Rattle.just_lang_read.specs.Lines.{is_word, behind_word, IsToken, IsWord}
use Rattle.just_lang_syntax.specs.Places.{IsName}
use Rattle.just_lang_read.specs.Quotes.{begins_string}
use Rattle.just_lang_syntax.specs.Strings.{IsString}

-- whether an expression may begin here
abbrev pub begins_expr : Place → Bool
begins_expr p = starts begins_name p || (starts is_quote p || (begins (codes "(") p || begins (codes "/") p))

-- whether the word `if` stands here before an expression; else it is a name like others
abbrev pub begins_condition : Place → Bool
begins_condition p = is_word (codes "if") p && begins_expr (behind_word p)

-- whether a call stands here: a name with a parenthesis behind it
abbrev pub is_call : Place → Bool
is_call p = starts begins_name p && begins (codes "(") (behind_word p)

pub data IsComparison (p q : Place) (x : Comparison) : Type 0 where
  equal : IsToken (codes "==") p q → x ≡ Equal → IsComparison p q x
  unequal : IsToken (codes "!=") p q → x ≡ Unequal → IsComparison p q x

-- what an operator may join; Inner is an expression a level further in
module _ (Inner : Rule Expr) where
  -- a comma and a second argument of `env`, if there is one
  abbrev pub IsDefault : Place → Place → Option Expr → Type 0
  IsDefault p q None = (begins (codes ",") p ≡ false) × (q ≡ p)
  IsDefault p q (Some x) = (m : Place) × IsToken (codes ",") p m × Inner m q x

  pub data IsValue (p q : Place) (x : Expr) : Type 0 where
    literal : (s : StringLiteral) → IsString p q s → x ≡ e.Literal s → IsValue p q x
    group : (m n : Place) (y : Expr) → IsToken (codes "(") p m → Inner m n y → IsToken (codes ")") n q → x ≡ e.Group y → IsValue p q x
    -- `env` alone may be called
    env : (m n o r : Place) (key : Expr) (default : Option Expr) → IsWord (codes "env") p m → IsToken (codes "(") m n → Inner n o key → IsDefault o r default
        → IsToken (codes ")") r q → x ≡ e.Env p.line p.column key default → IsValue p q x
    variable : (n : Name) → begins_string p ≡ false → is_call p ≡ false → IsName p q n → x ≡ e.Variable n → IsValue p q x

  -- an expression in braces
  pub data IsBlock (p q : Place) (x : Expr) : Type 0 where
    block : (m n : Place) → IsToken (codes "{") p m → Inner m n x → IsToken (codes "}") n q → IsBlock p q x

  -- what follows `else`: a block, or a further `if`
  pub data IsOtherwise (p q : Place) (chained : Bool) (x : Expr) : Type 0 where
    last : begins_condition p ≡ false → IsBlock p q x → chained ≡ false → IsOtherwise p q chained x
    further : begins_condition p ≡ true → Inner p q x → chained ≡ true → IsOtherwise p q chained x

  -- an expression, as long as it goes
  pub data IsLevel (p q : Place) (x : Expr) : Type 0 where
    conditional : (m n o r s t : Place) (left right consequent alternative : Expr) (comparison : Comparison) (chained : Bool) → begins_condition p ≡ true
        → IsToken (codes "if") p m → Inner m n left → IsComparison n o comparison → Inner o r right → IsBlock r s consequent → IsWord (codes "else") s t
        → IsOtherwise t q chained alternative → x ≡ e.If left comparison right consequent chained alternative → IsLevel p q x
    root : (m : Place) (y : Expr) → IsToken (codes "/") p m → Inner m q y → x ≡ e.Root y → IsLevel p q x
    value : begins_condition p ≡ false → IsValue p q x → begins (codes "/") q ≡ false → begins (codes "+") q ≡ false → IsLevel p q x
    joined : (m n : Place) (a b : Expr) → begins_condition p ≡ false → IsValue p m a → IsToken (codes "/") m n → Inner n q b → x ≡ e.Join a b → IsLevel p q x
    concatenated : (m n : Place) (a b : Expr) → begins_condition p ≡ false → IsValue p m a → IsToken (codes "+") m n → Inner n q b → x ≡ e.Concat a b
        → IsLevel p q x

-- an expression inside another one, where so many levels may open
unfoldable pub IsInner : ℕ → Rule Expr
IsInner zero p q x = ⊥
IsInner (suc left) p q x = IsLevel (IsInner left) p q x

-- an expression, in which at most 256 levels are open at a place
abbrev pub IsExpr : Rule Expr
IsExpr p q x = IsLevel (IsInner 256) p q x
