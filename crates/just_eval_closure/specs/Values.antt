-- What an expression means, where names have texts and an environment is asked.
use Rattle.std.specs.Prelude.{ℕ, ◌≡◌, Bool, not, if◌then◌else◌, List, [], ◌∷◌, ◌++◌, Option, Some, None, Result, Ok, Err, codes, bytes_eq}
use Rattle.std.specs.Option.{option_map, unwrap_or}
use Rattle.just_lang_syntax.specs.declared.ast.Comparison.{Comparison}
use Rattle.just_lang_syntax.specs.declared.ast.Comparison.TheVariants.{Equal, Unequal}
use Rattle.just_lang_syntax.specs.declared.ast.StringLiteral.{StringLiteral}
use Rattle.just_lang_syntax.specs.declared.ast.Expr.{Expr}
use Rattle.just_lang_syntax.specs.declared.ast.Expr.TheOpen.{Expr-F}
use Rattle.just_lang_syntax.specs.declared.ast.Expr.TheFolds.{fold-Expr}
use Rattle.just_lang_syntax.specs.Meanings.{text_of}

-- the text that an expression means, or the variable of the environment that it asks for and that isn't there
abbrev pub Valued : Type 0
Valued = Result (List ℕ) (List ℕ)

-- what comes of a text, where there is one
abbrev pub with_text : Valued → (List ℕ → Valued) → Valued
with_text (Ok text) next = next text
with_text (Err name) next = Err name

-- the text of a string; what a string with an `x` in front expands to was put in its place when the files were assembled
abbrev pub literal_text : StringLiteral → List ℕ
literal_text s = unwrap_or (text_of s) []

abbrev pub compares : Comparison → List ℕ → List ℕ → Bool
compares Equal a b = bytes_eq a b
compares Unequal a b = not (bytes_eq a b)

-- a text behind a slash
abbrev pub rooted_value : Valued → Valued
rooted_value inside = with_text inside (λ a. Ok (codes "/" ++ a))

-- two texts with a text between them
abbrev pub joined_value : Valued → List ℕ → Valued → Valued
joined_value first between second = with_text first (λ a. with_text second (λ b. Ok (a ++ (between ++ b))))

-- what `env` gives: what the environment has, else the second argument, if there is one
abbrev pub env_value : List ℕ → Option (List ℕ) → Option Valued → Valued
env_value name (Some text) default = Ok text
env_value name None (Some default) = default
env_value name None None = Err name

-- What the names mean, and what the environment has. Only a part that is taken is asked: one block of an `if`, and the second
-- argument of `env` where the environment lacks the first.
module _ (names : List ℕ → Valued) (env : List ℕ → Option (List ℕ)) where
  -- the value of an expression by the values of those inside it
  abbrev pub value_step : Expr-F Valued → Valued
  value_step (Expr-F.If left comparison right consequent chained alternative) =
      with_text left (λ a. with_text right (λ b. if compares comparison a b then consequent else alternative))
  value_step (Expr-F.Root inside) = rooted_value inside
  value_step (Expr-F.Join first second) = joined_value first (codes "/") second
  value_step (Expr-F.Concat first second) = joined_value first [] second
  value_step (Expr-F.Literal s) = Ok (literal_text s)
  value_step (Expr-F.Variable name) = names name.text
  value_step (Expr-F.Group inside) = inside
  value_step (Expr-F.Env line column key default) = with_text key (λ name. env_value name (env name) default)

  abbrev pub value : Expr → Valued
  value = fold-Expr Valued value_step

  -- what `env` gives for the value of its key and its second argument
  abbrev pub asked_value : Valued → Option Expr → Valued
  asked_value key default = with_text key (λ name. env_value name (env name) (option_map value default))

-- whether two values compare so, where there are both
abbrev pub compared_by : Comparison → Valued → Valued → Result Bool (List ℕ)
compared_by comparison (Err name) b = Err name
compared_by comparison (Ok a) (Err name) = Err name
compared_by comparison (Ok a) (Ok b) = Ok (compares comparison a b)
