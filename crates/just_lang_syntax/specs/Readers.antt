-- What the code reads from a place on, step by step: names, strings, expressions and the ends of lines. That this is what
-- the grammar says is proved in proofs/.
use Rattle.std.specs.Prelude.{ℕ, zero, suc, Bool, true, false, if◌then◌else◌, List, ◌∷◌, Option, Some, None, Ok, Err, codes, encode_utf8_all}
use Rattle.just_lang_read.specs.Place.{Place, past, run, first, starts, sees, begins, behind_text, between}
use Rattle.just_lang_read.specs.Reader.{Reader, and_then, ◌>>=◌, ◌>>◌, pure, refuse, many}
use Rattle.just_lang_read.specs.declared.error.ReadError.TheVariants.{Syntax, Depth}
use Rattle.just_lang_syntax.specs.declared.ast.Name.{Name}
use Rattle.just_lang_read.specs.declared.quote.Quote.{Quote}
use Rattle.just_lang_syntax.specs.declared.ast.StringLiteral.{StringLiteral}
use Rattle.just_lang_syntax.specs.declared.ast.Comparison.{Comparison}
use Rattle.just_lang_syntax.specs.declared.ast.Comparison.TheVariants.{Equal, Unequal}
use Rattle.just_lang_syntax.specs.declared.ast.Expr.{Expr}
use Rattle.just_lang_syntax.specs.declared.ast.Expr.TheVariants as e
use Rattle.just_lang_read.specs.Characters.{begins_name, in_line}
use Rattle.just_lang_read.specs.Lines.{skip, behind_word, without_returns}
use Rattle.just_lang_syntax.specs.Places.{name_at}
use Rattle.just_lang_read.specs.Quotes.{mark, quote_at, behind_x, begins_string}
use Rattle.just_lang_syntax.specs.Strings.{literal_at}
use Rattle.just_lang_syntax.specs.Exprs.{begins_condition, is_call}
use Rattle.just_lang_read.specs.Tokens.{token, word, newline, pieces}

-- ---- names and the ends of items

unfoldable pub name : Reader Name
name = λ p. if starts begins_name p then Ok (name_at p, behind_word p) else Err Syntax

unfoldable pub further_name : Reader Name
further_name = token (codes "::") >> name

unfoldable pub path : Reader (List Name)
path = do
  first ← name
  others ← many (begins (codes "::")) further_name
  pure (first ∷ others)

-- behind the `#` and what follows it
unfoldable pub comment : Reader (List ℕ)
comment = λ p. (newline >> pure (encode_utf8_all (without_returns (run in_line p.rest)))) (past in_line p)

unfoldable pub rest : Reader (Option (List ℕ))
rest = λ p.
    if sees 35 p then (do
      text ← comment
      pure (Some text)) p
    else (newline >> pure None) p

-- ---- strings

abbrev pub close : Quote → List ℕ → Reader (List ℕ)
close quote raw = λ m. if begins (mark quote) m then Ok (raw, behind_text (mark quote) m) else Err Syntax

unfoldable pub raw_text : Quote → Reader (List ℕ)
raw_text quote = λ p. and_then (pieces quote p) (λ _ m. close quote (encode_utf8_all (between p m)) m)

abbrev pub quoted : Place → Option Quote → Reader StringLiteral
quoted p None = refuse
quoted p (Some quote) = λ m. and_then (raw_text quote (behind_text (mark quote) m)) (λ raw n. Ok (literal_at p quote raw, skip n))

unfoldable pub string : Reader StringLiteral
string = λ p. quoted p (quote_at (behind_x p)) (behind_x p)

-- ---- expressions

unfoldable pub comparison : Reader Comparison
comparison = λ p. if begins (codes "==") p then (token (codes "==") >> pure Equal) p else (token (codes "!=") >> pure Unequal) p

module _ (inner : Reader Expr) where
  -- a token, and what stands behind it
  abbrev pub operand : List ℕ → Reader Expr
  operand text = token text >> inner

  unfoldable pub group : Reader Expr
  group = do
    token (codes "(")
    x ← inner
    token (codes ")")
    pure (e.Group x)

  unfoldable pub default : Reader (Option Expr)
  default = λ p.
      if begins (codes ",") p then (do
        token (codes ",")
        x ← inner
        pure (Some x)) p
      else Ok (None, p)

  unfoldable pub env : Reader Expr
  env = λ p. (do
    word (codes "env")
    token (codes "(")
    key ← inner
    d ← default
    token (codes ")")
    pure (e.Env p.line p.column key d)) p

  unfoldable pub value : Reader Expr
  value = λ p.
      if begins_string p then (do
        s ← string
        pure (e.Literal s)) p
      else (if begins (codes "(") p then group p
      else (if is_call p then env p
      else (do
        n ← name
        pure (e.Variable n)) p))

  unfoldable pub block : Reader Expr
  block = do
    token (codes "{")
    x ← inner
    token (codes "}")
    pure x

  unfoldable pub condition : Reader (Expr × Comparison × Expr)
  condition = do
    left ← inner
    c ← comparison
    right ← inner
    pure (left, c, right)

  unfoldable pub otherwise : Reader (Bool × Expr)
  otherwise = λ p.
      if begins_condition p then (do
        x ← inner
        pure (true, x)) p
      else (do
        x ← block
        pure (false, x)) p

  -- behind the condition
  abbrev pub alternative : Reader (Bool × Expr)
  alternative = word (codes "else") >> otherwise

  abbrev pub branches : Expr × Comparison × Expr → Reader Expr
  branches c = do
    consequent ← block
    word (codes "else")
    o ← otherwise
    pure (e.If c.0 c.1 c.2 consequent o.0 o.1)

  unfoldable pub conditional : Reader Expr
  conditional = do
    token (codes "if")
    c ← condition
    consequent ← block
    word (codes "else")
    o ← otherwise
    pure (e.If c.0 c.1 c.2 consequent o.0 o.1)

  unfoldable pub root : Reader Expr
  root = do
    token (codes "/")
    x ← inner
    pure (e.Root x)

  abbrev pub join : Expr → Reader Expr
  join a = do
    token (codes "/")
    b ← inner
    pure (e.Join a b)

  abbrev pub concat : Expr → Reader Expr
  concat a = do
    token (codes "+")
    b ← inner
    pure (e.Concat a b)

  -- behind the first value
  unfoldable pub tail : Expr → Reader Expr
  tail a = λ p.
      if begins (codes "/") p then (do
        token (codes "/")
        b ← inner
        pure (e.Join a b)) p
      else (if begins (codes "+") p then (do
        token (codes "+")
        b ← inner
        pure (e.Concat a b)) p
      else Ok (a, p))

  unfoldable pub level : Reader Expr
  level = λ p. if begins_condition p then conditional p else (if begins (codes "/") p then root p else (value >>= tail) p)

-- an expression inside another one
unfoldable pub inner : ℕ → Reader Expr
inner zero = λ p. Err Depth
inner (suc left) = level (inner left)
