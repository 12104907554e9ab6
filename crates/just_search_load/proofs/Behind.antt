-- Places of a text one behind the other: a place behind which a mark, a name, a string or an expression stands leads to the
-- place behind that by some characters of the text.
use Rattle.std.proofs.Common.{◌≡◌, ℕ, zero, suc, ◌+◌, ◌==◌, Bool, true, false, if◌then◌else◌, List, [], ◌∷◌, ◌++◌, Option, Some, None, codes, append_assoc, refl, sym, ap, ◌∙◌}
use Rattle.just_lang_read.specs.Place.{Place, Rule, AreMany, IsCharacter, at, next, past, past_in, first_in, sees, behind_text}
use Rattle.just_lang_read.specs.Characters.{is_blank, in_name, in_line, is_hex}
use Rattle.just_lang_read.specs.Lines.{skip, crlf, IsToken, IsWord, IsNewline, IsBlankLine}
use Rattle.just_lang_read.specs.Lines.IsNewline.{last as last_line, feed as line_feed, return_feed as carriage_return}
use Rattle.just_lang_read.specs.Quotes.{mark, behind_x, IsEscape, IsPieceOf}
use Rattle.just_lang_read.specs.Quotes.IsEscape.{letter, unicode, feed, return_feed}
use Rattle.just_lang_read.specs.Quotes.IsPiece.{itself, escaped}
use Rattle.just_lang_read.specs.declared.quote.Quote.{Quote}
use Rattle.just_lang_read.proofs.Laws.{first_is, next_end}
use Rattle.just_lang_syntax.specs.declared.ast.Name.{Name}
use Rattle.just_lang_syntax.specs.declared.ast.StringLiteral.{StringLiteral}
use Rattle.just_lang_syntax.specs.declared.ast.Comparison.{Comparison}
use Rattle.just_lang_syntax.specs.declared.ast.Expr.{Expr}
use Rattle.just_lang_syntax.specs.Places.{IsName, IsFurtherName, IsPath, IsComment, IsRest}
use Rattle.just_lang_syntax.specs.Places.IsPath.{names}
use Rattle.just_lang_syntax.specs.Places.IsRest.{ended, commented}
use Rattle.just_lang_syntax.specs.Strings.{IsRaw, IsString}
use Rattle.just_lang_syntax.specs.Strings.IsRaw.{closed}
use Rattle.just_lang_syntax.specs.Strings.IsString.{string}
use Rattle.just_lang_syntax.specs.Exprs.{IsComparison, IsDefault, IsValue, IsBlock, IsOtherwise, IsLevel, IsInner, IsExpr}
use Rattle.just_lang_syntax.specs.Exprs.IsComparison.{equal, unequal}
use Rattle.just_lang_syntax.specs.Exprs.IsValue.{literal, group, env, variable}
use Rattle.just_lang_syntax.specs.Exprs.IsBlock.{block}
use Rattle.just_lang_syntax.specs.Exprs.IsOtherwise.{last, further}
use Rattle.just_lang_syntax.specs.Exprs.IsLevel.{conditional, root, value, joined, concatenated}

-- the text from p on is some characters, and then the text from q on
pub record IsBehind (p q : Place) : Type 0 where
  pub front : List ℕ
  pub is : p.rest ≡ front ++ q.rest

-- ---- steps

-- a place is behind itself
pub stays : {p q : Place} → q ≡ p → IsBehind p q
stays e = record { front = []; is = ap (λ (r : Place). r.rest) (sym e) }

-- what is behind a place behind p is behind p
infixr 10 ◌>>◌
pub ◌>>◌ : {p q r : Place} → IsBehind p q → IsBehind q r → IsBehind p r
◌>>◌ {p} {q} {r} i j = record { front = i.front ++ j.front; is = i.is ∙ (ap (λ (t : List ℕ). i.front ++ t) j.is ∙ sym (append_assoc i.front j.front r.rest)) }

-- behind one character
next_part : (rest : List ℕ) (p : Place) → p.rest ≡ rest → IsBehind p (next p)
next_part [] p e = stays (next_end p e)
next_part (c ∷ rest) p e = record { front = c ∷ []; is = first_is p c (ap first_in e) }

pub next_behind : (p : Place) → IsBehind p (next p)
next_behind p = next_part p.rest p refl

-- behind a character that passes, and behind those that pass behind it; or where it stands
past_part : (passes feeds : Bool) (c : ℕ) (rest : List ℕ) (line column : ℕ) (p q : Place) → IsBehind (at rest (line + 1) 1) p → IsBehind (at rest line (column + 1)) q
    → IsBehind (at (c ∷ rest) line column) (if passes then (if feeds then p else q) else at (c ∷ rest) line column)
past_part false feeds c rest line column p q i j = stays refl
past_part true true c rest line column p q i j = record { front = c ∷ i.front; is = ap (λ (t : List ℕ). c ∷ t) i.is }
past_part true false c rest line column p q i j = record { front = c ∷ j.front; is = ap (λ (t : List ℕ). c ∷ t) j.is }

past_in_behind : (test : ℕ → Bool) (rest : List ℕ) (line column : ℕ) → IsBehind (at rest line column) (past_in test rest line column)
past_in_behind test [] line column = stays refl
past_in_behind test (c ∷ rest) line column =
    past_part (test c) (c == 10) c rest line column _ _ (past_in_behind test rest (line + 1) 1) (past_in_behind test rest line (column + 1))

-- behind a run of characters
pub past_behind : (test : ℕ → Bool) (p : Place) → IsBehind p (past test p)
unfolding past
past_behind test p = past_in_behind test p.rest p.line p.column

-- behind as many characters as a text has
pub text_behind : (text : List ℕ) (p : Place) → IsBehind p (behind_text text p)
text_behind [] p = stays refl
text_behind (c ∷ text) p = next_behind p >> text_behind text (next p)

-- behind a character that stands there
character_behind : (c : ℕ) (p q : Place) → IsCharacter c p q → IsBehind p q
character_behind c p q s = next_behind p >> stays s.1

-- behind values that stand one behind the other
pub many_behind : {A : Type 0} (Is : Rule A) → ((p q : Place) (x : A) → Is p q x → IsBehind p q) → (p q : Place) (xs : List A) → AreMany Is p q xs → IsBehind p q
many_behind Is each p q [] e = stays e
many_behind Is each p q (x ∷ xs) (m, i, are) = each p m x i >> many_behind Is each m q xs are

-- ---- marks and lines

pub blanks_behind : (p : Place) → IsBehind p (skip p)
blanks_behind p = past_behind is_blank p

pub token_behind : (mark : List ℕ) (p q : Place) → IsToken mark p q → IsBehind p q
token_behind mark p q t = text_behind mark p >> blanks_behind (behind_text mark p) >> stays t.1

pub word_behind : (word : List ℕ) (p q : Place) → IsWord word p q → IsBehind p q
word_behind word p q w = text_behind word p >> blanks_behind (behind_text word p) >> stays w.1

pub name_behind : (p q : Place) (x : Name) → IsName p q x → IsBehind p q
name_behind p q x (b, e, z) = past_behind in_name p >> blanks_behind (past in_name p) >> stays e

further_name_behind : (p q : Place) (x : Name) → IsFurtherName p q x → IsBehind p q
further_name_behind p q x (m, t, i) = token_behind (codes "::") p m t >> name_behind m q x i

pub path_behind : (p q : Place) (xs : List Name) → IsPath p q xs → IsBehind p q
path_behind p q xs (names m n ys i are done z) = name_behind p m n i >> many_behind IsFurtherName further_name_behind m q ys are

pub newline_behind : (p q : Place) → IsNewline p q → IsBehind p q
newline_behind p q (last_line e z) = stays z
newline_behind p q (line_feed s) = character_behind 10 p q s
newline_behind p q (carriage_return b z) = text_behind crlf p >> stays z

pub blank_line_behind : (p q : Place) → IsBlankLine p q → IsBehind p q
blank_line_behind p q (n, i) = blanks_behind p >> newline_behind (skip p) q i

pub comment_behind : (p q : Place) (x : List ℕ) → IsComment p q x → IsBehind p q
comment_behind p q x (s, z, i) = past_behind in_line p >> newline_behind (past in_line p) q i

pub rest_behind : (p q : Place) (x : Option (List ℕ)) → IsRest p q x → IsBehind p q
rest_behind p q x (ended i z) = newline_behind p q i
rest_behind p q x (commented t i z) = comment_behind p q t i

-- ---- strings

escape_behind : (p q : Place) (x : List ℕ) → IsEscape p q x → IsBehind p q
escape_behind p q x (letter c d f l e z) = next_behind p >> stays e
escape_behind p q x (unicode m n c i j h l e k o z) = character_behind 117 p m i >> character_behind 123 m n j >> past_behind is_hex n >> character_behind 125 (past is_hex n) q o
escape_behind p q x (feed s z) = character_behind 10 p q s
escape_behind p q x (return_feed m i j z) = character_behind 13 p m i >> character_behind 10 m q j

piece_behind : (quote : Quote) (p q : Place) (x : List ℕ) → IsPieceOf quote p q x → IsBehind p q
piece_behind quote p q x (g, itself c f b e z) = next_behind p >> stays e
piece_behind quote p q x (g, escaped m k s i) = character_behind 92 p m s >> escape_behind m q x i

raw_behind : (quote : Quote) (p q : Place) (raw : List ℕ) → IsRaw quote p q raw → IsBehind p q
raw_behind quote p q raw (closed m ps are b e z) = many_behind (IsPieceOf quote) (piece_behind quote) p m ps are >> text_behind (mark quote) m >> stays e

x_behind : (b : Bool) (p : Place) → IsBehind p (if b then next p else p)
x_behind true p = next_behind p
x_behind false p = stays refl

pub string_behind : (p q : Place) (x : StringLiteral) → IsString p q x → IsBehind p q
string_behind p q x (string m quote raw o r e z) =
    x_behind (sees 120 p) p >> text_behind (mark quote) (behind_x p) >> raw_behind quote (behind_text (mark quote) (behind_x p)) m raw r >> blanks_behind m >> stays e

-- ---- expressions

comparison_behind : (p q : Place) (x : Comparison) → IsComparison p q x → IsBehind p q
comparison_behind p q x (equal t z) = token_behind (codes "==") p q t
comparison_behind p q x (unequal t z) = token_behind (codes "!=") p q t

module _ (Inner : Rule Expr) (inside : (p q : Place) (x : Expr) → Inner p q x → IsBehind p q) where
  default_behind : (p q : Place) (x : Option Expr) → IsDefault Inner p q x → IsBehind p q
  default_behind p q None (n, e) = stays e
  default_behind p q (Some x) (m, t, i) = token_behind (codes ",") p m t >> inside m q x i

  pub value_behind : (p q : Place) (x : Expr) → IsValue Inner p q x → IsBehind p q
  value_behind p q x (literal s i z) = string_behind p q s i
  value_behind p q x (group m n y t i u z) = token_behind (codes "(") p m t >> inside m n y i >> token_behind (codes ")") n q u
  value_behind p q x (env m n o r key d w t i k u z) =
      word_behind (codes "env") p m w >> token_behind (codes "(") m n t >> inside n o key i >> default_behind o r d k >> token_behind (codes ")") r q u
  value_behind p q x (variable n s c i z) = name_behind p q n i

  block_behind : (p q : Place) (x : Expr) → IsBlock Inner p q x → IsBehind p q
  block_behind p q x (block m n t i u) = token_behind (codes "{") p m t >> inside m n x i >> token_behind (codes "}") n q u

  otherwise_behind : (p q : Place) (chained : Bool) (x : Expr) → IsOtherwise Inner p q chained x → IsBehind p q
  otherwise_behind p q chained x (last b i z) = block_behind p q x i
  otherwise_behind p q chained x (further b i z) = inside p q x i

  level_behind : (p q : Place) (x : Expr) → IsLevel Inner p q x → IsBehind p q
  level_behind p q x (conditional m n o r s t left right consequent alternative c chained b i l k g y w a z) =
      token_behind (codes "if") p m i >> inside m n left l >> comparison_behind n o c k >> inside o r right g >> block_behind r s consequent y >> word_behind (codes "else") s t w
      >> otherwise_behind t q chained alternative a
  level_behind p q x (root m y t i z) = token_behind (codes "/") p m t >> inside m q y i
  level_behind p q x (value b v k l) = value_behind p q x v
  level_behind p q x (joined m n a c b v t i z) = value_behind p m a v >> token_behind (codes "/") m n t >> inside n q c i
  level_behind p q x (concatenated m n a c b v t i z) = value_behind p m a v >> token_behind (codes "+") m n t >> inside n q c i

-- an expression inside another one
pub inner_behind : (left : ℕ) (p q : Place) (x : Expr) → IsInner left p q x → IsBehind p q
unfolding IsInner
inner_behind zero p q x i = absurd i
inner_behind (suc left) p q x i = level_behind (IsInner left) (inner_behind left) p q x i

pub expr_behind : (p q : Place) (x : Expr) → IsExpr p q x → IsBehind p q
expr_behind p q x i = level_behind (IsInner 256) (inner_behind 256) p q x i
