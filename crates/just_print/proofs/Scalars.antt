-- Where a text has scalar values alone, so has what is left of it behind strings and expressions.
use lib.Utf8.{scalar, scalars}
use Rattle.std.proofs.Common.{◌≡◌, ℕ, zero, suc, ◌+◌, ◌==◌, Bool, true, false, if◌then◌else◌, List, [], ◌∷◌, codes, Option, Some, None, refl, ap, ◌∙◌}
use Rattle.just_lang_read.specs.Place.{Place, Rule, AreMany, IsCharacter, at, next, next_in, past, sees, behind_text}
use Rattle.just_lang_syntax.specs.declared.ast.Name.{Name}
use Rattle.just_lang_read.specs.declared.quote.Quote.{Quote}
use Rattle.just_lang_syntax.specs.declared.ast.StringLiteral.{StringLiteral}
use Rattle.just_lang_syntax.specs.declared.ast.Comparison.{Comparison}
use Rattle.just_lang_syntax.specs.declared.ast.Expr.{Expr}
use Rattle.just_lang_read.specs.Characters.{is_blank, in_name, is_hex}
use Rattle.just_lang_read.specs.Lines.{skip, behind_word, IsToken, IsWord}
use Rattle.just_lang_syntax.specs.Places.{IsName}
use Rattle.just_lang_read.specs.Quotes.{mark, behind_x, IsEscape, IsPieceOf}
use Rattle.just_lang_syntax.specs.Strings.{IsRaw, IsString}
use Rattle.just_lang_read.specs.Quotes.IsEscape.{letter, unicode, feed, return_feed}
use Rattle.just_lang_read.specs.Quotes.IsPiece.{itself, escaped}
use Rattle.just_lang_syntax.specs.Strings.IsRaw.{closed}
use Rattle.just_lang_syntax.specs.Strings.IsString.{string}
use Rattle.just_lang_syntax.specs.Exprs.{IsComparison, IsDefault, IsValue, IsBlock, IsOtherwise, IsLevel, IsInner, IsExpr}
use Rattle.just_lang_syntax.specs.Exprs.IsComparison.{equal, unequal}
use Rattle.just_lang_syntax.specs.Exprs.IsValue.{literal, group, env, variable}
use Rattle.just_lang_syntax.specs.Exprs.IsBlock.{block}
use Rattle.just_lang_syntax.specs.Exprs.IsOtherwise.{last, further}
use Rattle.just_lang_syntax.specs.Exprs.IsLevel.{conditional, root, value, joined, concatenated}
use Rattle.just_print.proofs.Places.{beyond, past_rest, and_true}

-- if there are scalar values alone from p on, there are from q on
abbrev pub Keeps : Place → Place → Type 0
Keeps p q = scalars p.rest ≡ true → scalars q.rest ≡ true

scalars_by : (b : Bool) (t : ℕ → Bool) (c : ℕ) (list : List ℕ) → t c ≡ b → scalars (c ∷ list) ≡ true → scalars (beyond t list) ≡ true
    → scalars (beyond t (c ∷ list)) ≡ true
scalars_by true t c list h s k = rw h k
scalars_by false t c list h s k = rw h s

-- what is left behind a run
scalars_beyond : (t : ℕ → Bool) (list : List ℕ) → scalars list ≡ true → scalars (beyond t list) ≡ true
scalars_beyond t [] s = refl
scalars_beyond t (c ∷ list) s = scalars_by (t c) t c list refl s (scalars_beyond t list (and_true (scalar c) (scalars list) s).1)

pick_rest : (b : Bool) (rest : List ℕ) (l k m n : ℕ) → scalars rest ≡ true → scalars (if b then at rest l k else at rest m n).rest ≡ true
pick_rest true rest l k m n s = s
pick_rest false rest l k m n s = s

next_in_keeps : (list : List ℕ) (l c : ℕ) → scalars list ≡ true → scalars (next_in list l c).rest ≡ true
next_in_keeps [] l c s = refl
next_in_keeps (x ∷ list) l c s = pick_rest (x == 10) list (l + 1) 1 l (c + 1) (and_true (scalar x) (scalars list) s).1

-- behind one character
pub next_keeps : (p : Place) → Keeps p (next p)
unfolding next
next_keeps p s = next_in_keeps p.rest p.line p.column s

-- behind a text
pub text_keeps : (text : List ℕ) (p : Place) → Keeps p (behind_text text p)
text_keeps [] p s = s
text_keeps (c ∷ text) p s = text_keeps text (next p) (next_keeps p s)

-- behind a run
pub past_keeps : (t : ℕ → Bool) (p : Place) → Keeps p (past t p)
past_keeps t p s = ap scalars (past_rest t p) ∙ scalars_beyond t p.rest s

-- at the same place
pub same_keeps : (p q r : Place) → q ≡ r → Keeps p r → Keeps p q
same_keeps p q r e k s = ap (λ (o : Place). scalars o.rest) e ∙ k s

-- behind a character that stands there
pub character_keeps : (c : ℕ) (p q : Place) → IsCharacter c p q → Keeps p q
character_keeps c p q (b, e) = same_keeps p q (next p) e (next_keeps p)

-- behind a mark, a word and a name
pub token_keeps : (text : List ℕ) (p q : Place) → IsToken text p q → Keeps p q
token_keeps text p q (b, e) = same_keeps p q (skip (behind_text text p)) e (λ s. past_keeps is_blank (behind_text text p) (text_keeps text p s))

pub word_keeps : (text : List ℕ) (p q : Place) → IsWord text p q → Keeps p q
word_keeps text p q (b, e) = same_keeps p q (skip (behind_text text p)) e (λ s. past_keeps is_blank (behind_text text p) (text_keeps text p s))

pub name_keeps : (p q : Place) (x : Name) → IsName p q x → Keeps p q
name_keeps p q x (b, e, z) = same_keeps p q (behind_word p) e (λ s. past_keeps is_blank (past in_name p) (past_keeps in_name p s))

-- behind many, if behind each
pub many_keep : {A : Type 0} (Is : Rule A) → ((p q : Place) (x : A) → Is p q x → Keeps p q) → (p q : Place) (xs : List A) → AreMany Is p q xs → Keeps p q
many_keep Is one p q [] e s = ap (λ (o : Place). scalars o.rest) e ∙ s
many_keep Is one p q (x ∷ xs) (m, i, are) s = many_keep Is one m q xs are (one p m x i s)

-- ---- strings

escape_keeps : (p q : Place) (x : List ℕ) → IsEscape p q x → Keeps p q
escape_keeps p q x (letter c d f l e z) s = same_keeps p q (next p) e (next_keeps p) s
escape_keeps p q x (unicode m n c i j h l v k o z) s =
    character_keeps 125 (past is_hex n) q o (past_keeps is_hex n (character_keeps 123 m n j (character_keeps 117 p m i s)))
escape_keeps p q x (feed i z) s = character_keeps 10 p q i s
escape_keeps p q x (return_feed m i j z) s = character_keeps 10 m q j (character_keeps 13 p m i s)

piece_keeps : (quote : Quote) (p q : Place) (x : List ℕ) → IsPieceOf quote p q x → Keeps p q
piece_keeps quote p q x (g, itself c f k e z) s = same_keeps p q (next p) e (next_keeps p) s
piece_keeps quote p q x (g, escaped m k i j) s = escape_keeps m q x j (character_keeps 92 p m i s)

raw_keeps : (quote : Quote) (p q : Place) (x : List ℕ) → IsRaw quote p q x → Keeps p q
raw_keeps quote p q x (closed m pieces are b e z) s =
    same_keeps p q (behind_text (mark quote) m) e (λ t. text_keeps (mark quote) m (many_keep (IsPieceOf quote) (piece_keeps quote) p m pieces are t)) s

x_by : (b : Bool) (p : Place) → scalars p.rest ≡ true → scalars (if b then next p else p).rest ≡ true
x_by true p s = next_keeps p s
x_by false p s = s

-- behind a string
pub string_keeps : (p q : Place) (x : StringLiteral) → IsString p q x → Keeps p q
string_keeps p q x (string m quote raw k r e z) s =
    same_keeps p q (skip m) e (λ t. past_keeps is_blank m (raw_keeps quote (behind_text (mark quote) (behind_x p)) m raw r
    (text_keeps (mark quote) (behind_x p) (x_by (sees 120 p) p t)))) s

-- ---- expressions

comparison_keeps : (p q : Place) (x : Comparison) → IsComparison p q x → Keeps p q
comparison_keeps p q x (equal t z) s = token_keeps (codes "==") p q t s
comparison_keeps p q x (unequal t z) s = token_keeps (codes "!=") p q t s

module _ (Inner : Rule Expr) (inner : (p q : Place) (x : Expr) → Inner p q x → Keeps p q) where
  second_keeps : (p q : Place) (x : Option Expr) → IsDefault Inner p q x → Keeps p q
  second_keeps p q None (n, e) s = same_keeps p q p e (λ t. t) s
  second_keeps p q (Some x) (m, t, i) s = inner m q x i (token_keeps (codes ",") p m t s)

  -- behind a value
  pub value_keeps : (p q : Place) (x : Expr) → IsValue Inner p q x → Keeps p q
  value_keeps p q x (literal c i z) s = string_keeps p q c i s
  value_keeps p q x (group m n y t i u z) s = token_keeps (codes ")") n q u (inner m n y i (token_keeps (codes "(") p m t s))
  value_keeps p q x (env m n o r key d w t i k u z) s =
      token_keeps (codes ")") r q u (second_keeps o r d k (inner n o key i (token_keeps (codes "(") m n t (word_keeps (codes "env") p m w s))))
  value_keeps p q x (variable n b c i z) s = name_keeps p q n i s

  block_keeps : (p q : Place) (x : Expr) → IsBlock Inner p q x → Keeps p q
  block_keeps p q x (block m n t i u) s = token_keeps (codes "}") n q u (inner m n x i (token_keeps (codes "{") p m t s))

  otherwise_keeps : (p q : Place) (chained : Bool) (x : Expr) → IsOtherwise Inner p q chained x → Keeps p q
  otherwise_keeps p q chained x (last b i z) s = block_keeps p q x i s
  otherwise_keeps p q chained x (further b i z) s = inner p q x i s

  level_keeps : (p q : Place) (x : Expr) → IsLevel Inner p q x → Keeps p q
  level_keeps p q x (conditional m n o r e t left right consequent alternative c chained b i l k g y w a z) s =
      otherwise_keeps t q chained alternative a (word_keeps (codes "else") e t w (block_keeps r e consequent y (inner o r right g
      (comparison_keeps n o c k (inner m n left l (token_keeps (codes "if") p m i s))))))
  level_keeps p q x (root m y t i z) s = inner m q y i (token_keeps (codes "/") p m t s)
  level_keeps p q x (value b v k l) s = value_keeps p q x v s
  level_keeps p q x (joined m n a c b v t i z) s = inner n q c i (token_keeps (codes "/") m n t (value_keeps p m a v s))
  level_keeps p q x (concatenated m n a c b v t i z) s = inner n q c i (token_keeps (codes "+") m n t (value_keeps p m a v s))

-- behind an expression inside another one
pub inner_keeps : (left : ℕ) (p q : Place) (x : Expr) → IsInner left p q x → Keeps p q
unfolding IsInner
inner_keeps zero p q x i = absurd i
inner_keeps (suc left) p q x i = level_keeps (IsInner left) (inner_keeps left) p q x i

-- behind an expression
pub expr_keeps : (p q : Place) (x : Expr) → IsExpr p q x → Keeps p q
expr_keeps p q x i = level_keeps (IsInner 256) (inner_keeps 256) p q x i
