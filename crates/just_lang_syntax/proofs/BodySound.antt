-- Body lines: what the code reads is what the grammar says.
use Rattle.std.proofs.Common.{◌≡◌, ℕ, Bool, true, false, not, ◌&&◌, List, [], ◌∷◌, Option, Some, None, Ok, Err, codes, encode_utf8_all, refl, sym, ap, ◌∙◌, subst, ⊎_elim}
use Rattle.std.proofs.lemmas.Bool.{false≢true}
use Rattle.just_lang_read.specs.Place.{Place, AreMany, next, first, begins, behind_text}
use Rattle.just_lang_read.specs.Reader.{and_then, pure, many}
use Rattle.just_lang_read.specs.declared.error.ReadError.TheVariants.{Syntax}
use Rattle.just_lang_read.proofs.Laws.{bind_ok, choose, ok_value, ok_place, many_ok}
use Rattle.just_lang_syntax.specs.declared.ast.Expr.{Expr}
use Rattle.just_lang_syntax.specs.declared.ast.Fragment.{Fragment}
use Rattle.just_lang_syntax.specs.declared.ast.Fragment.TheVariants as fragment
use Rattle.just_lang_syntax.specs.declared.ast.Line.{Line}
use Rattle.just_lang_read.specs.Lines.{ends_line, IsToken, IsNewline}
use Rattle.just_lang_syntax.specs.Exprs.{IsExpr}
use Rattle.just_lang_syntax.specs.Strings.{concat}
use Rattle.just_lang_syntax.specs.Bodies.{opens, is_text, is_body_line, IsLetter, IsFragment, IsBodyLine}
use Rattle.just_lang_syntax.specs.Bodies.IsLetter.{braces, itself}
use Rattle.just_lang_syntax.specs.Bodies.IsFragment.{text, value}
use Rattle.just_lang_syntax.specs.Bodies.IsBodyLine.{line}
use Rattle.just_lang_read.specs.Tokens as tokens
use Rattle.just_lang_syntax.specs.ItemReaders as item
use Rattle.just_lang_syntax.proofs.Tokens.{token_ok}
use Rattle.just_lang_syntax.proofs.LineLaws.{newline_ok}
use Rattle.just_lang_syntax.proofs.ExprComplete.{expr_ok}

-- the first character of a text, where there is one
letter_of_ok : (p q : Place) (x : List ℕ) (o : Option ℕ) → first p ≡ o → is_text p ≡ true → begins (codes "{{{{") p ≡ false → item.letter_of o p ≡ Ok (x, q) → IsLetter p q x
letter_of_ok p q x None f i n h = absurd (let no : ⊥ = cc (h) in no)
letter_of_ok p q x (Some c) f i n h = itself c i n f (sym (ok_place (c ∷ []) x (next p) q h)) (sym (ok_value (c ∷ []) x (next p) q h))

-- a letter of a text
pub letter_ok : (p q : Place) (x : List ℕ) → is_text p ≡ true → item.letter p ≡ Ok (x, q) → IsLetter p q x
unfolding item.letter
letter_ok p q x i h =
    ⊎_elim
    (λ (s : _).
    braces i s.0 (sym (ok_place (codes "{{") x (behind_text (codes "{{{{") p) q s.1)) (sym (ok_value (codes "{{") x (behind_text (codes "{{{{") p) q s.1)))
    (λ (s : _). letter_of_ok p q x (first p) refl i s.0 s.1)
    (choose (begins (codes "{{{{") p) (Ok (codes "{{", behind_text (codes "{{{{") p)) (item.letter_of (first p) p) (Ok (x, q)) h)

-- the letters of a text that was read
pub record Letters (p q : Place) (x : List ℕ) : Type 0 where
  pub letters : List (List ℕ)
  pub are : AreMany IsLetter p q letters
  pub done : is_text q ≡ false
  pub means : x ≡ encode_utf8_all (concat letters)

-- a text
pub text_ok : (p q : Place) (x : List ℕ) → item.text p ≡ Ok (x, q) → Letters p q x
unfolding item.text
text_ok p q x h =
    let (ls, m, h1, k1) = bind_ok (many is_text item.letter p) _ x q h in
    let made = encode_utf8_all (concat ls) in
    let (are, done) = many_ok is_text item.letter IsLetter (λ a b y i o. letter_ok a b y i o) p m ls h1 in
    let end : m ≡ q = ok_place made x m q k1 in
    record {
      letters = ls;
      are = subst (λ (l : Place). AreMany IsLetter p l ls) end are;
      done = ap is_text (sym end) ∙ done;
      means = sym (ok_value made x m q k1);
    }

-- text stands where a line goes on and no interpolation opens
goes_text : (a b : Bool) → not a ≡ true → b ≡ false → (not a && not b) ≡ true
goes_text a b h k = rw (h, k) refl

-- the double braces behind a value
closed_ok : (p m n q : Place) (y : Expr) (x : Fragment) → opens p ≡ true → IsToken (codes "{{") p m → IsExpr m n y → item.closed y n ≡ Ok (x, q) → IsFragment p q x
closed_ok p m n q y x o t i h =
    ⊎_elim
    (λ (s : _).
    value m n y o t i s.0 (sym (ok_place (fragment.Value y) x (behind_text (codes "}}") n) q s.1)) (sym (ok_value (fragment.Value y) x (behind_text (codes "}}") n) q s.1)))
    (λ (s : _). absurd (let no : ⊥ = cc (s.1) in no))
    (choose (begins (codes "}}") n) (Ok (fragment.Value y, behind_text (codes "}}") n)) (Err Syntax) (Ok (x, q)) h)

-- a fragment
pub fragment_ok : (p q : Place) (x : Fragment) → item.line_goes_on p ≡ true → item.fragment_at p ≡ Ok (x, q) → IsFragment p q x
unfolding item.fragment_at
fragment_ok p q x g h =
    ⊎_elim
    (λ (s : _).
    let (u, m, h1, k1) = bind_ok (tokens.token (codes "{{") p) _ x q s.1 in
    let (y, n, h2, k2) = bind_ok (item.expr m) _ x q k1 in
    closed_ok p m n q y x s.0 (token_ok (codes "{{") p u m h1) (expr_ok m n y h2) k2)
    (λ (s : _).
    let (t, m, h1, k1) = bind_ok (item.text p) (λ t. pure (fragment.Text t)) x q s.1 in
    let read = text_ok p m t h1 in
    let end : m ≡ q = ok_place (fragment.Text t) x m q k1 in
    text read.letters (goes_text (ends_line p) (opens p) g s.0) (subst (λ (l : Place). AreMany IsLetter p l read.letters) end read.are) (ap is_text (sym end) ∙ read.done)
    (sym (ok_value (fragment.Text t) x m q k1) ∙ ap (λ (r : List ℕ). fragment.Text r) read.means))
    (choose (opens p) (and_then (tokens.token (codes "{{") p) (λ _ n. and_then (item.expr n) item.closed)) (and_then (item.text p) (λ t. pure (fragment.Text t))) (Ok (x, q)) h)

-- the fragments up to the line's end
pub fragments_ok : (p q : Place) (xs : List Fragment) → item.fragments p ≡ Ok (xs, q) → AreMany IsFragment p q xs × (item.line_goes_on q ≡ false)
unfolding item.fragments
fragments_ok p q xs h = many_ok item.line_goes_on item.fragment_at IsFragment (λ a b x g o. fragment_ok a b x g o) p q xs h

-- what isn't so is
not_false : (b : Bool) → not b ≡ false → b ≡ true
not_false true h = refl
not_false false h = absurd (false≢true (sym h))

-- a line of a body with this indentation, where one stands
pub body_line_ok : (indentation : List ℕ) (p q : Place) (x : Line) → is_body_line indentation p ≡ true → item.body_line indentation p ≡ Ok (x, q)
    → IsBodyLine indentation p q x
unfolding item.body_line
body_line_ok indentation p q x i h =
    let (fs, m, h1, k1) = bind_ok (item.fragments (behind_text indentation p)) _ x q h in
    let (u, n, h2, k2) = bind_ok (tokens.newline m) _ x q k1 in
    let made : Line = record { number = p.line; fragments = fs } in
    let (are, done) = fragments_ok (behind_text indentation p) m fs h1 in
    line m fs i are (not_false (ends_line m) done) (subst (λ (l : Place). IsNewline m l) (ok_place made x n q k2) (newline_ok m n u h2)) (sym (ok_value made x n q k2))
