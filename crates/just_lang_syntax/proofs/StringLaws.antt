-- Strings: what the code reads is what the grammar says, and nothing else.
use lib.Utf8.{scalar}
use Rattle.std.proofs.Common.{◌≡◌, ℕ, ◌<◌, ◌≤◌, ◌==◌, nat_le, Bool, true, false, not, ◌&&◌, if◌then◌else◌, List, [], ◌∷◌, length, Option, Some, None, Ok, Err, encode_utf8_all, refl, sym, ap, ◌∙◌, subst, ⊎_elim, arith}
use Rattle.just_lang_read.specs.Place.{Place, AreMany, next, past, run, starts, sees, begins, behind_text, between, is_end}
use Rattle.just_lang_read.specs.Reader.{pure}
use Rattle.just_lang_read.specs.declared.error.ReadError.TheVariants.{Syntax}
use Rattle.just_lang_read.proofs.Laws.{bind_ok, choose, ok_value, ok_place, expect_again}
use Rattle.just_lang_read.proofs.Laws.{past_le, sees_first}
use Rattle.just_lang_read.proofs.Laws.{many_ok, many_again}
use Rattle.just_lang_read.specs.declared.quote.Quote.{Quote}
use Rattle.just_lang_read.specs.declared.quote.Quote.TheVariants.{Single, Double, SingleBlock, DoubleBlock}
use Rattle.just_lang_syntax.specs.declared.ast.StringLiteral.{StringLiteral}
use Rattle.just_lang_read.specs.Characters.{is_blank, is_hex, is_quote}
use Rattle.just_lang_read.specs.Lines.{skip}
use Rattle.just_lang_read.specs.Quotes.{mark, is_cooked, quote_at, behind_x, begins_string, letter_meant, number_from, goes_on, IsEscape, IsPiece, IsPieceOf}
use Rattle.just_lang_syntax.specs.Strings.{literal_at, IsRaw, IsString}
use Rattle.just_lang_read.specs.Quotes.IsEscape.{letter, unicode, feed, return_feed}
use Rattle.just_lang_read.specs.Quotes.IsPiece.{itself, escaped}
use Rattle.just_lang_syntax.specs.Strings.IsRaw.{closed}
use Rattle.just_lang_syntax.specs.Strings.IsString.{string}
use Rattle.just_lang_syntax.specs.Readers as reader
use Rattle.just_lang_read.specs.Tokens as tokens
use Rattle.just_lang_read.proofs.Laws.{begins_starts, behind_shorter, behind_le, next_le}
use Rattle.just_lang_read.proofs.Laws.{is_of, piece_ok, piece_lt}
use Rattle.just_lang_read.proofs.Laws.{pieces_shorter as shorter}

-- ---- pieces are read again

-- a letter that means something is no character that means nothing, by the test
letter_if : (b : Bool) (c d k : ℕ) → (c == k) ≡ b → letter_meant c ≡ Some d → letter_meant k ≡ None → b ≡ false
letter_if false c d k e m n = refl
letter_if true c d k e m n = let t : Some d ≡ None = sym m ∙ (ap letter_meant (is_of c k e) ∙ n) in absurd (let no : ⊥ = cc (t) in no)

-- a letter that an escape has is no other character
letter_not : (c d k : ℕ) → letter_meant c ≡ Some d → letter_meant k ≡ None → (c == k) ≡ false
letter_not c d k m n = letter_if (c == k) c d k refl m n

-- the test of at most, where it holds
le_true : (a b : ℕ) → a ≤ b → nat_le a b ≡ true
le_true a b h = grind (arith)

-- digits that make the number of a character are read
number_again : (n : Place) → starts is_hex n ≡ true → length (run is_hex n.rest) ≤ 6 → scalar (number_from 0 (run is_hex n.rest)) ≡ true
    → tokens.number n ≡ Ok (number_from 0 (run is_hex n.rest), past is_hex n)
unfolding tokens.number
number_again n b l k = rw (b, le_true (length (run is_hex n.rest)) 6 l, k) refl

-- an escape that stands behind a backslash is read
escape_again : (p q : Place) (x : List ℕ) → IsEscape p q x → tokens.escape p ≡ Ok (x, q)
unfolding tokens.escape tokens.unicode
escape_again p q x (letter c d f m e g) =
    rw (f, letter_not c d 117 m refl, letter_not c d 10 m refl, letter_not c d 13 m refl, m, e, g) refl
escape_again p q x (unicode m n c s t b l v k o g) =
    let is : scalar (number_from 0 (run is_hex n.rest)) ≡ true = ap scalar (sym v) ∙ k in
    rw (sees_first 117 p s.0, ← s.1, expect_again 123 m n t, number_again n b l is, expect_again 125 (past is_hex n) q o, g, v) refl
escape_again p q x (feed s g) = rw (sees_first 10 p s.0, s.1, g) refl
escape_again p q x (return_feed m s t g) = rw (sees_first 13 p s.0, ← s.1, expect_again 10 m q t, g) refl

-- a piece that stands there is read
pub piece_again : (cooked : Bool) (p q : Place) (x : List ℕ) → IsPiece cooked p q x → tokens.piece cooked p ≡ Ok (x, q)
unfolding tokens.piece
piece_again cooked p q x (itself c f n e g) = rw (f, n, e, g) refl
piece_again cooked p q x (escaped m a s i) = rw (sees_first 92 p s.0, a, ← s.1) (escape_again m q x i)

-- ---- what stands between the quotes

-- pieces that are read stand there, and the string doesn't go on behind them
pieces_ok : (quote : Quote) (p m : Place) (u : Unit {0}) → tokens.pieces quote p ≡ Ok (u, m)
    → (pieces : List (List ℕ)) × AreMany (IsPieceOf quote) p m pieces × (goes_on quote m ≡ false)
unfolding tokens.pieces
pieces_ok quote p m u h =
    let (ps, n, r, k) = bind_ok (tokens.many_pieces quote p) (λ _. pure tt) u m h in
    let (are, done) = many_ok (goes_on quote) (tokens.piece (is_cooked quote)) (IsPieceOf quote) (λ a b x g o. (g, piece_ok (is_cooked quote) a b x o)) p n ps r in
    let end : n ≡ m = ok_place tt u n m k in
    subst (λ (l : Place). (pieces : List (List ℕ)) × AreMany (IsPieceOf quote) p l pieces × (goes_on quote l ≡ false)) end (ps, are, done)

-- pieces that stand there are read, where the string doesn't go on behind them
pieces_again : (quote : Quote) (p m : Place) (pieces : List (List ℕ)) → AreMany (IsPieceOf quote) p m pieces → goes_on quote m ≡ false → tokens.pieces quote p ≡ Ok (tt, m)
unfolding tokens.pieces
pieces_again quote p m pieces are done =
    rw (many_again (goes_on quote) (tokens.piece (is_cooked quote)) (shorter quote) (IsPieceOf quote)
    (λ a b x i. (i.0, piece_again (is_cooked quote) a b x i.1)) p m pieces are done) refl

-- what is read up to the closing quote stands there
raw_ok : (quote : Quote) (p q : Place) (raw : List ℕ) → reader.raw_text quote p ≡ Ok (raw, q) → IsRaw quote p q raw
unfolding reader.raw_text
raw_ok quote p q raw h =
    let (u, m, r, k) = bind_ok (tokens.pieces quote p) (λ _ m. reader.close quote (encode_utf8_all (between p m)) m) raw q h in
    let (ps, are, done) = pieces_ok quote p m u r in
    let text = encode_utf8_all (between p m) in
    ⊎_elim
    (λ (s : _). closed m ps are s.0 (sym (ok_place text raw (behind_text (mark quote) m) q s.1)) (sym (ok_value text raw (behind_text (mark quote) m) q s.1)))
    (λ (s : _). absurd (let no : ⊥ = cc (s.1) in no))
    (choose (begins (mark quote) m) (Ok (text, behind_text (mark quote) m)) (Err Syntax) (Ok (raw, q)) k)

-- where the closing quote stands the string doesn't go on
stops : (end b : Bool) → b ≡ true → (not end && not b) ≡ false
stops true b e = refl
stops false b e = rw e refl

-- what stands there up to the closing quote is read
raw_again : (quote : Quote) (p q : Place) (raw : List ℕ) → IsRaw quote p q raw → reader.raw_text quote p ≡ Ok (raw, q)
unfolding reader.raw_text
raw_again quote p q raw (closed m ps are b e z) =
    rw (pieces_again quote p m ps are (stops (is_end m) (begins (mark quote) m) b), b, e, z) refl

-- ---- strings

-- a string that is read behind an `x` or none stands there
quoted_ok : (p m q : Place) (x : StringLiteral) (o : Option Quote) → quote_at m ≡ o → m ≡ behind_x p → reader.quoted p o m ≡ Ok (x, q) → IsString p q x
quoted_ok p m q x None e w h = absurd (let no : ⊥ = cc (h) in no)
quoted_ok p m q x (Some quote) e w h =
    let (raw, n, r, k) = bind_ok (reader.raw_text quote (behind_text (mark quote) m)) (λ raw n. Ok (literal_at p quote raw, skip n)) x q h in
    let is : IsRaw quote (behind_text (mark quote) (behind_x p)) n raw =
    subst (λ (l : Place). IsRaw quote (behind_text (mark quote) l) n raw) w (raw_ok quote (behind_text (mark quote) m) n raw r) in
    string n quote raw (ap quote_at (sym w) ∙ e) is (sym (ok_place (literal_at p quote raw) x (skip n) q k)) (sym (ok_value (literal_at p quote raw) x (skip n) q k))

-- a string that is read stands there
pub string_ok : (p q : Place) (x : StringLiteral) → reader.string p ≡ Ok (x, q) → IsString p q x
unfolding reader.string
string_ok p q x h = quoted_ok p (behind_x p) q x (quote_at (behind_x p)) refl refl h

-- a string that stands there is read
pub string_again : (p q : Place) (x : StringLiteral) → IsString p q x → reader.string p ≡ Ok (x, q)
unfolding reader.string
string_again p q x (string m quote raw o r e z) = rw (o, raw_again quote (behind_text (mark quote) (behind_x p)) m raw r, e, z) refl

-- ---- the quote in front

-- the quote that stands somewhere comes first there
pub quote_begins : (p : Place) (quote : Quote) → quote_at p ≡ Some quote → begins (mark quote) p ≡ true
quote_begins p quote h =
    ⊎_elim (λ (s : _). let e : SingleBlock ≡ quote = (let k : Some SingleBlock ≡ Some quote = s.1 in cc) in subst (λ (x : Quote). begins (mark x) p ≡ true) e s.0)
    (λ (s : _).
    ⊎_elim (λ (t : _). let e : Single ≡ quote = (let k : Some Single ≡ Some quote = t.1 in cc) in subst (λ (x : Quote). begins (mark x) p ≡ true) e t.0)
    (λ (t : _).
    ⊎_elim (λ (u : _). let e : DoubleBlock ≡ quote = (let k : Some DoubleBlock ≡ Some quote = u.1 in cc) in subst (λ (x : Quote). begins (mark x) p ≡ true) e u.0)
    (λ (u : _).
    ⊎_elim (λ (v : _). let e : Double ≡ quote = (let k : Some Double ≡ Some quote = v.1 in cc) in subst (λ (x : Quote). begins (mark x) p ≡ true) e v.0)
    (λ (v : _). absurd (let no : ⊥ = cc (v.1) in no))
    (choose (begins (mark Double) p) (Some Double) None (Some quote) u.1))
    (choose (begins (mark DoubleBlock) p) (Some DoubleBlock) (if begins (mark Double) p then Some Double else None) (Some quote) t.1))
    (choose (begins (mark Single) p) (Some Single) (if begins (mark DoubleBlock) p then Some DoubleBlock else (if begins (mark Double) p then Some Double else None)) (Some quote) s.1))
    (choose (begins (mark SingleBlock) p) (Some SingleBlock)
    (if begins (mark Single) p then Some Single else (if begins (mark DoubleBlock) p then Some DoubleBlock else (if begins (mark Double) p then Some Double else None)))
    (Some quote) h)

-- a quote takes a character
mark_lt : (quote : Quote) (p : Place) → begins (mark quote) p ≡ true → length (behind_text (mark quote) p).rest < length p.rest
mark_lt Single p h = behind_shorter 39 [] p h
mark_lt Double p h = behind_shorter 34 [] p h
mark_lt SingleBlock p h = behind_shorter 39 (39 ∷ 39 ∷ []) p h
mark_lt DoubleBlock p h = behind_shorter 34 (34 ∷ 34 ∷ []) p h

-- a quote is one
mark_starts : (quote : Quote) (p : Place) → begins (mark quote) p ≡ true → starts is_quote p ≡ true
mark_starts Single p h = begins_starts is_quote 39 [] p h
mark_starts Double p h = begins_starts is_quote 34 [] p h
mark_starts SingleBlock p h = begins_starts is_quote 39 (39 ∷ 39 ∷ []) p h
mark_starts DoubleBlock p h = begins_starts is_quote 34 (34 ∷ 34 ∷ []) p h

-- behind pieces no more is left
pieces_le : (quote : Quote) (p q : Place) (xs : List (List ℕ)) → AreMany (IsPieceOf quote) p q xs → length q.rest ≤ length p.rest
pieces_le quote p q [] e = rw e (omega arith)
pieces_le quote p q (x ∷ xs) (m, i, are) = omega (arith, piece_lt (is_cooked quote) p m x i.1, pieces_le quote m q xs are)

-- nor behind the closing quote
raw_le : (quote : Quote) (p q : Place) (raw : List ℕ) → IsRaw quote p q raw → length q.rest ≤ length p.rest
raw_le quote p q raw (closed m ps are b e z) = rw e (omega (arith, pieces_le quote p m ps are, behind_le (mark quote) m))

-- nor behind an `x`
x_le : (b : Bool) (p : Place) → length (if b then next p else p).rest ≤ length p.rest
x_le true p = next_le p
x_le false p = omega arith

-- a string takes a character
pub string_lt : (p q : Place) (x : StringLiteral) → IsString p q x → length q.rest < length p.rest
string_lt p q x (string m quote raw o r e z) =
    rw e (omega (
      arith,
      past_le is_blank m,
      raw_le quote (behind_text (mark quote) (behind_x p)) m raw r,
      mark_lt quote (behind_x p) (quote_begins (behind_x p) quote o),
      x_le (sees 120 p) p,
    ))

-- where a string stands one begins
pub string_begins : (p q : Place) (x : StringLiteral) → IsString p q x → begins_string p ≡ true
string_begins p q x (string m quote raw o r e z) = mark_starts quote (behind_x p) (quote_begins (behind_x p) quote o)
