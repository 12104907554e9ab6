-- Pieces of strings: what the code reads is what the grammar says, and nothing else.
use lib.Utf8.{scalar}
use Rattle.std.proofs.Common.{◌≡◌, ℕ, ◌<◌, ◌≤◌, ◌==◌, nat_le, Bool, true, ◌&&◌, if◌then◌else◌, List, [], ◌∷◌, length, Option, Some, None, Ok, Err, refl, sym, ◌∙◌, subst, ⊎_elim, arith}
use Rattle.just_lang_read.specs.Place.{Place, IsCharacter, next, past, run, first, starts}
use Rattle.just_lang_read.specs.Reader.{and_then, pure, expect}
use Rattle.just_lang_read.specs.declared.error.ReadError.TheVariants.{Syntax}
use Rattle.just_lang_read.proofs.Outcomes.{bind_ok, choose, ok_value, ok_place, expect_ok}
use Rattle.just_lang_read.proofs.Steps.{starts_at, past_le, character_shorter, next_shorter}
use Rattle.just_lang_read.specs.Characters.{is_hex}
use Rattle.just_lang_read.specs.Quotes.{letter_meant, number_from, IsEscape, IsPiece}
use Rattle.just_lang_read.specs.Quotes.IsEscape.{letter, unicode, feed, return_feed}
use Rattle.just_lang_read.specs.Quotes.IsPiece.{itself, escaped}
use Rattle.just_lang_read.specs.Tokens as tokens
use Rattle.just_lang_read.proofs.Texts.{and_true, same}

-- characters that the test calls equal are
pub is_of : (c d : ℕ) → (c == d) ≡ true → c ≡ d
is_of c d h = grind (arith)

-- a character that is this one stands there
stands_at : (d : ℕ) (p : Place) (c : ℕ) → first p ≡ Some c → (c == d) ≡ true → IsCharacter d p (next p)
stands_at d p c f h = (starts_at (λ x. x == d) p c f ∙ h, refl)

-- what the test of at most says
le_of : (a b : ℕ) → nat_le a b ≡ true → a ≤ b
le_of a b h = grind (arith)

-- the parts of an escape with a number
number_ok : (p q : Place) (c : ℕ) → tokens.number p ≡ Ok (c, q)
    → (starts is_hex p ≡ true) × (length (run is_hex p.rest) ≤ 6) × (scalar (number_from 0 (run is_hex p.rest)) ≡ true)
    × (c ≡ number_from 0 (run is_hex p.rest)) × (q ≡ past is_hex p)
unfolding tokens.number
number_ok p q c h =
    let n = number_from 0 (run is_hex p.rest) in
    ⊎_elim
    (λ (s : _).
    let (a, b) = and_true (starts is_hex p) (tokens.is_number (run is_hex p.rest)) s.0 in
    let (l, k) = and_true (nat_le (length (run is_hex p.rest)) 6) (scalar n) b in
    (a, le_of (length (run is_hex p.rest)) 6 l, k, sym (ok_value n c (past is_hex p) q s.1), sym (ok_place n c (past is_hex p) q s.1)))
    (λ (s : _). absurd (let no : ⊥ = cc (s.1) in no))
    (choose (starts is_hex p && tokens.is_number (run is_hex p.rest)) (Ok (n, past is_hex p)) (Err Syntax) (Ok (c, q)) h)

-- digits in braces that are read are an escape
unicode_ok : (p q : Place) (x : List ℕ) (o : Place) → IsCharacter 117 o p → tokens.unicode p ≡ Ok (x, q) → IsEscape o q x
unfolding tokens.unicode
unicode_ok p q x o s h =
    let (u, m, h1, k1) = bind_ok (expect 123 p) _ x q h in
    let (c, n, h2, k2) = bind_ok (tokens.number m) _ x q k1 in
    let (v, r, h3, k3) = bind_ok (expect 125 n) _ x q k2 in
    let (a, l, k, e, z) = number_ok m n c h2 in
    let t : IsCharacter 125 n r = expect_ok 125 n v r h3 in
    let end : r ≡ q = ok_place (c ∷ []) x r q k3 in
    let is : scalar c ≡ true = rw e k in
    unicode p m c s (expect_ok 123 p u m h1) a l e is (subst (λ (w : Place). IsCharacter 125 w q) z (t.0, sym end ∙ t.1)) (sym (ok_value (c ∷ []) x r q k3))

-- a letter behind a backslash that is read is an escape
letter_ok : (p q : Place) (x : List ℕ) (c : ℕ) (o : Option ℕ) → first p ≡ Some c → letter_meant c ≡ o → tokens.letter_of o p ≡ Ok (x, q) → IsEscape p q x
letter_ok p q x c None f e h = absurd (let no : ⊥ = cc (h) in no)
letter_ok p q x c (Some d) f e h = letter c d f e (sym (ok_place (d ∷ []) x (next p) q h)) (sym (ok_value (d ∷ []) x (next p) q h))

-- what is read behind a backslash, by its first character, is an escape
escape_at : (p q : Place) (x : List ℕ) (o : Option ℕ) → first p ≡ o → tokens.escape_of o p ≡ Ok (x, q) → IsEscape p q x
escape_at p q x None f h = absurd (let no : ⊥ = cc (h) in no)
escape_at p q x (Some c) f h =
    ⊎_elim (λ (s : _). unicode_ok (next p) q x p (stands_at 117 p c f s.0) s.1)
    (λ (s : _).
    ⊎_elim (λ (t : _). feed ((stands_at 10 p c f t.0).0, sym (ok_place [] x (next p) q t.1)) (sym (ok_value [] x (next p) q t.1)))
    (λ (t : _).
    ⊎_elim
    (λ (w : _).
    let (u, m, h1, k1) = bind_ok (expect 10 (next p)) _ x q w.1 in
    let a : IsCharacter 10 (next p) m = expect_ok 10 (next p) u m h1 in
    return_feed (next p) (stands_at 13 p c f w.0) (a.0, sym (ok_place [] x m q k1) ∙ a.1) (sym (ok_value [] x m q k1)))
    (λ (w : _). letter_ok p q x c (letter_meant c) f refl w.1)
    (choose (c == 13) (and_then (expect 10 (next p)) (λ _. pure [])) (tokens.letter_of (letter_meant c) p) (Ok (x, q)) t.1))
    (choose (c == 10) (Ok ([], next p)) (if c == 13 then and_then (expect 10 (next p)) (λ _. pure []) else tokens.letter_of (letter_meant c) p) (Ok (x, q)) s.1))
    (choose (c == 117) (tokens.unicode (next p))
    (if c == 10 then Ok ([], next p) else (if c == 13 then and_then (expect 10 (next p)) (λ _. pure []) else tokens.letter_of (letter_meant c) p)) (Ok (x, q)) h)

-- what is read behind a backslash is an escape
pub escape_ok : (p q : Place) (x : List ℕ) → tokens.escape p ≡ Ok (x, q) → IsEscape p q x
unfolding tokens.escape
escape_ok p q x h = escape_at p q x (first p) refl h

-- what is read as a piece, by its first character, is one
piece_at : (cooked : Bool) (p q : Place) (x : List ℕ) (o : Option ℕ) → first p ≡ o → tokens.piece_of cooked o p ≡ Ok (x, q) → IsPiece cooked p q x
piece_at cooked p q x None f h = absurd (let no : ⊥ = cc (h) in no)
piece_at cooked p q x (Some c) f h =
    ⊎_elim
    (λ (s : _).
    let (a, b) = and_true cooked (c == 92) s.0 in
    escaped (next p) a (stands_at 92 p c f b) (escape_ok (next p) q x s.1))
    (λ (s : _). itself c f s.0 (sym (ok_place (c ∷ []) x (next p) q s.1)) (sym (ok_value (c ∷ []) x (next p) q s.1)))
    (choose (cooked && c == 92) (tokens.escape (next p)) (Ok (c ∷ [], next p)) (Ok (x, q)) h)

-- a piece that is read stands there
pub piece_ok : (cooked : Bool) (p q : Place) (x : List ℕ) → tokens.piece cooked p ≡ Ok (x, q) → IsPiece cooked p q x
unfolding tokens.piece
piece_ok cooked p q x h = piece_at cooked p q x (first p) refl h

-- ---- what is left

-- where a character comes first, a step takes it
first_lt : (p : Place) (c : ℕ) → first p ≡ Some c → length (next p).rest < length p.rest
first_lt p c f = next_shorter (λ d. d == c) p (starts_at (λ d. d == c) p c f ∙ same c)

-- an escape takes nothing back
escape_le : (p q : Place) (x : List ℕ) → IsEscape p q x → length q.rest ≤ length p.rest
escape_le p q x (letter c d f m e g) = rw e (omega (arith, first_lt p c f))
escape_le p q x (unicode m n c s t b l v k o g) =
    omega (arith, character_shorter 117 p m s, character_shorter 123 m n t, past_le is_hex n, character_shorter 125 (past is_hex n) q o)
escape_le p q x (feed s g) = omega (arith, character_shorter 10 p q s)
escape_le p q x (return_feed m s t g) = omega (arith, character_shorter 13 p m s, character_shorter 10 m q t)

-- a piece takes a character
pub piece_lt : (cooked : Bool) (p q : Place) (x : List ℕ) → IsPiece cooked p q x → length q.rest < length p.rest
piece_lt cooked p q x (itself c f n e g) = rw e (first_lt p c f)
piece_lt cooked p q x (escaped m a s i) = omega (arith, character_shorter 92 p m s, escape_le m q x i)
