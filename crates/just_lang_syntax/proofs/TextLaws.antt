-- The text that a string means: what the code gives is what the grammar says.
use Rattle.std.proofs.Common.{◌≡◌, ℕ, ◌<◌, Bool, true, false, not, List, [], length, Some, Ok, Err, encode_utf8_all, refl, sym, ap, ◌∙◌, ⊎_elim, arith}
use Rattle.std.proofs.lemmas.Bool.{false≢true}
use Rattle.just_lang_read.specs.Place.{Place, start, is_end}
use Rattle.just_lang_read.specs.Reader.{Outcome, many}
use Rattle.just_lang_read.proofs.Laws.{choose, many_ok, many_again, not_end_of_length}
use Rattle.just_lang_syntax.specs.declared.ast.StringLiteral.{StringLiteral}
use Rattle.just_lang_read.specs.Quotes.{is_cooked, IsPiece}
use Rattle.just_lang_syntax.specs.Strings.{plain_text, concat, IsCooked, IsTextOf}
use Rattle.just_lang_syntax.specs.Strings.IsCooked.{cooked}
use Rattle.just_lang_syntax.specs.Strings.IsTextOf.{raw, cooked as with_escapes}
use Rattle.just_lang_syntax.specs.Meanings.{is_on, text_with, text_from, cooked_text, text_of}
use Rattle.just_lang_read.specs.Tokens as tokens
use Rattle.just_lang_read.proofs.Laws.{piece_ok, piece_lt}
use Rattle.just_lang_syntax.proofs.StringLaws.{piece_again}
use Rattle.just_lang_syntax.proofs.CookedLoop as loop

-- what isn't not so is so
not_false : (b : Bool) → not b ≡ false → b ≡ true
not_false true h = refl
not_false false h = absurd (false≢true (sym h))

-- where pieces are read to the end, the text gives what they give
pieces_text : (given found : List ℕ) (o : Outcome (List (List ℕ))) → many is_on (tokens.piece true) (start found) ≡ o → text_with [] o ≡ Some given
    → (gives : List ℕ) × IsCooked found gives × (given ≡ encode_utf8_all gives)
pieces_text given found (Err e) m h = absurd (let no : ⊥ = cc (h) in no)
pieces_text given found (Ok s) m h =
    let (are, done) = many_ok is_on (tokens.piece true) (IsPiece true) (λ a b x g o. piece_ok true a b x o) (start found) s.1 s.0 m in
    let e : encode_utf8_all (concat s.0) ≡ given = cc in
    (concat s.0, cooked s.1 s.0 are (not_false (is_end s.1) done) refl, sym e)

-- a text with escapes that is given is what the text means
pub cooked_ok : (found given : List ℕ) → cooked_text found ≡ Some given → (gives : List ℕ) × IsCooked found gives × (given ≡ encode_utf8_all gives)
unfolding text_from
cooked_ok found given h = pieces_text given found (many is_on (tokens.piece true) (start found)) refl h

-- a piece stands where the text goes on, and is read
piece_on : (p q : Place) (x : List ℕ) → IsPiece true p q x → (is_on p ≡ true) × (tokens.piece true p ≡ Ok (x, q))
piece_on p q x i =
    let some : 0 < length p.rest = omega (arith, piece_lt true p q x i) in
    (ap not (not_end_of_length p some), piece_again true p q x i)

-- what a text with escapes means is given
pub cooked_again : (found gives : List ℕ) → IsCooked found gives → cooked_text found ≡ Some (encode_utf8_all gives)
unfolding text_from
cooked_again found gives (cooked end pieces are done z) =
    rw (many_again is_on (tokens.piece true) (λ a b x m o. loop.shorter a b x o) (IsPiece true) piece_on (start found) end pieces are (ap not done), z) refl

-- the text that is given for a string is what it means
pub text_ok : (x : StringLiteral) (given : List ℕ) → text_of x ≡ Some given → IsTextOf x given
text_ok x given h =
    ⊎_elim
    (λ (s : _). let (gives, is, e) = cooked_ok (plain_text x) given s.1 in with_escapes gives s.0 is e)
    (λ (s : _). let e : encode_utf8_all (plain_text x) ≡ given = (let k : Some (encode_utf8_all (plain_text x)) ≡ Some given = s.1 in cc) in raw s.0 (sym e))
    (choose (is_cooked x.quote) (cooked_text (plain_text x)) (Some (encode_utf8_all (plain_text x))) (Some given) h)

-- what a string means is given
pub text_again : (x : StringLiteral) (given : List ℕ) → IsTextOf x given → text_of x ≡ Some given
text_again x given (raw c z) = rw (c, z) refl
text_again x given (with_escapes gives c is z) = rw (c, z) (cooked_again (plain_text x) gives is)

-- so a string means one text
pub text_one : (x : StringLiteral) (one other : List ℕ) → IsTextOf x one → IsTextOf x other → one ≡ other
text_one x one other i j = let k : Some one ≡ Some other = sym (text_again x one i) ∙ text_again x other j in cc
