-- The loop over the pieces of a text with escapes.
use Rattle.std.proofs.Common.{◌≡◌, ℕ, ◌<◌, true, false, not, List, [], ◌∷◌, ◌++◌, length, Some, None, Ok, Err, encode_utf8, encode_utf8_all, append-nil, append_assoc, refl, ap, ◌∙◌}
use Rattle.just_lang_read.specs.Place.{Place, is_end}
use Rattle.just_lang_read.specs.Reader.{Outcome, and_then, pure, many}
use Rattle.just_lang_read.specs.declared.error.ReadError.{ReadError}
use Rattle.just_lang_read.proofs.Laws.{many_end, many_more, many_wrong}
use Rattle.just_lang_syntax.specs.Strings.{concat}
use Rattle.just_lang_syntax.specs.Meanings.{is_on, text_with, text_from}
use Rattle.just_lang_read.specs.Tokens as tokens
use Rattle.just_lang_read.proofs.Laws.{piece_ok, piece_lt}
use Rattle.just_lang_syntax.proofs.TextLoop.{encode_append}

-- where the text goes on a piece takes a character
turns : (p q : Place) (x : List ℕ) → is_on p ≡ true → tokens.piece true p ≡ Ok (x, q) → length q.rest < length p.rest
turns p q x m h = piece_lt true p q x (piece_ok true p q x h)

-- a piece takes a character
pub shorter : (p q : Place) (x : List ℕ) → tokens.piece true p ≡ Ok (x, q) → length q.rest < length p.rest
shorter p q x h = piece_lt true p q x (piece_ok true p q x h)

-- what a piece gives is found, or still to come
further : (o : Outcome (List (List ℕ))) (found x : List ℕ) → text_with found (and_then o (λ xs. pure (x ∷ xs))) ≡ text_with (found ++ encode_utf8_all x) o
further (Err e) found x = refl
further (Ok s) found x = rw (encode_append x (concat s.0), append_assoc found (encode_utf8_all x) (encode_utf8_all (concat s.0))) refl

-- a piece that is read gives what is found behind the others
more : (p q : Place) (x found : List ℕ) → is_end p ≡ false → tokens.piece true p ≡ Ok (x, q) → text_from found p ≡ text_from (found ++ encode_utf8_all x) q
unfolding text_from
more p q x found m o =
    ap (text_with found) (many_more is_on (tokens.piece true) turns p q x (ap not m) o) ∙ further (many is_on (tokens.piece true) q) found x

-- a piece that gives a character, and one that gives nothing
pub more_letter : (p q : Place) (c : ℕ) (found : List ℕ) → is_end p ≡ false → tokens.piece true p ≡ Ok (c ∷ [], q) → text_from found p ≡ text_from (found ++ encode_utf8 c) q
more_letter p q c found m o = more p q (c ∷ []) found m o ∙ ap (λ (r : List ℕ). text_from (found ++ r) q) (append-nil (encode_utf8 c))

-- one that gives nothing
pub more_nothing : (p q : Place) (found : List ℕ) → is_end p ≡ false → tokens.piece true p ≡ Ok ([], q) → text_from found p ≡ text_from found q
more_nothing p q found m o = more p q [] found m o ∙ ap (λ (r : List ℕ). text_from r q) (append-nil found)

-- at the end of the text all is found
pub done : (p : Place) (found : List ℕ) → is_end p ≡ true → text_from found p ≡ Some found
unfolding text_from
done p found m = ap (text_with found) (many_end is_on (tokens.piece true) turns p (ap not m)) ∙ ap (λ (r : List ℕ). Some r) (append-nil found)

-- where a piece isn't read, there is no text
pub wrong : (p : Place) (found : List ℕ) (e : ReadError) → is_end p ≡ false → tokens.piece true p ≡ Err e → text_from found p ≡ None
unfolding text_from
wrong p found e m o = ap (text_with found) (many_wrong is_on (tokens.piece true) turns p e (ap not m) o)
