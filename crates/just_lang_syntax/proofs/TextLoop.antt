-- The loop over the letters of a text.
use Rattle.std.proofs.Common.{◌≡◌, ℕ, ◌<◌, true, false, List, [], ◌∷◌, ◌++◌, length, Ok, Err, codes, encode_utf8, encode_utf8_all, append-nil, append_assoc, refl, sym, ap, ◌∙◌}
use Rattle.just_lang_read.specs.Place.{Place}
use Rattle.just_lang_read.specs.Reader.{Outcome, Reader, and_then, pure, many}
use Rattle.just_lang_read.specs.declared.error.ReadError.{ReadError}
use Rattle.just_lang_read.proofs.Laws.{many_end, many_more, many_wrong}
use Rattle.just_lang_syntax.specs.Strings.{concat}
use Rattle.just_lang_syntax.specs.Bodies.{is_text}
use Rattle.just_lang_syntax.specs.ItemReaders as item
use Rattle.just_lang_syntax.proofs.Shorter.{letter_lt}

-- a letter takes a character
pub shorter : (p q : Place) (x : List ℕ) → is_text p ≡ true → item.letter p ≡ Ok (x, q) → length q.rest < length p.rest
shorter p q x m h = letter_lt p q x m h

-- the text that is still to come, behind what was found
abbrev finish : List ℕ → List (List ℕ) → Reader (List ℕ)
finish found letters = pure (found ++ encode_utf8_all (concat letters))

-- the same from a place on
unfoldable pub text_to_come : List ℕ → Reader (List ℕ)
text_to_come found = λ p. and_then (many is_text item.letter p) (finish found)

-- where nothing was found, all is still to come
begins_with : (o : Outcome (List (List ℕ))) → and_then o (λ ls. pure (encode_utf8_all (concat ls))) ≡ and_then o (finish [])
begins_with (Ok s) = refl
begins_with (Err e) = refl

-- before the first letter nothing was found
pub begin : (p : Place) → item.text p ≡ text_to_come [] p
unfolding item.text text_to_come
begin p = begins_with (many is_text item.letter p)

-- the bytes of two texts, one behind the other
pub encode_append : (xs ys : List ℕ) → encode_utf8_all (xs ++ ys) ≡ encode_utf8_all xs ++ encode_utf8_all ys
encode_append [] ys = refl
encode_append (c ∷ xs) ys =
    ap (λ (r : List ℕ). encode_utf8 c ++ r) (encode_append xs ys) ∙ sym (append_assoc (encode_utf8 c) (encode_utf8_all xs) (encode_utf8_all ys))

-- what a letter means is found, or still to come
further : (o : Outcome (List (List ℕ))) (found x : List ℕ)
    → and_then (and_then o (λ ls. pure (x ∷ ls))) (finish found) ≡ and_then o (finish (found ++ encode_utf8_all x))
further (Err e) found x = refl
further (Ok s) found x =
    rw (encode_append x (concat s.0), append_assoc found (encode_utf8_all x) (encode_utf8_all (concat s.0))) refl

-- what a letter means is found behind the others
pub more : (p q : Place) (x found : List ℕ) → is_text p ≡ true → item.letter p ≡ Ok (x, q) → text_to_come found p ≡ text_to_come (found ++ encode_utf8_all x) q
unfolding text_to_come
more p q x found m o =
    ap (λ (r : Outcome (List (List ℕ))). and_then r (finish found)) (many_more is_text item.letter shorter p q x m o) ∙ further (many is_text item.letter q) found x

-- a letter, and two braces
pub more_letter : (p q : Place) (c : ℕ) (found : List ℕ) → is_text p ≡ true → item.letter p ≡ Ok (c ∷ [], q) → text_to_come found p ≡ text_to_come (found ++ encode_utf8 c) q
more_letter p q c found m o = more p q (c ∷ []) found m o ∙ ap (λ (r : List ℕ). text_to_come (found ++ r) q) (append-nil (encode_utf8 c))

-- four braces, which mean two
pub more_braces : (p q : Place) (found : List ℕ) → is_text p ≡ true → item.letter p ≡ Ok (codes "{{", q) → text_to_come found p ≡ text_to_come (found ++ codes "{{") q
unfolding lib.Utf8.encode
more_braces p q found m o = more p q (codes "{{") found m o

-- where no text stands, all was found
pub done : (p : Place) (found : List ℕ) → is_text p ≡ false → text_to_come found p ≡ Ok (found, p)
unfolding text_to_come
done p found m =
    ap (λ (r : Outcome (List (List ℕ))). and_then r (finish found)) (many_end is_text item.letter shorter p m) ∙ rw (append-nil found) refl

-- where a letter isn't read, the text is refused as it is
pub wrong : (p : Place) (found : List ℕ) (e : ReadError) → is_text p ≡ true → item.letter p ≡ Err e → text_to_come found p ≡ Err e
unfolding text_to_come
wrong p found e m o = ap (λ (r : Outcome (List (List ℕ))). and_then r (finish found)) (many_wrong is_text item.letter shorter p e m o)
