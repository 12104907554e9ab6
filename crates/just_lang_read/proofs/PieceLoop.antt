-- The loop over the pieces of a string.
use Rattle.std.proofs.Common.{◌≡◌, ℕ, ◌<◌, true, false, List, ◌∷◌, length, Ok, Err, refl, ap, ◌∙◌}
use Rattle.just_lang_read.specs.Place.{Place}
use Rattle.just_lang_read.specs.Reader.{Outcome, Reader, and_then, pure}
use Rattle.just_lang_read.specs.declared.error.ReadError.{ReadError}
use Rattle.just_lang_read.proofs.Many.{many_end, many_more, many_wrong}
use Rattle.just_lang_read.specs.declared.quote.Quote.{Quote}
use Rattle.just_lang_read.specs.Quotes.{is_cooked, goes_on}
use Rattle.just_lang_read.specs.Tokens as tokens
use Rattle.just_lang_read.proofs.PieceLaws.{piece_ok, piece_lt}

-- where the string goes on a piece takes a character
pub shorter : (quote : Quote) (p q : Place) (x : List ℕ) → goes_on quote p ≡ true → tokens.piece (is_cooked quote) p ≡ Ok (x, q) → length q.rest < length p.rest
shorter quote p q x m h = piece_lt (is_cooked quote) p q x (piece_ok (is_cooked quote) p q x h)

-- what the pieces give is dropped
abbrev nothing : List (List ℕ) → Reader (Unit {0})
nothing pieces = pure tt

-- with it what the first of them gives
forget : (o : Outcome (List (List ℕ))) (x : List ℕ) → and_then (and_then o (λ xs. pure (x ∷ xs))) nothing ≡ and_then o nothing
forget (Err e) x = refl
forget (Ok s) x = refl

-- behind a piece the others are read
pub more : (quote : Quote) (p q : Place) (x : List ℕ) → goes_on quote p ≡ true → tokens.piece (is_cooked quote) p ≡ Ok (x, q) → tokens.pieces quote p ≡ tokens.pieces quote q
unfolding tokens.pieces
more quote p q x m o =
    ap (λ (r : Outcome (List (List ℕ))). and_then r nothing) (many_more (goes_on quote) (tokens.piece (is_cooked quote)) (shorter quote) p q x m o)
    ∙ forget (tokens.many_pieces quote q) x

-- where the string doesn't go on, no piece is
pub done : (quote : Quote) (p : Place) → goes_on quote p ≡ false → tokens.pieces quote p ≡ Ok (tt, p)
unfolding tokens.pieces
done quote p m =
    ap (λ (r : Outcome (List (List ℕ))). and_then r nothing) (many_end (goes_on quote) (tokens.piece (is_cooked quote)) (shorter quote) p m)

-- where a piece isn't read, the pieces are refused as it is
pub wrong : (quote : Quote) (p : Place) (e : ReadError) → goes_on quote p ≡ true → tokens.piece (is_cooked quote) p ≡ Err e → tokens.pieces quote p ≡ Err e
unfolding tokens.pieces
wrong quote p e m o =
    ap (λ (r : Outcome (List (List ℕ))). and_then r nothing) (many_wrong (goes_on quote) (tokens.piece (is_cooked quote)) (shorter quote) p e m o)
