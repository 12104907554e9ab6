-- What the first and the last piece of a text are to it.
use Rattle.std.specs.Prelude.{◌≡◌, ◌<◌, ◌≤◌, ◌+◌, ℕ, suc, false, List, [], ◌∷◌, ◌++◌, length, take, ◌⊎◌}
use Rattle.just_path.specs.Comps.{Comp, comp_text, comps_of_piece, pieces, names, lead_of, is_empty}
use Rattle.just_path.specs.Parts.{pieces_upto, pieces_from, name_slice, text_upto}

-- the piece is the first of a text, and `after` what follows its slash
pub record IsFirstPiece (text piece after : List ℕ) : Type 0 where
  pub split : (pieces text ≡ piece ∷ pieces after) ⊎ ((pieces text ≡ piece ∷ []) × (after ≡ []))
  pub shorter : 0 < length text → length after < length text

-- the piece is the last of a text, and `before` what stands before its slash, or the `low` bytes in front
pub record IsLastPiece (low : ℕ) (text before piece : List ℕ) : Type 0 where
  pub gives : names text ≡ names before ++ comps_of_piece piece
  pub ends : (k : ℕ) → pieces_upto (length (comps_of_piece piece) + k) (pieces text) ≡ pieces_upto k (pieces before)
  pub ends_from : (n k : ℕ) → pieces_upto (length (comps_of_piece piece) + k) (pieces_from n (pieces text)) ≡ pieces_upto k (pieces_from n (pieces before))
  pub whole : is_empty (comps_of_piece piece) ≡ false → pieces_upto 0 (pieces text) ≡ pieces text
  pub begins : lead_of before ≡ lead_of text
  pub front : take low before ≡ take low text
  pub kept : low ≤ length before
  pub stands : (a : List ℕ) × (text ≡ a ++ piece)
  pub shorter : length before < length text

-- a text gives the component first, and `after` the others
pub record HasFirst (text : List ℕ) (first : Comp) (after : List ℕ) : Type 0 where
  pub gives : names text ≡ first ∷ names after
  pub rests : (n k : ℕ) → name_slice (suc n) k text ≡ name_slice n k after
  pub shorter : length after < length text

-- a text gives the component last, and `before` the others
pub record HasLast (text before : List ℕ) (last : Comp) : Type 0 where
  pub gives : names text ≡ names before ++ last ∷ []
  pub cuts : (k : ℕ) → text_upto (suc k) text ≡ text_upto k before
  pub rests : (n k : ℕ) → name_slice n (suc k) text ≡ name_slice n k before
  pub begins : lead_of before ≡ lead_of text
  pub shorter : length before < length text
  pub stands : (a : List ℕ) × (text_upto 0 text ≡ a ++ comp_text last)
