-- Bytes that aren't UTF-8, and where they break.
use Rattle.std.specs.Prelude.{◌≡◌, ℕ, Option, List, [], ◌∷◌, ◌++◌, drop}
use Rattle.std.specs.Str.{IsUtf8}
use Rattle.std.specs.Str.Lossy.{utf8_valid_len, utf8_error_len, utf8_lossy, replacement_bytes}

-- the bytes aren't UTF-8; their longest front that is has that length, and the sequence behind it breaks after so many bytes
pub record Breaks (bytes : List ℕ) (up_to : ℕ) (len : Option ℕ) : Type 0 where
  pub not_text : IsUtf8 bytes → ⊥
  pub front : up_to ≡ utf8_valid_len bytes
  pub broken : len ≡ utf8_error_len (drop (utf8_valid_len bytes) bytes)

-- the text of an error that keeps the bytes: what they were for, and the bytes with U+FFFD for each broken sequence
abbrev pub shown_with : List ℕ → List ℕ → List ℕ
shown_with head bytes = head ++ utf8_lossy bytes

-- U+FFFD for a broken sequence, nothing where there is none
abbrev pub mark_of : List ℕ → List ℕ
mark_of [] = []
mark_of (b ∷ bs) = replacement_bytes

-- what is shown of a stretch of text with the broken sequence behind it
abbrev pub chunk_shown : List ℕ → List ℕ → List ℕ
chunk_shown text broken = text ++ mark_of broken
