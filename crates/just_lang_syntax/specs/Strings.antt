-- Strings: as they are written, and the texts that they mean.
use Rattle.std.specs.Prelude.{◌≡◌, ℕ, true, false, if◌then◌else◌, List, [], ◌∷◌, ◌++◌, Some, chars, encode_utf8_all}
use Rattle.just_lang_read.specs.Place.{Place, AreMany, start, sees, begins, behind_text, between, is_end}
use Rattle.just_lang_read.specs.declared.quote.Quote.{Quote}
use Rattle.just_lang_syntax.specs.declared.ast.StringLiteral.{StringLiteral}
use Rattle.just_lang_read.specs.Indentation.{unindented}
use Rattle.just_lang_read.specs.Lines.{skip}
use Rattle.just_lang_read.specs.Quotes.{mark, is_cooked, is_block, quote_at, behind_x, IsPiece, IsPieceOf}

-- ---- a string as it is written

-- pieces up to the closing quote, and the quote; raw is what stands before it
pub data IsRaw (quote : Quote) (p q : Place) (raw : List ℕ) : Type 0 where
  closed : (m : Place) (pieces : List (List ℕ)) → AreMany (IsPieceOf quote) p m pieces → begins (mark quote) m ≡ true → q ≡ behind_text (mark quote) m
      → raw ≡ encode_utf8_all (between p m) → IsRaw quote p q raw

abbrev pub literal_at : Place → Quote → List ℕ → StringLiteral
literal_at p quote raw = record { expands = sees 120 p; quote = quote; raw = raw; line = p.line; column = p.column }

pub data IsString (p q : Place) (x : StringLiteral) : Type 0 where
  string : (m : Place) (quote : Quote) (raw : List ℕ) → quote_at (behind_x p) ≡ Some quote → IsRaw quote (behind_text (mark quote) (behind_x p)) m raw
      → q ≡ skip m → x ≡ literal_at p quote raw → IsString p q x

-- ---- the text that a string means

abbrev pub concat : List (List ℕ) → List ℕ
concat [] = []
concat (piece ∷ pieces) = piece ++ concat pieces

-- the characters that a text gives by its pieces
pub data IsCooked (text : List ℕ) (gives : List ℕ) : Type 0 where
  cooked : (end : Place) (pieces : List (List ℕ)) → AreMany (IsPiece true) (start text) end pieces → is_end end ≡ true → gives ≡ concat pieces → IsCooked text gives

-- what stands between the quotes, for a block without its indentation
abbrev pub plain_text : StringLiteral → List ℕ
plain_text x = if is_block x.quote then unindented (chars x.raw) else chars x.raw

-- the text that a string means before an `x` in front expands it
pub data IsTextOf (x : StringLiteral) (text : List ℕ) : Type 0 where
  raw : is_cooked x.quote ≡ false → text ≡ encode_utf8_all (plain_text x) → IsTextOf x text
  cooked : (gives : List ℕ) → is_cooked x.quote ≡ true → IsCooked (plain_text x) gives → text ≡ encode_utf8_all gives → IsTextOf x text
