-- What the code reads from a place on, step by step. That this is what the grammar says is proved in proofs/.
use Rattle.std.specs.Prelude.{◌≡◌, ℕ, Bool, true, false, not, ◌&&◌, ◌||◌, ◌==◌, if◌then◌else◌, List, [], ◌∷◌, map, Option, Some, None, Result, Ok, Err, codes, encode_utf8_all, bytes_eq}
use Rattle.just_lang_read.specs.Place.{Place, next, past, run, first, starts, sees, is_end}
use Rattle.just_lang_read.specs.Reader.{Outcome, Reader, ◌>>=◌, ◌>>◌, pure, refuse, expect, many}
use Rattle.just_lang_read.specs.declared.error.ReadError.{ReadError}
use Rattle.just_lang_read.specs.declared.error.ReadError.TheVariants.{Syntax}
use Rattle.just_dotenv.specs.declared.error.DotenvError.{DotenvError}
use Rattle.just_dotenv.specs.declared.error.DotenvError.TheVariants.{Line, NoMemory}
use Rattle.just_dotenv.specs.declared.part.Part.{Part}
use Rattle.just_dotenv.specs.declared.part.Part.TheVariants.{Letter, Name, Braced, Gap, Sign}
use Rattle.just_dotenv.specs.Characters.{is_blank, begins_name, in_word, in_name, in_line, in_single_quotes, in_value, is_plain, escape, dollar_sign, backslash, open_brace, single_quote, double_quote, number_sign, equals_sign, line_feed, carriage_return}
use Rattle.just_dotenv.specs.Grammar.{behind_blanks, is_braced, is_closed, is_gap, is_close, has_bare_value, word, Entry}
use Rattle.just_dotenv.specs.Meaning.{Pairs, value_text, entry_pair}

-- ---- parts

-- behind `${`, or else behind the `$` alone, which is q
unfoldable pub brace : Place → Reader Part
brace n = λ q. if is_braced n then Ok (Braced (encode_utf8_all (run in_word n.rest)), next (past in_word n)) else Ok (Gap, q)

-- behind the `$`
unfoldable pub dollar : Reader Part
dollar = λ q.
    if starts in_word q then Ok (Name (encode_utf8_all (run in_word q.rest)), past in_word q)
    else (if sees open_brace q then brace (next q) q else Ok (Sign, q))

-- that character, where there is one
abbrev pub letter : Option ℕ → Reader Part
letter None = refuse
letter (Some c) = λ q. Ok (Letter c, q)

-- what a backslash makes with that character
abbrev pub escape_of : Option ℕ → Reader Part
escape_of None = refuse
escape_of (Some c) = λ m. letter (escape c) (next m)

-- behind the backslash
unfoldable pub escape_at : Reader Part
escape_at = λ m. escape_of (first m) m

-- a part that begins with that character
abbrev pub part_of : Bool → Option ℕ → Reader Part
part_of quoted None = refuse
part_of quoted (Some c) = λ p.
    if is_plain quoted c then Ok (Letter c, next p)
    else (if c == dollar_sign then dollar (next p) else (if quoted && c == backslash then escape_at (next p) else Err Syntax))

-- the next part
unfoldable pub part : Bool → Reader Part
part quoted = λ p. part_of quoted (first p) p

-- ---- values

-- the parts for as long as the value goes on
unfoldable pub parts : Bool → Reader (List Part)
parts quoted = many (starts (in_value quoted)) (part quoted)

-- takes nothing, and refuses parts with a `${` that no `}` follows
unfoldable pub check_closed : List Part → Reader (List Part)
check_closed v = λ p. if is_closed v then Ok (v, p) else Err Syntax

-- parts without such a `${`
unfoldable pub closed_parts : Bool → Reader (List Part)
closed_parts quoted = parts quoted >>= check_closed

-- behind the first quote
unfoldable pub single_quoted_value : Reader (List Part)
single_quoted_value = λ m. (expect single_quote >> pure (map Letter (run in_single_quotes m.rest))) (past in_single_quotes m)

-- the same for a double quoted value
unfoldable pub double_quoted_value : Reader (List Part)
double_quoted_value = do
  v ← closed_parts true
  expect double_quote
  pure v

-- behind the `=`
unfoldable pub value : Reader (List Part)
value = λ p.
    if sees single_quote (behind_blanks p) then single_quoted_value (next (behind_blanks p))
    else (if sees double_quote (behind_blanks p) then double_quoted_value (next (behind_blanks p)) else (if has_bare_value p then closed_parts false (behind_blanks p) else Ok ([], p)))

-- a value as its text
abbrev pub as_text : Pairs → Pairs → Reader (List Part) → Reader (List ℕ)
as_text environ earlier r = r >>= (λ v. pure (value_text environ earlier v))

-- whether a `${` waits for a `}`, behind a part
abbrev pub waits : Part → Bool → Bool
waits x before = is_gap x || (before && not (is_close x))

-- the same behind some parts
abbrev pub waits_behind : Bool → List Part → Bool
waits_behind before [] = before
waits_behind before (x ∷ xs) = waits_behind (waits x before) xs

-- ---- pairs

-- `export`, a blank, and a name behind the blanks
unfoldable pub is_export : Place → Bool
is_export p = bytes_eq (word p) (codes "export") && (starts is_blank (past in_name p) && starts begins_name (behind_blanks (past in_name p)))

-- behind the name
unfoldable pub assignment : List ℕ → Reader Entry
assignment name = λ m. (do
  expect equals_sign
  v ← value
  pure (record { name = name; value = v })) (behind_blanks m)

-- from a name on
unfoldable pub pair : Reader Entry
pair = λ p.
    if is_export p then assignment (word (behind_blanks (past in_name p))) (past in_name (behind_blanks (past in_name p)))
    else assignment (word p) (past in_name p)

-- an entry as its pair
abbrev pub as_pair : Pairs → Pairs → Reader Entry → Reader (List ℕ × List ℕ)
as_pair environ earlier r = r >>= (λ e. pure (entry_pair environ earlier e))

-- ---- lines

-- the end of a line, or of the text
unfoldable pub newline : Reader (Unit {0})
newline = λ p.
    if is_end p then Ok (tt, p)
    else (if sees line_feed p then Ok (tt, next p) else (if sees carriage_return p then expect line_feed (next p) else Err Syntax))

-- blanks, a comment where one may begin, and the end of the line
unfoldable pub rest : Bool → Reader (Unit {0})
rest at_start = λ p. if (at_start || starts is_blank p) && sees number_sign (behind_blanks p) then newline (past in_line (behind_blanks p)) else newline (behind_blanks p)

-- a line, with its pair if it has one
unfoldable pub line : Reader (Option Entry)
line = λ p.
    if starts begins_name (behind_blanks p) then (do
      e ← pair
      rest false
      pure (Some e)) (behind_blanks p)
    else (do
      rest true
      pure None) p

-- the pair that a line means, if it has one
abbrev pub line_pair : Pairs → Pairs → Option Entry → Option (List ℕ × List ℕ)
line_pair environ earlier None = None
line_pair environ earlier (Some e) = Some (entry_pair environ earlier e)

-- a line as that pair
abbrev pub as_line : Pairs → Pairs → Reader (Option Entry) → Reader (Option (List ℕ × List ℕ))
as_line environ earlier r = r >>= (λ x. pure (line_pair environ earlier x))

-- what is told of the line at a place: its pair and where it ends, or its number where none is read there
abbrev pub ReadsLine : {A : Type 0} → Outcome A → ℕ → Result A DotenvError → Place → Type 0
ReadsLine outcome number (Ok a) new = outcome ≡ Ok (a, new)
ReadsLine outcome number (Err (Line n)) new = (n ≡ number) × ((e : ReadError) × (outcome ≡ Err e))
ReadsLine outcome number (Err NoMemory) new = Unit {0}
