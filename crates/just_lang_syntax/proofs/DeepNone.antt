-- The readers in which no expression stands: none of them is too deep.
use Rattle.std.proofs.Common.{◌≡◌, ℕ, ◌==◌, Bool, true, false, ◌&&◌, List, [], ◌∷◌, Option, Some, None, Err, codes, encode_utf8_all}
use Rattle.just_lang_read.specs.Place.{Place, next, past, run, between, first, starts, sees, begins, behind_text, is_end}
use Rattle.just_lang_read.specs.Reader.{expect, many}
use Rattle.just_lang_read.specs.declared.error.ReadError.TheVariants.{Depth}
use Rattle.just_lang_syntax.specs.declared.ast.Name.{Name}
use Rattle.just_lang_read.specs.declared.quote.Quote.{Quote}
use Rattle.just_lang_syntax.specs.declared.ast.Attribute.{Attribute}
use Rattle.just_lang_syntax.specs.declared.form.Form.{Form}
use Rattle.just_lang_read.specs.Characters.{begins_name, is_hex, in_line}
use Rattle.just_lang_read.specs.Lines.{is_word, crlf}
use Rattle.just_lang_read.specs.Quotes.{mark, is_cooked, quote_at, behind_x, begins_string, letter_meant, goes_on}
use Rattle.just_lang_syntax.specs.Forms.{has_colon}
use Rattle.just_lang_syntax.specs.Bodies.{is_text}
use Rattle.just_lang_syntax.specs.Items.{goes_on as goes_on_string}
use Rattle.just_lang_syntax.specs.Meanings.{text_of}
use Rattle.just_lang_syntax.specs.ItemReaders as item
use Rattle.just_lang_syntax.specs.Readers as reader
use Rattle.just_lang_read.specs.Tokens as tokens
use Rattle.just_lang_syntax.proofs.DeepChains.{shallow_ok, shallow_refuse, shallow_if, shallow_then, shallow_gives, shallow_many}

-- ---- tokens, names and lines

-- a character isn't
expect_shallow : (c : ℕ) (p : Place) → expect c p ≡ Err Depth → ⊥
unfolding expect
expect_shallow c p h = shallow_if (sees c p) _ _ (λ k. shallow_ok _ k) (λ k. shallow_refuse p k) h

-- nor a token
pub token_shallow : (text : List ℕ) (p : Place) → tokens.token text p ≡ Err Depth → ⊥
unfolding tokens.token
token_shallow text p h = shallow_if (begins text p) _ _ (λ k. shallow_ok _ k) (λ k. shallow_refuse p k) h

-- nor a word
pub word_shallow : (text : List ℕ) (p : Place) → tokens.word text p ≡ Err Depth → ⊥
unfolding tokens.word
word_shallow text p h = shallow_if (is_word text p) _ _ (λ k. shallow_ok _ k) (λ k. shallow_refuse p k) h

-- nor a name
pub name_shallow : (p : Place) → reader.name p ≡ Err Depth → ⊥
unfolding reader.name
name_shallow p h = shallow_if (starts begins_name p) _ _ (λ k. shallow_ok _ k) (λ k. shallow_refuse p k) h

-- nor a token that may be left out
pub maybe_shallow : (text : List ℕ) (p : Place) → tokens.maybe text p ≡ Err Depth → ⊥
unfolding tokens.maybe
maybe_shallow text p h =
    shallow_if (begins text p) _ _ (λ k. shallow_gives (tokens.token text p) (λ _. true) (token_shallow text p) k) (λ k. shallow_ok _ k) h

-- nor `::` and a name
further_name_shallow : (p : Place) → reader.further_name p ≡ Err Depth → ⊥
unfolding reader.further_name
further_name_shallow p h = shallow_then (tokens.token (codes "::") p) _ (token_shallow (codes "::") p) (λ u m k. name_shallow m k) h

-- nor a path
pub path_shallow : (p : Place) → reader.path p ≡ Err Depth → ⊥
unfolding reader.path
path_shallow p h =
    shallow_then (reader.name p) _ (name_shallow p)
    (λ n m k. shallow_gives (many (begins (codes "::")) reader.further_name m) (λ ns. n ∷ ns) (shallow_many (begins (codes "::")) reader.further_name further_name_shallow m) k) h

-- nor the end of a line
pub newline_shallow : (p : Place) → tokens.newline p ≡ Err Depth → ⊥
unfolding tokens.newline
newline_shallow p h =
    shallow_if (is_end p) _ _ (λ k. shallow_ok _ k)
    (λ k. shallow_if (sees 10 p) _ _ (λ i. shallow_ok _ i) (λ i. shallow_if (begins crlf p) _ _ (λ j. shallow_ok _ j) (λ j. shallow_refuse p j) i) k) h

-- nor a comment
pub comment_shallow : (p : Place) → reader.comment p ≡ Err Depth → ⊥
unfolding reader.comment
comment_shallow p h = shallow_gives (tokens.newline (past in_line p)) _ (newline_shallow (past in_line p)) h

-- nor the rest of a line
pub rest_shallow : (p : Place) → reader.rest p ≡ Err Depth → ⊥
unfolding reader.rest
rest_shallow p h =
    shallow_if (sees 35 p) _ _ (λ k. shallow_gives (reader.comment p) (λ t. Some t) (comment_shallow p) k)
    (λ k. shallow_gives (tokens.newline p) (λ _. None) (newline_shallow p) k) h

-- ---- strings

-- the digits of an escape aren't too deep
number_shallow : (p : Place) → tokens.number p ≡ Err Depth → ⊥
unfolding tokens.number
number_shallow p h = shallow_if (starts is_hex p && tokens.is_number (run is_hex p.rest)) _ _ (λ k. shallow_ok _ k) (λ k. shallow_refuse p k) h

-- nor a character by its number
unicode_shallow : (p : Place) → tokens.unicode p ≡ Err Depth → ⊥
unfolding tokens.unicode
unicode_shallow p h =
    shallow_then (expect 123 p) _ (expect_shallow 123 p)
    (λ u m k. shallow_then (tokens.number m) _ (number_shallow m) (λ c n i. shallow_gives (expect 125 n) (λ _. c ∷ []) (expect_shallow 125 n) i) k) h

-- nor a letter that an escape has
letter_shallow : (o : Option ℕ) (p : Place) → tokens.letter_of o p ≡ Err Depth → ⊥
letter_shallow None p h = shallow_refuse p h
letter_shallow (Some d) p h = shallow_ok _ h

-- nor what begins with that character behind a backslash
escape_of_shallow : (o : Option ℕ) (p : Place) → tokens.escape_of o p ≡ Err Depth → ⊥
escape_of_shallow None p h = shallow_refuse p h
escape_of_shallow (Some c) p h =
    shallow_if (c == 117) _ _ (λ k. unicode_shallow (next p) k)
    (λ k.
    shallow_if (c == 10) _ _ (λ i. shallow_ok _ i)
    (λ i. shallow_if (c == 13) _ _ (λ j. shallow_gives (expect 10 (next p)) (λ _. []) (expect_shallow 10 (next p)) j) (λ j. letter_shallow (letter_meant c) p j) i) k) h

-- nor an escape
escape_shallow : (p : Place) → tokens.escape p ≡ Err Depth → ⊥
unfolding tokens.escape
escape_shallow p h = escape_of_shallow (first p) p h

-- nor a piece that begins with that character
piece_of_shallow : (cooked : Bool) (o : Option ℕ) (p : Place) → tokens.piece_of cooked o p ≡ Err Depth → ⊥
piece_of_shallow cooked None p h = shallow_refuse p h
piece_of_shallow cooked (Some c) p h = shallow_if (cooked && c == 92) _ _ (λ k. escape_shallow (next p) k) (λ k. shallow_ok _ k) h

-- nor a piece of a string
piece_shallow : (cooked : Bool) (p : Place) → tokens.piece cooked p ≡ Err Depth → ⊥
unfolding tokens.piece
piece_shallow cooked p h = piece_of_shallow cooked (first p) p h

-- nor its pieces
pieces_shallow : (quote : Quote) (p : Place) → tokens.pieces quote p ≡ Err Depth → ⊥
unfolding tokens.pieces
pieces_shallow quote p h =
    shallow_gives (tokens.many_pieces quote p) (λ _. tt) (shallow_many (goes_on quote) (tokens.piece (is_cooked quote)) (piece_shallow (is_cooked quote)) p) h

-- nor the closing quote
close_shallow : (quote : Quote) (raw : List ℕ) (p : Place) → reader.close quote raw p ≡ Err Depth → ⊥
close_shallow quote raw p h = shallow_if (begins (mark quote) p) _ _ (λ k. shallow_ok _ k) (λ k. shallow_refuse p k) h

-- nor what stands up to it
raw_shallow : (quote : Quote) (p : Place) → reader.raw_text quote p ≡ Err Depth → ⊥
unfolding reader.raw_text
raw_shallow quote p h = shallow_then (tokens.pieces quote p) _ (pieces_shallow quote p) (λ u m k. close_shallow quote (encode_utf8_all (between p m)) m k) h

-- nor a string with that quote
quoted_shallow : (o : Option Quote) (p m : Place) → reader.quoted p o m ≡ Err Depth → ⊥
quoted_shallow None p m h = shallow_refuse m h
quoted_shallow (Some quote) p m h =
    shallow_then (reader.raw_text quote (behind_text (mark quote) m)) _ (raw_shallow quote (behind_text (mark quote) m)) (λ raw n k. shallow_ok _ k) h

-- a string isn't too deep
pub string_shallow : (p : Place) → reader.string p ≡ Err Depth → ⊥
unfolding reader.string
string_shallow p h = quoted_shallow (quote_at (behind_x p)) p (behind_x p) h

-- nor a sign of a comparison
pub comparison_shallow : (p : Place) → reader.comparison p ≡ Err Depth → ⊥
unfolding reader.comparison
comparison_shallow p h =
    shallow_if (begins (codes "==") p) _ _ (λ k. shallow_gives (tokens.token (codes "==") p) _ (token_shallow (codes "==") p) k)
    (λ k. shallow_gives (tokens.token (codes "!=") p) _ (token_shallow (codes "!=") p) k) h

-- ---- parts of items

-- nor a comma that may be left out
pub trailing_shallow : (p : Place) → item.trailing p ≡ Err Depth → ⊥
unfolding item.trailing
trailing_shallow p h = shallow_if (begins (codes ",") p) _ _ (λ k. token_shallow (codes ",") p k) (λ k. shallow_ok _ k) h

-- nor the number of a key
pub number_argument_shallow : (n : Name) (p : Place) → item.number_argument n p ≡ Err Depth → ⊥
unfolding item.number_argument
number_argument_shallow n p h =
    shallow_then (reader.string p) _ (string_shallow p) (λ s m k. shallow_if (item.is_some_decimal (text_of s)) _ _ (λ i. shallow_ok _ i) (λ i. shallow_refuse m i) k) h

-- nor the string behind a colon
pub colon_shallow : (form : Form) (p : Place) → item.colon_argument form p ≡ Err Depth → ⊥
colon_shallow form p h =
    shallow_if (has_colon form) _ _
    (λ k. shallow_then (tokens.token (codes ":") p) _ (token_shallow (codes ":") p) (λ u m i. shallow_gives (reader.string m) _ (string_shallow m) i) k)
    (λ k. shallow_refuse p k) h

-- nor a letter of a text
letter_of_shallow : (o : Option ℕ) (p : Place) → item.letter_of o p ≡ Err Depth → ⊥
letter_of_shallow None p h = shallow_refuse p h
letter_of_shallow (Some c) p h = shallow_ok _ h

-- nor four braces, or a letter
text_letter_shallow : (p : Place) → item.letter p ≡ Err Depth → ⊥
unfolding item.letter
text_letter_shallow p h = shallow_if (begins (codes "{{{{") p) _ _ (λ k. shallow_ok _ k) (λ k. letter_of_shallow (first p) p k) h

-- nor the text of a body line
pub text_shallow : (p : Place) → item.text p ≡ Err Depth → ⊥
unfolding item.text
text_shallow p h = shallow_gives (many is_text item.letter p) _ (shallow_many is_text item.letter text_letter_shallow p) h

-- ---- items

-- nor an alias
pub alias_shallow : (p : Place) → item.alias p ≡ Err Depth → ⊥
unfolding item.alias
alias_shallow p h =
    shallow_then (tokens.token (codes "alias") p) _ (token_shallow (codes "alias") p)
    (λ u m i.
    shallow_then (reader.name m) _ (name_shallow m)
    (λ n o j.
    shallow_then (tokens.token (codes ":=") o) _ (token_shallow (codes ":=") o)
    (λ v r k. shallow_then (reader.path r) _ (path_shallow r) (λ target s l. shallow_gives (reader.rest s) _ (rest_shallow s) l) k) j) i) h

-- nor an import
pub import_shallow : (p : Place) → item.import p ≡ Err Depth → ⊥
unfolding item.import
import_shallow p h =
    shallow_then (tokens.token (codes "import") p) _ (token_shallow (codes "import") p)
    (λ u m i.
    shallow_then (tokens.maybe (codes "?") m) _ (maybe_shallow (codes "?") m)
    (λ b n j. shallow_then (reader.string n) _ (string_shallow n) (λ s o k. shallow_gives (reader.rest o) _ (rest_shallow o) k) j) i) h

-- nor the string behind a module
module_path_shallow : (p : Place) → item.module_path p ≡ Err Depth → ⊥
unfolding item.module_path
module_path_shallow p h =
    shallow_if (begins_string p) _ _ (λ k. shallow_gives (reader.string p) (λ s. Some s) (string_shallow p) k) (λ k. shallow_ok _ k) h

-- nor a module
pub module_shallow : (xs : List Attribute) (p : Place) → item.module_item xs p ≡ Err Depth → ⊥
unfolding item.module_item
module_shallow xs p h =
    shallow_then (tokens.token (codes "mod") p) _ (token_shallow (codes "mod") p)
    (λ u m i.
    shallow_then (tokens.maybe (codes "?") m) _ (maybe_shallow (codes "?") m)
    (λ b n j.
    shallow_then (reader.name n) _ (name_shallow n)
    (λ x o k. shallow_then (item.module_path o) _ (module_path_shallow o) (λ s r l. shallow_gives (reader.rest r) _ (rest_shallow r) l) k) j) i) h

-- nor an unexport
pub unexport_shallow : (p : Place) → item.unexport p ≡ Err Depth → ⊥
unfolding item.unexport
unexport_shallow p h =
    shallow_then (tokens.token (codes "unexport") p) _ (token_shallow (codes "unexport") p)
    (λ u m i. shallow_then (reader.name m) _ (name_shallow m) (λ n o j. shallow_gives (reader.rest o) _ (rest_shallow o) j) i) h

-- nor the value of a flag
pub truth_shallow : (p : Place) → item.truth p ≡ Err Depth → ⊥
unfolding item.truth
truth_shallow p h =
    shallow_if (is_word (codes "true") p) _ _ (λ k. shallow_gives (tokens.word (codes "true") p) (λ _. true) (word_shallow (codes "true") p) k)
    (λ k. shallow_gives (tokens.word (codes "false") p) (λ _. false) (word_shallow (codes "false") p) k) h

-- nor a string behind a comma
further_string_shallow : (p : Place) → item.further_string p ≡ Err Depth → ⊥
unfolding item.further_string
further_string_shallow p h = shallow_then (tokens.token (codes ",") p) _ (token_shallow (codes ",") p) (λ u m k. string_shallow m k) h

-- nor strings behind commas
string_list_shallow : (p : Place) → item.string_list p ≡ Err Depth → ⊥
unfolding item.string_list
string_list_shallow p h =
    shallow_then (reader.string p) _ (string_shallow p)
    (λ s m k. shallow_gives (many goes_on_string item.further_string m) _ (shallow_many goes_on_string item.further_string further_string_shallow m) k) h

-- nor these with a comma behind them
some_strings_shallow : (p : Place) → item.some_strings p ≡ Err Depth → ⊥
unfolding item.some_strings
some_strings_shallow p h =
    shallow_if (begins_string p) _ _
    (λ k. shallow_then (item.string_list p) _ (string_list_shallow p) (λ xs m i. shallow_gives (item.trailing m) _ (trailing_shallow m) i) k)
    (λ k. shallow_ok _ k) h

-- nor strings in brackets
pub strings_shallow : (p : Place) → item.strings p ≡ Err Depth → ⊥
unfolding item.strings
strings_shallow p h =
    shallow_then (tokens.token (codes "[") p) _ (token_shallow (codes "[") p)
    (λ u m i.
    shallow_then (item.some_strings m) _ (some_strings_shallow m)
    (λ xs n j. shallow_gives (tokens.token (codes "]") n) _ (token_shallow (codes "]") n) j) i) h
