-- The characters of the grammar, and its sets of them, each as a test.
use Rattle.std.specs.Prelude.{ℕ, Bool, true, false, not, ◌&&◌, ◌||◌, ◌==◌, Option, Some, None, if◌then◌else◌}
use Rattle.just_lang_read.specs.Characters.{is_digit}
pub use Rattle.just_lang_read.specs.Characters.{is_blank, begins_name, in_line}

-- ---- single characters, by their codes

abbrev pub line_feed : ℕ
line_feed = 10

abbrev pub carriage_return : ℕ
carriage_return = 13

abbrev pub dot : ℕ
dot = 46

abbrev pub single_quote : ℕ
single_quote = 39

abbrev pub double_quote : ℕ
double_quote = 34

abbrev pub backslash : ℕ
backslash = 92

abbrev pub dollar_sign : ℕ
dollar_sign = 36

abbrev pub number_sign : ℕ
number_sign = 35

abbrev pub equals_sign : ℕ
equals_sign = 61

abbrev pub open_brace : ℕ
open_brace = 123

abbrev pub close_brace : ℕ
close_brace = 125

abbrev pub letter_n : ℕ
letter_n = 110

abbrev pub byte_order_mark : ℕ
byte_order_mark = 65279

-- ---- sets

-- a letter, a digit or `_`
abbrev pub in_word : ℕ → Bool
in_word c = begins_name c || is_digit c

-- a letter, a digit, `_` or `.`
abbrev pub in_name : ℕ → Bool
in_name c = in_word c || c == dot

-- anything but a single quote
abbrev pub in_single_quotes : ℕ → Bool
in_single_quotes c = not (c == single_quote)

-- anything but a double quote
abbrev pub in_double_quotes : ℕ → Bool
in_double_quotes c = not (c == double_quote)

-- no blank, no carriage return, no line feed, no quote and no backslash
abbrev pub is_bare : ℕ → Bool
is_bare c = not (is_blank c || c == carriage_return || c == line_feed || c == double_quote || c == single_quote || c == backslash)

-- what may stand in a value of that kind, double quoted or bare
abbrev pub in_value : Bool → ℕ → Bool
in_value true c = in_double_quotes c
in_value false c = is_bare c

-- what stands there for itself: neither `$` nor, in double quotes, a backslash
abbrev pub is_plain : Bool → ℕ → Bool
is_plain quoted c = in_value quoted c && not (c == dollar_sign || c == backslash)

-- what a backslash and the character make: `\\`, `\"`, `\$` that character, and `\n` a line feed
abbrev pub escape : ℕ → Option ℕ
escape c = if c == backslash || c == double_quote || c == dollar_sign then Some c else (if c == letter_n then Some line_feed else None)
