-- The sets of characters of the grammar, each as a test.
use Rattle.std.specs.Prelude.{ℕ, Bool, not, ◌&&◌, ◌||◌, ◌==◌, nat_le}

-- a space or a tab
abbrev pub is_blank : ℕ → Bool
is_blank c = c == 32 || c == 9

-- a letter of ASCII
abbrev pub is_letter : ℕ → Bool
is_letter c = (nat_le 65 c && nat_le c 90) || (nat_le 97 c && nat_le c 122)

abbrev pub is_digit : ℕ → Bool
is_digit c = nat_le 48 c && nat_le c 57

-- what a name begins with: a letter or `_`
abbrev pub begins_name : ℕ → Bool
begins_name c = is_letter c || c == 95

-- what a name holds: a letter, `_`, a digit or `-`
abbrev pub in_name : ℕ → Bool
in_name c = begins_name c || (is_digit c || c == 45)

-- a hexadecimal digit
abbrev pub is_hex : ℕ → Bool
is_hex c = is_digit c || ((nat_le 97 c && nat_le c 102) || (nat_le 65 c && nat_le c 70))

-- anything but a line feed
abbrev pub in_line : ℕ → Bool
in_line c = not (c == 10)

-- `'` or `"`
abbrev pub is_quote : ℕ → Bool
is_quote c = c == 39 || c == 34
