-- The bytes that pieces and tildes are told by.
use Rattle.std.specs.Prelude.{ℕ}

abbrev pub dollar_sign : ℕ
dollar_sign = 36

abbrev pub open_brace : ℕ
open_brace = 123

abbrev pub close_brace : ℕ
close_brace = 125

abbrev pub colon : ℕ
colon = 58

abbrev pub minus_sign : ℕ
minus_sign = 45

abbrev pub underscore : ℕ
underscore = 95

abbrev pub tilde_sign : ℕ
tilde_sign = 126

abbrev pub slash : ℕ
slash = 47
