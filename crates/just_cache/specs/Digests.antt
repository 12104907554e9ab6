-- Digests of texts.
use Rattle.std.specs.Prelude.{ℕ, List, Bool, ◌||◌, ◌&&◌, nat_le}
use Rattle.sha2.specs.Sha256.{sha256}
use Rattle.hex.specs.Hex.{encode_lower}

-- the SHA-256 of a text, in hexadecimal digits with lower-case letters
abbrev pub digest : List ℕ → List ℕ
digest text = encode_lower (sha256 text)

abbrev pub is_lower_hex : ℕ → Bool
is_lower_hex c = (nat_le 48 c && nat_le c 57) || (nat_le 97 c && nat_le c 102)
