-- The constants of the language.
use Rattle.std.specs.Prelude.{ℕ, List, [], ◌∷◌, Option, Some, None, bytes_eq, codes, if◌then◌else◌}

-- ESC and a text
abbrev pub escape : List ℕ → List ℕ
escape text = 27 ∷ text

-- each constant's name, and its text
abbrev pub constants : List (List ℕ × List ℕ)
constants =
    (codes "HEX", codes "0123456789abcdef")
    ∷ (codes "HEXLOWER", codes "0123456789abcdef")
    ∷ (codes "HEXUPPER", codes "0123456789ABCDEF")
    ∷ (codes "PATH_SEP", codes "/")
    ∷ (codes "PATH_VAR_SEP", codes ":")
    ∷ (codes "CLEAR", escape (codes "c"))
    ∷ (codes "NORMAL", escape (codes "[0m"))
    ∷ (codes "BOLD", escape (codes "[1m"))
    ∷ (codes "ITALIC", escape (codes "[3m"))
    ∷ (codes "UNDERLINE", escape (codes "[4m"))
    ∷ (codes "INVERT", escape (codes "[7m"))
    ∷ (codes "HIDE", escape (codes "[8m"))
    ∷ (codes "STRIKETHROUGH", escape (codes "[9m"))
    ∷ (codes "BLACK", escape (codes "[30m"))
    ∷ (codes "RED", escape (codes "[31m"))
    ∷ (codes "GREEN", escape (codes "[32m"))
    ∷ (codes "YELLOW", escape (codes "[33m"))
    ∷ (codes "BLUE", escape (codes "[34m"))
    ∷ (codes "MAGENTA", escape (codes "[35m"))
    ∷ (codes "CYAN", escape (codes "[36m"))
    ∷ (codes "WHITE", escape (codes "[37m"))
    ∷ (codes "BG_BLACK", escape (codes "[40m"))
    ∷ (codes "BG_RED", escape (codes "[41m"))
    ∷ (codes "BG_GREEN", escape (codes "[42m"))
    ∷ (codes "BG_YELLOW", escape (codes "[43m"))
    ∷ (codes "BG_BLUE", escape (codes "[44m"))
    ∷ (codes "BG_MAGENTA", escape (codes "[45m"))
    ∷ (codes "BG_CYAN", escape (codes "[46m"))
    ∷ (codes "BG_WHITE", escape (codes "[47m"))
    ∷ []

-- the text of a name among pairs of both
abbrev pub text_among : List (List ℕ × List ℕ) → List ℕ → Option (List ℕ)
text_among [] name = None
text_among (x ∷ xs) name = if bytes_eq name x.0 then Some x.1 else text_among xs name

abbrev pub constant_of : List ℕ → Option (List ℕ)
constant_of name = text_among constants name
