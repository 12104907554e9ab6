-- How a text is cut into pieces.
use Rattle.std.specs.Prelude.{◌≡◌, ◌≢◌, ◌⊎◌, ℕ, List, [], ◌∷◌, ◌++◌, Bool, true, ◌||◌, false, ◌==◌}
use Rattle.std.specs.List.{AllByRecursion}
use Rattle.std.specs.Char.{encode_utf8}
use Rattle.std.specs.Str.{encode_utf8_all}
use Rattle.unicode.specs.Binary.{is_alphabetic}
use Rattle.unicode.specs.GeneralCategory.{general_category}
use Rattle.unicode.specs.GeneralCategoryGroup.{in_group}
use Rattle.ucd_category.specs.declared.GeneralCategoryGroup.TheVariants.{Number}
use Rattle.just_expand.specs.Bytes.{dollar_sign, open_brace, close_brace, colon, minus_sign, underscore}

-- whether a character may stand in a name without braces: a letter, a number or `_`
unfoldable pub is_name_char : ℕ → Bool
is_name_char c = (is_alphabetic c || in_group Number (general_category c)) || c == underscore

-- the byte b doesn't stand in the text
abbrev pub Lacks : ℕ → List ℕ → Type 0
Lacks b t = AllByRecursion (λ x. x ≢ b) t

-- the text doesn't begin with the byte b
abbrev pub BeginsWithout : ℕ → List ℕ → Type 0
BeginsWithout b t = (rest : List ℕ) → t ≢ b ∷ rest

-- the text is empty or begins with the byte b
abbrev pub EndsOrBegins : ℕ → List ℕ → Type 0
EndsOrBegins b t = (t ≡ []) ⊎ ((rest : List ℕ) × (t ≡ b ∷ rest))

-- the text is a run of name characters
abbrev pub IsNameRun : List ℕ → Type 0
IsNameRun t = (cs : List ℕ) × (t ≡ encode_utf8_all cs) × AllByRecursion (λ c. is_name_char c ≡ true) cs

-- no name character begins the text
abbrev pub BeginsWithoutName : List ℕ → Type 0
BeginsWithoutName t = (c : ℕ) (rest : List ℕ) → t ≡ encode_utf8 c ++ rest → is_name_char c ≡ false

-- the text begins with `:-`
abbrev pub BeginsWithMark : List ℕ → Type 0
BeginsWithMark t = (rest : List ℕ) × (t ≡ colon ∷ minus_sign ∷ rest)

-- `:-` doesn't stand in the text
abbrev pub LacksMark : List ℕ → Type 0
LacksMark t = (front rest : List ℕ) → t ≢ front ++ (colon ∷ minus_sign ∷ rest)

-- a piece: plain text, `$$`, `$n`, `${n}`, `${n:-d}`, a `${` that no `}` closes, and any other `$`
pub data Piece : Type 0 where
  plain : List ℕ → Piece
  dollar : Piece
  bare : List ℕ → Piece
  braced : List ℕ → Piece
  defaulted : List ℕ → List ℕ → Piece
  unclosed : Piece
  lone : Piece

-- the bytes of a piece, as it is written
abbrev pub piece_text : Piece → List ℕ
piece_text (plain t) = t
piece_text dollar = dollar_sign ∷ dollar_sign ∷ []
piece_text (bare n) = dollar_sign ∷ n
piece_text (braced n) = dollar_sign ∷ open_brace ∷ (n ++ (close_brace ∷ []))
piece_text (defaulted n d) = dollar_sign ∷ open_brace ∷ (n ++ (colon ∷ minus_sign ∷ (d ++ (close_brace ∷ []))))
piece_text unclosed = dollar_sign ∷ open_brace ∷ []
piece_text lone = dollar_sign ∷ []

-- the piece may stand in front of the text `rest`: what makes its bytes that piece. Plain text and a name without braces go
-- on as far as they can. A name in braces ends at the first `}`; there the first `:-` parts name and default, but
-- where it stands in front, the whole inside is the name.
abbrev pub StandsBefore : Piece → List ℕ → Type 0
StandsBefore (plain t) rest = (t ≢ []) × Lacks dollar_sign t × EndsOrBegins dollar_sign rest
StandsBefore dollar rest = Unit {0}
StandsBefore (bare n) rest = (n ≢ []) × IsNameRun n × BeginsWithoutName rest
StandsBefore (braced n) rest = Lacks close_brace n × (BeginsWithMark n ⊎ LacksMark n)
StandsBefore (defaulted n d) rest = (n ≢ []) × Lacks close_brace n × LacksMark n × Lacks close_brace d
StandsBefore unclosed rest = Lacks close_brace rest
StandsBefore lone rest = BeginsWithout dollar_sign rest × BeginsWithout open_brace rest × BeginsWithoutName rest

-- the text is that piece, and then `rest`
abbrev pub Begins : List ℕ → Piece → List ℕ → Type 0
Begins t p rest = (t ≡ piece_text p ++ rest) × StandsBefore p rest

-- the text is these pieces, and then `rest`
abbrev pub Cuts : List ℕ → List Piece → List ℕ → Type 0
Cuts t [] rest = t ≡ rest
Cuts t (p ∷ ps) rest = (behind : List ℕ) × Begins t p behind × Cuts behind ps rest

-- there is one way at most to cut the whole text
unfoldable pub HasOneCut : List ℕ → Type 0
HasOneCut t = (ps qs : List Piece) → Cuts t ps [] → Cuts t qs [] → ps ≡ qs
