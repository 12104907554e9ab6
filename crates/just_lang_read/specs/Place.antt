-- A place in a text, and the places behind it.
use Rattle.std.specs.Prelude.{◌≡◌, ℕ, ◌+◌, ◌-◌, Bool, false, true, ◌&&◌, List, [], ◌∷◌, length, take, if◌then◌else◌, ◌==◌, Option, Some, None, refl}
use Rattle.std.specs.Coded.{Coded, code_by, coded×, coded_ℕ, coded_list}

-- the characters from here to the end of the text, and the line and the column of the first of them, from 1
pub record Place : Type 0 where
  pub rest : List ℕ
  pub line : ℕ
  pub column : ℕ

-- a place as its three parts
abbrev pub place_code : Coded Place
place_code = code_by (List ℕ × (ℕ × ℕ)) (coded× (coded_list coded_ℕ) (coded× coded_ℕ coded_ℕ))
    (λ p. (p.rest, (p.line, p.column))) (λ d. record { rest = d.0; line = d.1.0; column = d.1.1 }) (λ _. refl)

-- the place with those characters left, on that line in that column
abbrev pub at : List ℕ → ℕ → ℕ → Place
at rest line column = record { rest = rest; line = line; column = column }

-- where a text begins
abbrev pub start : List ℕ → Place
start text = at text 1 1

-- behind a character that stood at that line and column
abbrev pub behind : ℕ → List ℕ → ℕ → ℕ → Place
behind c rest line column = if c == 10 then at rest (line + 1) 1 else at rest line (column + 1)

-- the place behind the first of these characters, which stands at that line and column
abbrev pub next_in : List ℕ → ℕ → ℕ → Place
next_in [] line column = at [] line column
next_in (c ∷ rest) line column = behind c rest line column

-- the place behind the first character, where there is one
unfoldable pub next : Place → Place
next p = next_in p.rest p.line p.column

-- the place behind the longest run of characters that pass the test, from that line and column
abbrev pub past_in : (ℕ → Bool) → List ℕ → ℕ → ℕ → Place
past_in test [] line column = at [] line column
past_in test (c ∷ rest) line column =
    if test c then (if c == 10 then past_in test rest (line + 1) 1 else past_in test rest line (column + 1)) else at (c ∷ rest) line column

-- the same from a place
unfoldable pub past : (ℕ → Bool) → Place → Place
past test p = past_in test p.rest p.line p.column

-- that run: the characters in front that pass the test
abbrev pub run : (ℕ → Bool) → List ℕ → List ℕ
run test [] = []
run test (c ∷ rest) = if test c then c ∷ run test rest else []

-- whether a text is empty
abbrev pub is_empty : List ℕ → Bool
is_empty [] = true
is_empty (c ∷ rest) = false

-- whether the text ends here
abbrev pub is_end : Place → Bool
is_end p = is_empty p.rest

-- the first character of a text, where there is one
abbrev pub first_in : List ℕ → Option ℕ
first_in [] = None
first_in (c ∷ rest) = Some c

-- the same from a place
abbrev pub first : Place → Option ℕ
first p = first_in p.rest

-- whether there is a character, and it passes the test
abbrev pub passes : (ℕ → Bool) → Option ℕ → Bool
passes test None = false
passes test (Some c) = test c

-- whether the first character from a place passes the test
abbrev pub starts : (ℕ → Bool) → Place → Bool
starts test p = passes test (first p)

-- whether that character is the first from a place
abbrev pub sees : ℕ → Place → Bool
sees c p = starts (λ d. d == c) p

abbrev pub begins_in : List ℕ → List ℕ → Bool
begins_in [] rest = true
begins_in (c ∷ text) [] = false
begins_in (c ∷ text) (d ∷ rest) = d == c && begins_in text rest

-- whether these characters are the first
abbrev pub begins : List ℕ → Place → Bool
begins text p = begins_in text p.rest

-- the place as many characters on as the text has
abbrev pub behind_text : List ℕ → Place → Place
behind_text [] p = p
behind_text (c ∷ text) p = behind_text text (next p)

-- what stands between two places of one text
abbrev pub between : Place → Place → List ℕ
between p q = take (length p.rest - length q.rest) p.rest

-- from p to q stands that character and nothing else
abbrev pub IsCharacter : ℕ → Place → Place → Type 0
IsCharacter c p q = (sees c p ≡ true) × (q ≡ next p)

-- what it is for a value to stand from one place to another
abbrev pub Rule : Type 0 → Type 1
Rule A = Place → Place → A → Type 0

-- from p to q stand these values, each directly behind the one before it
abbrev pub AreMany : {A : Type 0} → Rule A → Place → Place → List A → Type 0
AreMany Is p q [] = q ≡ p
AreMany Is p q (x ∷ xs) = (m : Place) × Is p m x × AreMany Is m q xs
