-- What the entries of a text mean: their values with each `$NAME` and `${NAME}` looked up.
use Rattle.std.specs.Prelude.{ℕ, List, [], ◌∷◌, ◌++◌, flat_map, Option, Some, None, encode_utf8}
use Rattle.just_path_text.specs.Environ.{or_else, value_of}
use Rattle.just_dotenv.specs.Characters.{dollar_sign}
use Rattle.just_dotenv.specs.declared.part.Part.{Part}
use Rattle.just_dotenv.specs.declared.part.Part.TheVariants.{Letter, Name, Braced, Gap, Sign}
use Rattle.just_dotenv.specs.Grammar.{Entry}

-- names and their values, in order
abbrev pub Pairs : Type 0
Pairs = List (List ℕ × List ℕ)

-- a text, or the empty one where there is none
abbrev pub text_or_nothing : Option (List ℕ) → List ℕ
text_or_nothing None = []
text_or_nothing (Some text) = text

-- a name's value: the environment's, else that of the last earlier pair, else nothing
abbrev pub value_in_scope : Pairs → Pairs → List ℕ → List ℕ
value_in_scope environ earlier name = text_or_nothing (or_else (value_of name environ) (value_of name earlier))

-- what a part means: a character itself, a name its value, and a `$` that begins no name a `$`
abbrev pub part_text : Pairs → Pairs → Part → List ℕ
part_text environ earlier (Letter c) = encode_utf8 c
part_text environ earlier (Name name) = value_in_scope environ earlier name
part_text environ earlier (Braced name) = value_in_scope environ earlier name
part_text environ earlier Gap = dollar_sign ∷ []
part_text environ earlier Sign = dollar_sign ∷ []

-- what a value means: its parts, joined
abbrev pub value_text : Pairs → Pairs → List Part → List ℕ
value_text environ earlier v = flat_map (part_text environ earlier) v

-- the pair that an entry means
abbrev pub entry_pair : Pairs → Pairs → Entry → List ℕ × List ℕ
entry_pair environ earlier e = (e.name, value_text environ earlier e.value)

-- the pairs of some lines, behind earlier ones
abbrev pub pairs_from : Pairs → Pairs → List (Option Entry) → Pairs
pairs_from environ earlier [] = earlier
pairs_from environ earlier (None ∷ lines) = pairs_from environ earlier lines
pairs_from environ earlier (Some e ∷ lines) = pairs_from environ (earlier ++ entry_pair environ earlier e ∷ []) lines
