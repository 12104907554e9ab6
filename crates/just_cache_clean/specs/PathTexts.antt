-- How the code reads a module path.
use Rattle.std.specs.Prelude.{◌≡◌, ◌⊎◌, ◌++◌, ℕ, ◌==◌, ◌&&◌, Bool, true, false, if◌then◌else◌, List, [], ◌∷◌}
use Rattle.std.specs.List.{fold}
use Rattle.just_lang_read.specs.Characters.{begins_name, in_name}
use Rattle.just_cache_clean.specs.EntryTexts.{front1, front2, back}
use Rattle.just_cache_clean.specs.declared.place.Place.{Place}
use Rattle.just_cache_clean.specs.declared.place.Place.TheVariants.{Begin, Within, Colon, Nowhere}

-- the place behind a byte
abbrev pub behind_byte : Place → ℕ → Place
behind_byte Begin c = if begins_name c then Within else Nowhere
behind_byte Within c = if in_name c then Within else (if c == 58 then Colon else Nowhere)
behind_byte Colon c = if c == 58 then Begin else Nowhere
behind_byte Nowhere c = Nowhere

abbrev pub is_within : Place → Bool
is_within Begin = false
is_within Within = true
is_within Colon = false
is_within Nowhere = false

-- whether a text is a module path
abbrev pub is_path : List ℕ → Bool
is_path text = is_within (fold behind_byte Begin text)

-- nothing, or two colons
abbrev pub ends_name : List ℕ → Bool
ends_name [] = true
ends_name (c ∷ []) = false
ends_name (c ∷ d ∷ rest) = c == 58 && d == 58

-- a text begins with another one, behind which nothing or two colons stand
abbrev pub BeginsText : List ℕ → List ℕ → Type 0
BeginsText prefix text = (rest : List ℕ) × (text ≡ prefix ++ rest) × (ends_name rest ≡ true)

-- a text is a module path that doesn't begin with another one
pub record IsOtherText (prefix text : List ℕ) : Type 0 where
  pub path : is_path text ≡ true
  pub other : BeginsText prefix text → ⊥

-- a text is the entry of such a path
abbrev pub StaysText : List ℕ → List ℕ → List ℕ → Type 0
StaysText prefix digest text = (inner : List ℕ) × ((text ≡ front1 ++ (inner ++ back)) ⊎ (text ≡ front2 digest ++ (inner ++ back))) × IsOtherText prefix inner
