-- Names of recipes.
use Rattle.std.specs.Prelude.{◌≡◌, ℕ, true, List, [], ◌∷◌}
use Rattle.std.specs.List.{list_all}
use Rattle.just_lang_read.specs.Characters.{begins_name, in_name}

-- a whole text is a name
abbrev pub IsName : List ℕ → Type 0
IsName [] = ⊥
IsName (c ∷ cs) = (begins_name c ≡ true) × (list_all in_name cs ≡ true)
