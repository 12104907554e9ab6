-- A path's text, and what pushing on a path gives.
use Rattle.std.specs.Prelude.{ℕ, ◌-◌, Option, Some, None, length, slice_get, Bool, false, not, List, [], ◌∷◌, ◌++◌, ◌==◌, if◌then◌else◌}
use Rattle.just_path.specs.declared.path.Utf8Path.{Utf8Path}

-- the bytes of a path's text
abbrev pub text_of : Utf8Path → List ℕ
text_of p = p.text.now

-- whether a text begins with `/`
abbrev pub is_absolute : List ℕ → Bool
is_absolute [] = false
is_absolute (b ∷ bs) = b == 47

-- whether the byte is there and is no `/`
abbrev pub is_other : Option ℕ → Bool
is_other None = false
is_other (Some b) = not (b == 47)

-- whether a text isn't empty and doesn't end in `/`
abbrev pub ends_open : List ℕ → Bool
ends_open t = is_other (slice_get t (length t - 1))

-- a path with another pushed: an absolute one replaces it; else one `/` stands between where none is there
abbrev pub pushed : List ℕ → List ℕ → List ℕ
pushed base path = if is_absolute path then path else (if ends_open base then base ++ (47 ∷ path) else base ++ path)
