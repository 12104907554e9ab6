-- The paths that the strings of imports and modules mean.
use Rattle.std.specs.Prelude.{◌≡◌, ℕ, ◌==◌, ◌&&◌, Bool, true, false, if◌then◌else◌, List, [], ◌∷◌, ◌++◌, Option, Some, None, option_map}
use Rattle.just_path.specs.Path.{pushed}
use Rattle.just_path.specs.Clean.{cleaned}
use Rattle.just_path_text.specs.Environ.{home_of}
use Rattle.just_lang_syntax.specs.declared.ast.StringLiteral.{StringLiteral}
use Rattle.just_lang_syntax.specs.Meanings.{text_of}
use Rattle.just_expand.specs.Tilde.{FullyExpandsTo}
use Rattle.just_expand.specs.Contexts.{EnvironAnswers, IsHome}

-- the pairs of an environment
abbrev pub Pairs : Type 0
Pairs = List (List ℕ × List ℕ)

-- a text becomes `out` over an environment, its variables first and then its tilde
abbrev pub Expands : Pairs → List ℕ → List ℕ → Type 0
Expands environ text out = FullyExpandsTo EnvironAnswers (IsHome (home_of environ)) environ text out

-- what a text becomes over an environment, if it becomes a text
abbrev pub ExpandsIf : Pairs → Option (List ℕ) → Option (List ℕ) → Type 0
ExpandsIf environ None out = out ≡ None
ExpandsIf environ (Some text) (Some out) = Expands environ text out
ExpandsIf environ (Some text) None = (out : List ℕ) → Expands environ text out → ⊥

-- what a string means that has an `x` in front, or hasn't
abbrev pub MeansWith : Bool → Pairs → Option (List ℕ) → Option (List ℕ) → Type 0
MeansWith true environ text out = ExpandsIf environ text out
MeansWith false environ text out = out ≡ text

-- the text that a string means, with an `x` in front expanded; none where it can't be
abbrev pub Means : Pairs → StringLiteral → Option (List ℕ) → Type 0
Means environ s out = MeansWith s.expands environ (text_of s) out

-- whether a text is empty or begins with `/`
abbrev pub begins_folder : List ℕ → Bool
begins_folder [] = true
begins_folder (b ∷ bs) = b == 47

-- what stands behind a `~` that stands alone or before `/`
abbrev pub behind_home : List ℕ → Option (List ℕ)
behind_home [] = None
behind_home (b ∷ bs) = if (b == 126 && begins_folder bs) then Some bs else None

-- the home folder, and behind it a text
abbrev pub home_with : Option (List ℕ) → List ℕ → Option (List ℕ)
home_with home rest = option_map (λ h. h ++ rest) home

abbrev pub with_home_for : Option (List ℕ) → List ℕ → Option (List ℕ) → Option (List ℕ)
with_home_for home text None = Some text
with_home_for home text (Some rest) = home_with home rest

-- a text with the home folder in place of such a `~`; none where there is no home folder
abbrev pub with_home : Option (List ℕ) → List ℕ → Option (List ℕ)
with_home home text = with_home_for home text (behind_home text)

-- the clean path that a text means in a file of that root
abbrev pub path_under : Option (List ℕ) → List ℕ → List ℕ → Option (List ℕ)
path_under home root text = option_map (λ t. cleaned (pushed root t)) (with_home home text)
