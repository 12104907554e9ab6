-- A leading tilde, and the home folder in its place.
use Rattle.std.specs.Prelude.{◌≡◌, ◌⊎◌, ℕ, List, ◌∷◌, ◌++◌, Option, Some, None}
use Rattle.just_expand.specs.Bytes.{dollar_sign, tilde_sign, slash}
use Rattle.just_expand.specs.Pieces.{Lacks, BeginsWithout, EndsOrBegins}
use Rattle.just_expand.specs.Expansion.{Reply, ExpandsTo}

-- the text begins with a tilde that calls for the home folder: behind it stands `rest`, which is empty or begins with `/`
abbrev pub CallsForHome : List ℕ → List ℕ → Type 0
CallsForHome t rest = (t ≡ tilde_sign ∷ rest) × EndsOrBegins slash rest

-- the text doesn't begin with such a tilde
abbrev pub NeedsNoHome : List ℕ → Type 0
NeedsNoHome t = (rest : List ℕ) → CallsForHome t rest → ⊥

-- the text t, whose tilde stands before `rest`, with that home: without one it stays
abbrev pub with_home : List ℕ → List ℕ → Option (List ℕ) → List ℕ
with_home t rest None = t
with_home t rest (Some h) = h ++ rest

-- `home h` says that the home folder may be h. The text becomes `out`: where a tilde calls for the home it is asked.
abbrev pub TildeExpandsTo : (Option (List ℕ) → Type 0) → List ℕ → List ℕ → Type 0
TildeExpandsTo home t out = ((rest : List ℕ) × (h : Option (List ℕ)) × CallsForHome t rest × home h × (out ≡ with_home t rest h)) ⊎ (NeedsNoHome t × (out ≡ t))

-- t doesn't begin with a tilde, and u does
abbrev pub GainsTilde : List ℕ → List ℕ → Type 0
GainsTilde t u = BeginsWithout tilde_sign t × ((rest : List ℕ) × (u ≡ tilde_sign ∷ rest))

-- the text t, which became u by its variables, held a `$`, and what became of its variables brought a tilde to the front
abbrev pub BringsTilde : List ℕ → List ℕ → Type 0
BringsTilde t u = (Lacks dollar_sign t → ⊥) × GainsTilde t u

-- the text u, which t became by its variables, stays as it is, whatever the home folder is
abbrev pub StaysAtAnyHome : List ℕ → List ℕ → Type 0
StaysAtAnyHome t u = BringsTilde t u ⊎ ((BringsTilde t u → ⊥) × NeedsNoHome u)

-- the text t, which became u by its variables, becomes `out` by its tilde, unless that was brought
abbrev pub OwnTildeExpandsTo : (Option (List ℕ) → Type 0) → List ℕ → List ℕ → List ℕ → Type 0
OwnTildeExpandsTo home t u out = (BringsTilde t u × (out ≡ u)) ⊎ ((BringsTilde t u → ⊥) × TildeExpandsTo home u out)

module _ {S E : Type 0} (asks : S → List ℕ → Reply E → S → Type 0) where
  -- the text becomes `out`, first by its variables and then by its tilde
  abbrev pub FullyExpandsTo : (Option (List ℕ) → Type 0) → S → List ℕ → List ℕ → Type 0
  FullyExpandsTo home s t out = (u : List ℕ) × ExpandsTo asks s t u × OwnTildeExpandsTo home t u out

  -- the home may be asked for where a tilde that wasn't brought calls for it
  abbrev pub MayAskHome : Type 0 → S → List ℕ → Type 0
  MayAskHome may s t = (u rest : List ℕ) → ExpandsTo asks s t u → (BringsTilde t u → ⊥) → CallsForHome u rest → may
