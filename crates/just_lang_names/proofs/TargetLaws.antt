-- What paths come to, one name at a time, and what dependencies on recipes give.
use Rattle.std.proofs.Common.{◌≡◌, ℕ, ◌+◌, ◌<◌, List, [], ◌∷◌, ◌++◌, length, drop, get_or, Some, refl, sym, ap, ◌∙◌}
use Rattle.just_lang_syntax.specs.declared.ast.Name.{Name}
use Rattle.just_lang_layout.specs.declared.layout.Layout.{Layout}
use Rattle.just_lang_spots.specs.declared.spot.Spot.{Spot}
use Rattle.just_lang_spots.specs.Places.{name_spot}
use Rattle.just_lang_spots.specs.Spots.{first_spot}
use Rattle.just_lang_names.specs.Lookup.{Target, child, behind, target_with}
use Rattle.just_lang_names.specs.TargetSpots.{last_spot}
use Rattle.just_lang_names.proofs.Walks.{walk_end, walk_step}

module _ (last : ℕ → Name → Target) (layout : Layout) where
  -- the last name
  pub target_end : (path : List Name) (i m : ℕ) (name : Name) → i + 1 ≡ length path → name ≡ get_or path i name → target_with last layout (drop i path) m ≡ last m name
  target_end = walk_end (target_with last layout) last (λ n m. refl)

  -- a name with others behind it
  pub target_step : (path : List Name) (i m : ℕ) (name : Name) → i + 1 < length path → name ≡ get_or path i name
      → target_with last layout (drop i path) m ≡ behind last layout (target_with last layout (drop (i + 1) path)) name m (child layout m name.text)
  target_step = walk_step (target_with last layout) (λ further n m. behind last layout further n m (child layout m n.text)) (λ n n' names m. refl)

-- the last name of a path
last_is : (file : ℕ) (names : List Name) (n : Name) → last_spot file (names ++ n ∷ []) ≡ name_spot file n ∷ []
last_is file [] n = refl
last_is file (x ∷ []) n = refl
last_is file (x ∷ y ∷ names) n = last_is file (y ∷ names) n

pub last_by : (file : ℕ) (path rest : List Name) (n : Name) (s : Spot) → path ≡ rest ++ n ∷ [] → s ≡ name_spot file n → Some s ≡ first_spot (last_spot file path)
last_by file path rest n s h e = ap Some e ∙ sym (ap (λ ys. first_spot (last_spot file ys)) h ∙ ap first_spot (last_is file rest n))
