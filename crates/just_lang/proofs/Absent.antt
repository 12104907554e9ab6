-- The modules that aren't there, one name of a path at a time.
use Rattle.std.proofs.Common.{◌≡◌, ℕ, ◌+◌, ◌<◌, List, length, drop, get_or, Option, refl}
use Rattle.just_lang_syntax.specs.declared.ast.Name.{Name}
use Rattle.just_lang_layout.specs.declared.layout.Layout.{Layout}
use Rattle.just_lang_names.specs.Lookup.{child}
use Rattle.just_lang_names.proofs.Walks.{walk_end, walk_step}
use Rattle.just_lang.specs.Disabling.{absent_behind, absent_with}

module _ (last : ℕ → Name → Option (List ℕ)) (layout : Layout) where
  -- the last name
  pub absent_last : (path : List Name) (i m : ℕ) (name : Name) → i + 1 ≡ length path → name ≡ get_or path i name → absent_with last layout (drop i path) m ≡ last m name
  absent_last = walk_end (absent_with last layout) last (λ n m. refl)

  -- a name with others behind it
  pub absent_step : (path : List Name) (i m : ℕ) (name : Name) → i + 1 < length path → name ≡ get_or path i name
      → absent_with last layout (drop i path) m ≡ absent_behind last layout (absent_with last layout (drop (i + 1) path)) name m (child layout m name.text)
  absent_step = walk_step (absent_with last layout) (λ further n m. absent_behind last layout further n m (child layout m n.text)) (λ n n' names m. refl)
