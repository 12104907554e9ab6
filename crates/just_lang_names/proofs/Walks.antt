-- Walks along a path, one name at a time: what is answered for the last name, and what follows a name with others behind it.
use Rattle.std.proofs.Common.{◌≡◌, ℕ, zero, suc, ◌+◌, ◌<◌, List, [], ◌∷◌, length, drop, get_or, sym, ap, ◌∙◌, add-one, arith}
use Rattle.just_lang_syntax.specs.declared.ast.Name.{Name}

-- the last name
pub walk_end : {R : Type 0} (walk : List Name → ℕ → R) (last : ℕ → Name → R) → ((n : Name) (m : ℕ) → walk (n ∷ []) m ≡ last m n)
    → (path : List Name) (i m : ℕ) (name : Name) → i + 1 ≡ length path → name ≡ get_or path i name → walk (drop i path) m ≡ last m name
walk_end walk last ends [] i m name h e = absurd (omega (arith, h))
walk_end walk last ends (n ∷ []) zero m name h e = ends n m ∙ ap (last m) (sym e)
walk_end walk last ends (n ∷ n' ∷ names) zero m name h e = absurd (omega (arith, h))
walk_end walk last ends (n ∷ names) (suc i) m name h e = walk_end walk last ends names i m name (omega (arith, h)) e

-- a name with others behind it
pub walk_step : {R : Type 0} (walk : List Name → ℕ → R) (follows : (ℕ → R) → Name → ℕ → R)
    → ((n n' : Name) (names : List Name) (m : ℕ) → walk (n ∷ n' ∷ names) m ≡ follows (walk (n' ∷ names)) n m)
    → (path : List Name) (i m : ℕ) (name : Name) → i + 1 < length path → name ≡ get_or path i name → walk (drop i path) m ≡ follows (walk (drop (i + 1) path)) name m
walk_step walk follows steps path i m name h e = rw add-one (step path i m name h e)
  where
    step : (path : List Name) (i m : ℕ) (name : Name) → i + 1 < length path → name ≡ get_or path i name → walk (drop i path) m ≡ follows (walk (drop (suc i) path)) name m
    step [] i m name h e = absurd (omega (arith, h))
    step (n ∷ []) zero m name h e = absurd (omega (arith, h))
    step (n ∷ n' ∷ names) zero m name h e = steps n n' names m ∙ ap (λ x. follows (walk (n' ∷ names)) x m) (sym e)
    step (n ∷ names) (suc i) m name h e = step names i m name (omega (arith, h)) e
