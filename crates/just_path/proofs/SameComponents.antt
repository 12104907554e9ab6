-- Components that compare as the same are the same.
use Rattle.std.proofs.Common.{◌≡◌, ℕ, true, List, refl, ap}
use Rattle.std.proofs.lemmas.Slice.Eq.{bytes_eq-Decides}
use Rattle.std.specs.Str.{bytes_eq}
use Rattle.just_path.specs.Comps.{Comp, prefix, root, current, parent, normal}
use Rattle.just_path.specs.Order.{comp_eq}

-- bytes that compare as equal are equal
bytes_same : (t u : List ℕ) → bytes_eq t u ≡ true → t ≡ u
bytes_same t u h = (bytes_eq-Decides t u).0 h

-- components that compare as the same are equal
pub comp_eq_same : (c d : Comp) → comp_eq c d ≡ true → c ≡ d
comp_eq_same (prefix t) (prefix u) h = ap prefix (bytes_same t u h)
comp_eq_same root root h = refl
comp_eq_same current current h = refl
comp_eq_same parent parent h = refl
comp_eq_same (normal t) (normal u) h = ap normal (bytes_same t u h)
comp_eq_same c d h = cc
