-- The last name of a path.
use Rattle.std.proofs.Common.{◌≡◌, ℕ, List, [], ◌∷◌, ◌++◌, length, refl, ap, ◌∙◌, sym, arith}
use Rattle.just_print_tree.specs.Branches.{last_name}

last_of : (front : List (List ℕ)) (x : List ℕ) → last_name (front ++ x ∷ []) ≡ x
last_of [] x = refl
last_of (y ∷ []) x = refl
last_of (y ∷ z ∷ front) x = last_of (z ∷ front) x

pub last_is : (path front : List (List ℕ)) (x : List ℕ) → path ≡ front ++ x ∷ [] → x ≡ last_name path
last_is path front x e = sym (ap last_name e ∙ last_of front x)

pub last_none : (path : List (List ℕ)) → length path ≡ 0 → [] ≡ last_name path
last_none [] h = refl
last_none (x ∷ xs) h = absurd (omega (arith, h))
