-- Texts with a blank in front.
use Rattle.std.proofs.Common.{◌≡◌, ◌<◌, ◌==◌, ◌||◌, ℕ, Bool, true, false, cond, List, [], ◌∷◌, length, refl, ap, arith}
use Rattle.std.specs.Prelude.{Some, None}
use Rattle.just_lang_read.specs.Prefixes.{behind_sign}
use Rattle.just_lang_shapes.specs.Comments.{without_blanks}

not_that : (b : Bool) (xs : List ℕ) → cond b (Some xs) None ≡ None → b ≡ false
not_that true xs h = absurd (cc)
not_that false xs h = refl

is_that : (b : Bool) (xs rest : List ℕ) → cond b (Some xs) None ≡ Some rest → b ≡ true
is_that true xs rest h = refl
is_that false xs rest h = absurd (cc)

rest_that : (b : Bool) (xs rest : List ℕ) → cond b (Some xs) None ≡ Some rest → xs ≡ rest
rest_that true xs rest h = cc
rest_that false xs rest h = absurd (cc)

or_true : (b : Bool) → (b || true) ≡ true
or_true true = refl
or_true false = refl

-- without a space and without a tab in front no blank is in front
pub no_blank : (bs : List ℕ) → behind_sign 32 bs ≡ None → behind_sign 9 bs ≡ None → without_blanks bs ≡ bs
no_blank [] h k = refl
no_blank (x ∷ xs) h k = let a : (x == 32) ≡ false = not_that (x == 32) xs h in let b : (x == 9) ≡ false = not_that (x == 9) xs k in rw (a, b) refl

pub space_says : (bs rest : List ℕ) → behind_sign 32 bs ≡ Some rest → without_blanks bs ≡ without_blanks rest
space_says [] rest h = absurd (cc)
space_says (x ∷ xs) rest h = let a : (x == 32) ≡ true = is_that (x == 32) xs rest h in rw a (ap without_blanks (rest_that (x == 32) xs rest h))

pub tab_says : (bs rest : List ℕ) → behind_sign 9 bs ≡ Some rest → without_blanks bs ≡ without_blanks rest
tab_says [] rest h = absurd (cc)
tab_says (x ∷ xs) rest h =
    let a : (x == 9) ≡ true = is_that (x == 9) xs rest h in
    rw (a, or_true (x == 32)) (ap without_blanks (rest_that (x == 9) xs rest h))

pub space_shorter : (bs rest : List ℕ) → behind_sign 32 bs ≡ Some rest → length rest < length bs
space_shorter [] rest h = absurd (cc)
space_shorter (x ∷ xs) rest h = omega (arith, ap length (rest_that (x == 32) xs rest h))

pub tab_shorter : (bs rest : List ℕ) → behind_sign 9 bs ≡ Some rest → length rest < length bs
tab_shorter [] rest h = absurd (cc)
tab_shorter (x ∷ xs) rest h = omega (arith, ap length (rest_that (x == 9) xs rest h))
