-- The first broken rule of two lists, one behind the other.
use Rattle.std.proofs.Common.{◌≡◌, List, [], ◌∷◌, ◌++◌, Option, Some, None, refl, sym, ap, ◌∙◌}
use Rattle.just_lang_spots.specs.Spots.{first_spot}
use Rattle.just_lang_rulebook.specs.declared.broken.Broken.{Broken}
use Rattle.just_lang_rulebook.specs.First.{Asked, broken_at, or_behind, first_broken}

or_assoc : (a b c : Option Broken) → or_behind (or_behind a b) c ≡ or_behind a (or_behind b c)
or_assoc None b c = refl
or_assoc (Some x) b c = refl

pub first_of_both : (xs ys : List Asked) → first_broken (xs ++ ys) ≡ or_behind (first_broken xs) (first_broken ys)
first_of_both [] ys = refl
first_of_both (x ∷ xs) ys =
    ap (or_behind (broken_at x.0 (first_spot x.1))) (first_of_both xs ys)
    ∙ sym (or_assoc (broken_at x.0 (first_spot x.1)) (first_broken xs) (first_broken ys))

-- the first list has one
pub behind_first : (xs ys : List Asked) (b : Broken) (o : Option Broken) → o ≡ first_broken xs → o ≡ Some b → Some b ≡ first_broken (xs ++ ys)
behind_first xs ys b o h e = ap (λ (p : Option Broken). or_behind p (first_broken ys)) (sym e ∙ h) ∙ sym (first_of_both xs ys)

-- it has none
pub behind_second : (xs ys : List Asked) (o r : Option Broken) → o ≡ first_broken xs → o ≡ None → r ≡ first_broken ys → r ≡ first_broken (xs ++ ys)
behind_second xs ys o r h e k = k ∙ ap (λ (p : Option Broken). or_behind p (first_broken ys)) (sym e ∙ h) ∙ sym (first_of_both xs ys)
