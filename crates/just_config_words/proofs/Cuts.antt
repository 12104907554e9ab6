-- What a text is cut into at the first one of a character.
use Rattle.std.proofs.Common.{◌≡◌, ◌≢◌, ℕ, suc, ◌<◌, ◌++◌, ◌==◌, ◌||◌, Bool, true, false, List, [], ◌∷◌, refl, sym, ◌∙◌, ap, subst, length, get_or, arith, Bor, Option}
use Rattle.std.specs.Prelude.{Some, None}
use Rattle.std.specs.Option.{MatchOption}
use Rattle.std.proofs.lemmas.Str.Pattern.{IsSplitOnceResult, split_parts}
use Rattle.just_lang_read.proofs.Prefixes.{apart, same}
use Rattle.just_config_words.specs.Cuts.{holds, before_first, behind_first, parts, put_in_front}

-- the character stands at no place of a text
abbrev pub IsWithout : ℕ → List ℕ → Type 0
IsWithout c [] = Unit {0}
IsWithout c (x ∷ xs) = ((x == c) ≡ false) × IsWithout c xs

or_true : (b : Bool) → (b || true) ≡ true
or_true true = refl
or_true false = refl

pub is_without : (c : ℕ) (xs : List ℕ) → ((i : ℕ) → i < length xs → get_or xs i 0 ≢ c) → IsWithout c xs
is_without c [] h = tt
is_without c (x ∷ xs) h = (apart c x (h 0 (omega arith)), is_without c xs (λ i l. h (suc i) (omega (arith, l))))

-- a text without the character
pub holds_none : (c : ℕ) (xs : List ℕ) → IsWithout c xs → holds c xs ≡ false
holds_none c [] h = refl
holds_none c (x ∷ xs) h = let e = h.0 in rw e (holds_none c xs h.1)

-- and one with it
pub holds_it : (c : ℕ) (xs ys : List ℕ) → holds c (xs ++ (c ∷ ys)) ≡ true
holds_it c [] ys = let e = same c in rw e refl
holds_it c (x ∷ xs) ys = ap (λ b. (x == c) || b) (holds_it c xs ys) ∙ or_true (x == c)

pub before_it : (c : ℕ) (xs ys : List ℕ) → IsWithout c xs → before_first c (xs ++ (c ∷ ys)) ≡ xs
before_it c [] ys h = let e = same c in rw e refl
before_it c (x ∷ xs) ys h = let e = h.0 in rw e (ap (λ t. x ∷ t) (before_it c xs ys h.1))

pub before_none : (c : ℕ) (xs : List ℕ) → IsWithout c xs → before_first c xs ≡ xs
before_none c [] h = refl
before_none c (x ∷ xs) h = let e = h.0 in rw e (ap (λ t. x ∷ t) (before_none c xs h.1))

pub behind_it : (c : ℕ) (xs ys : List ℕ) → IsWithout c xs → behind_first c (xs ++ (c ∷ ys)) ≡ ys
behind_it c [] ys h = let e = same c in rw e refl
behind_it c (x ∷ xs) ys h = let e = h.0 in rw e (behind_it c xs ys h.1)

-- the parts of a text behind the first one
pub parts_it : (c : ℕ) (xs ys : List ℕ) → IsWithout c xs → parts c (xs ++ (c ∷ ys)) ≡ xs ∷ parts c ys
parts_it c [] ys h = let e = same c in rw e refl
parts_it c (x ∷ xs) ys h = let e = h.0 in rw e (ap (put_in_front x) (parts_it c xs ys h.1))

-- ---- what `split_once` answers

abbrev SplitAt : ℕ → List ℕ → Option (Bor (List ℕ) × Bor (List ℕ)) → Type 0
SplitAt c bs r = MatchOption r ((i : ℕ) → i < length bs → get_or bs i 0 ≢ c) (λ x. (bs ≡ x.0.now ++ (c ∷ x.1.now)) × ((i : ℕ) → i < length x.0.now → get_or x.0.now i 0 ≢ c))

-- what stands before the first one and behind it; none where it stands nowhere
abbrev pub IsCut : ℕ → List ℕ → Option (Bor (List ℕ) × Bor (List ℕ)) → Type 0
IsCut c bs r = MatchOption r ((holds c bs ≡ false) × (before_first c bs ≡ bs) × (parts c bs ≡ bs ∷ [])) (λ x. (holds c bs ≡ true) × (before_first c bs ≡ x.0.now) × (behind_first c bs ≡ x.1.now) × (parts c bs ≡ x.0.now ∷ parts c x.1.now) × (length x.1.now < length bs))

parts_none : (c : ℕ) (xs : List ℕ) → IsWithout c xs → parts c xs ≡ xs ∷ []
parts_none c [] h = refl
parts_none c (x ∷ xs) h = let e = h.0 in rw e (ap (put_in_front x) (parts_none c xs h.1))

shorter : (c : ℕ) (xs ys : List ℕ) → length ys < length (xs ++ (c ∷ ys))
shorter c [] ys = omega arith
shorter c (x ∷ xs) ys = let h = shorter c xs ys in omega (arith, h)

from_split : (c : ℕ) (bs : List ℕ) (r : Option (Bor (List ℕ) × Bor (List ℕ))) → SplitAt c bs r → IsCut c bs r
from_split c bs None k = let w = is_without c bs k in (holds_none c bs w, before_none c bs w, parts_none c bs w)
from_split c bs (Some x) k =
    let w = is_without c x.0.now k.1 in (
      ap (holds c) k.0 ∙ holds_it c x.0.now x.1.now,
      ap (before_first c) k.0 ∙ before_it c x.0.now x.1.now w,
      ap (behind_first c) k.0 ∙ behind_it c x.0.now x.1.now w,
      ap (parts c) k.0 ∙ parts_it c x.0.now x.1.now w,
      subst (λ (t : List ℕ). length x.1.now < length t) (sym k.0) (shorter c x.0.now x.1.now),
    )

pub cut_first : (c : ℕ) (bs : List ℕ) (r : Option (Bor (List ℕ) × Bor (List ℕ))) → IsSplitOnceResult c bs r → c < 128 → IsCut c bs r
cut_first c bs r h l = from_split c bs r (split_parts c bs r h l)
