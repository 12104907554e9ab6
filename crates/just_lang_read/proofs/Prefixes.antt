-- What `strip_prefix` answers, by the text.
use Rattle.std.proofs.Common.{◌≡◌, ◌≢◌, ℕ, ◌<◌, ◌+◌, ◌==◌, true, false, List, [], ◌∷◌, refl, ◌∙◌, ap, length, drop, arith, Bor, Option}
use Rattle.std.specs.Prelude.{Some, None}
use Rattle.std.specs.Str.Pattern.{FindsCharPrefix}
use Rattle.std.specs.Option.{MatchOption}
use Rattle.std.proofs.lemmas.Bool.Decides.{nat_tests}
use Rattle.std.proofs.lemmas.Str.Pattern.{strip_prefix_char}
use Rattle.just_lang_read.specs.Prefixes.{behind_sign}

-- one character is another, or it isn't
pub apart : (c x : ℕ) → x ≢ c → (x == c) ≡ false
apart c x h = grind (arith, nat_tests)

pub same : (c : ℕ) → (c == c) ≡ true
same c = grind (arith, nat_tests)

abbrev pub IsStripped : ℕ → List ℕ → Option (Bor (List ℕ)) → Type 0
IsStripped c bs r = MatchOption r (behind_sign c bs ≡ None) (λ x. behind_sign c bs ≡ Some x.now)

begins_not : (c : ℕ) (bs : List ℕ) → ((rest : List ℕ) → bs ≢ c ∷ rest) → behind_sign c bs ≡ None
begins_not c [] h = refl
begins_not c (x ∷ xs) h = let e = apart c x (λ f. h xs (ap (λ y. y ∷ xs) f)) in rw e refl

begins : (c : ℕ) (bs rest : List ℕ) → bs ≡ c ∷ rest → behind_sign c bs ≡ Some rest
begins c bs rest h = let e = same c in ap (behind_sign c) h ∙ rw e refl

from_strip : (c : ℕ) (bs : List ℕ) (r : Option (Bor (List ℕ))) → MatchOption r ((rest : List ℕ) → bs ≢ c ∷ rest) (λ x. bs ≡ c ∷ x.now) → IsStripped c bs r
from_strip c bs None h = begins_not c bs h
from_strip c bs (Some x) h = begins c bs x.now h

abbrev pub IsStripResult : ℕ → List ℕ → Option (Bor (List ℕ)) → Type 0
IsStripResult c bs r = MatchOption r (FindsCharPrefix c bs None) (λ x. (n : ℕ) × FindsCharPrefix c bs (Some n) × (x.now ≡ drop n bs) × (length x.now + n ≡ length bs))

-- a text is stripped of a character of ASCII as its codes are
pub strip_sign : (c : ℕ) (bs : List ℕ) (r : Option (Bor (List ℕ))) → IsStripResult c bs r → c < 128 → IsStripped c bs r
strip_sign c bs r h l = from_strip c bs r (strip_prefix_char c bs r h l)
