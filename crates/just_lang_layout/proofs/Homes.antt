-- A `~` at the front of a text.
use Rattle.std.proofs.Common.{◌≡◌, ◌≢◌, ℕ, ◌+◌, List, [], ◌∷◌, Bool, true, false, length, drop, refl, ◌∙◌, ap, subst, Bor, lit<}
use Rattle.std.specs.Prelude.{Option, Some, None, ◌==◌, ◌&&◌, if◌then◌else◌}
use Rattle.std.specs.Option.{MatchOption}
use Rattle.std.specs.Str.Pattern.{FindsCharPrefix}
use Rattle.std.proofs.lemmas.Bool.Decides.{Decides-eqb}
use Rattle.std.proofs.lemmas.Str.Pattern.{strip_prefix_char}
use Rattle.just_expand.proofs.TildeLaws.{begins_with_stripped}
use Rattle.just_lang_layout.specs.Paths.{begins_folder, behind_home}

no_tilde : (b : ℕ) (bs : List ℕ) (t : Bool) → ((rest : List ℕ) → (b ∷ bs) ≢ 126 ∷ rest) → (b == 126) ≡ t → behind_home (b ∷ bs) ≡ None
no_tilde b bs true h e = absurd (h bs (ap (λ (x : ℕ). x ∷ bs) ((Decides-eqb b 126).0 e)))
no_tilde b bs false h e = ap (λ (t : Bool). if (t && begins_folder bs) then Some bs else None) e

without : (bs : List ℕ) → ((rest : List ℕ) → bs ≢ 126 ∷ rest) → behind_home bs ≡ None
without [] h = refl
without (b ∷ bs) h = no_tilde b bs (b == 126) h refl

abbrev NoTilde : List ℕ → Option (Bor (List ℕ)) → Type 0
NoTilde bs r = MatchOption r ((rest : List ℕ) → bs ≢ 126 ∷ rest) (λ x. bs ≡ 126 ∷ x.now)

-- a text without one has no home
pub without_tilde : (bs : List ℕ) (r : Option (Bor (List ℕ)))
    → MatchOption r (FindsCharPrefix 126 bs None) (λ y. (n : ℕ) × FindsCharPrefix 126 bs (Some n) × (y.now ≡ drop n bs) × (length y.now + n ≡ length bs))
    → r ≡ None → behind_home bs ≡ None
without_tilde bs r h e = let none : NoTilde bs None = subst (NoTilde bs) e (strip_prefix_char 126 bs r h (lit< tt)) in without bs none

stripped : (bs : List ℕ) (x : Bor (List ℕ)) → bs ≡ 126 ∷ x.now → behind_home bs ≡ (if begins_folder x.now then Some x.now else None)
stripped bs x e = ap behind_home e

-- one that stands alone or before `/` stands for the home
pub before_folder : (bs : List ℕ) (r : Option (Bor (List ℕ))) (x : Bor (List ℕ))
    → MatchOption r (FindsCharPrefix 126 bs None) (λ y. (n : ℕ) × FindsCharPrefix 126 bs (Some n) × (y.now ≡ drop n bs) × (length y.now + n ≡ length bs))
    → r ≡ Some x → begins_folder x.now ≡ true → behind_home bs ≡ Some x.now
before_folder bs r x h e k =
    stripped bs x (begins_with_stripped 126 bs r x h (lit< tt) e) ∙ ap (λ (t : Bool). if t then Some x.now else None) k

-- and one before anything else doesn't
pub before_name : (bs : List ℕ) (r : Option (Bor (List ℕ))) (x : Bor (List ℕ))
    → MatchOption r (FindsCharPrefix 126 bs None) (λ y. (n : ℕ) × FindsCharPrefix 126 bs (Some n) × (y.now ≡ drop n bs) × (length y.now + n ≡ length bs))
    → r ≡ Some x → begins_folder x.now ≡ false → behind_home bs ≡ None
before_name bs r x h e k =
    stripped bs x (begins_with_stripped 126 bs r x h (lit< tt) e) ∙ ap (λ (t : Bool). if t then Some x.now else None) k
