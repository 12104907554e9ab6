-- The laws that this crate offers to the proofs of the crates above it.
use Rattle.std.proofs.Common.{◌≡◌, ℕ, Bool, true, false, cond, List, [], ◌∷◌, ◌++◌, fold, map, refl, ap, ◌∙◌}
use Rattle.std.specs.Bool.{Decides}
use Rattle.std.specs.Cmp.Lexicographic.{pointwise}
use Rattle.std.specs.Str.{bytes_eq}
use Rattle.std.proofs.lemmas.Slice.Eq.{bytes_eq-Decides, slice_eq-Decides}
use Rattle.just_path.specs.Path.{is_absolute, ends_open, pushed}
use Rattle.just_path.specs.Comps.{slash, comp_text, names}
use Rattle.just_path.specs.Clean.{normal_form, without_parents, cleaned, is_clean_absolute}
use Rattle.just_path.proofs.Truths.{and_left, and_right, and_both}
use Rattle.just_path.proofs.Pushes.{comps_absolute}
use Rattle.just_path.proofs.CleanPaths.{clean_again}

-- `==` of two texts decides whether they are equal
pub texts_Decides : (a b : List ℕ) → Decides (bytes_eq a b) (a ≡ b)
texts_Decides = bytes_eq-Decides

-- `==` of two sequences decides whether they are equal, where `==` of their items does
pub seqs_Decides : {A : Type 0} {E : A → A → Bool} → ((a b : A) → Decides (E a b) (a ≡ b)) → (xs ys : List A) → Decides (pointwise E xs ys) (xs ≡ ys)
seqs_Decides items xs ys = slice_eq-Decides items xs ys _ refl

-- `==` of two sequences of texts decides whether they are equal
pub text_seqs_Decides : (xs ys : List (List ℕ)) → Decides (pointwise bytes_eq xs ys) (xs ≡ ys)
text_seqs_Decides = seqs_Decides texts_Decides

-- the push rule, by whether what is pushed is absolute
pushed_case : (v : Bool) (b p : List ℕ) → is_absolute p ≡ v → is_absolute b ≡ true → is_absolute (cond v p (cond (ends_open b) (b ++ 47 ∷ p) (b ++ p))) ≡ true
pushed_case true b p e h = e
pushed_case false [] p e h = cc
pushed_case false (x ∷ b) p e h = elim (ends_open (x ∷ b)) as (λ v. is_absolute (cond v ((x ∷ b) ++ 47 ∷ p) ((x ∷ b) ++ p)) ≡ true) [ true ↦ h | false ↦ h ]

-- what is pushed on an absolute path makes an absolute one
pub absolute-pushed : (b p : List ℕ) → is_absolute b ≡ true → is_absolute (pushed b p) ≡ true
absolute-pushed b p h = pushed_case (is_absolute p) b p refl h

-- whatever is pushed on an absolute path makes an absolute one
absolute_fold : (ps : List (List ℕ)) (b : List ℕ) → is_absolute b ≡ true → is_absolute (fold pushed b ps) ≡ true
absolute_fold [] b h = h
absolute_fold (p ∷ ps) b h = absolute_fold ps (pushed b p) (absolute-pushed b p h)

-- the clean form of an absolute path is absolute
pub absolute-cleaned : (t : List ℕ) → is_absolute t ≡ true → is_absolute (cleaned t) ≡ true
unfolding cleaned
absolute-cleaned t h =
    rw (comps_absolute t h) (absolute_fold (map comp_text (without_parents (normal_form (names t)))) slash refl)

-- what is clean stays as it is
pub cleaned-cleaned : (t : List ℕ) → cleaned (cleaned t) ≡ cleaned t
cleaned-cleaned = clean_again

-- the clean form of an absolute path is clean and absolute
pub clean_absolute-cleaned : (t : List ℕ) → is_absolute t ≡ true → is_clean_absolute (cleaned t) ≡ true
clean_absolute-cleaned t h = and_both (is_absolute (cleaned t)) (bytes_eq (cleaned (cleaned t)) (cleaned t)) (absolute-cleaned t h) ((bytes_eq-Decides (cleaned (cleaned t)) (cleaned t)).1 (clean_again t))

-- a clean and absolute path is absolute
pub clean_absolute_is_absolute : (t : List ℕ) → is_clean_absolute t ≡ true → is_absolute t ≡ true
clean_absolute_is_absolute t h = and_left (is_absolute t) (bytes_eq (cleaned t) t) h

-- a clean and absolute path is its own clean form
pub clean_absolute_is_clean : (t : List ℕ) → is_clean_absolute t ≡ true → cleaned t ≡ t
clean_absolute_is_clean t h = (bytes_eq-Decides (cleaned t) t).0 (and_right (is_absolute t) (bytes_eq (cleaned t) t) h)

-- and is found under any folder at itself
pub cleaned-pushed_clean : (base t : List ℕ) → is_clean_absolute t ≡ true → cleaned (pushed base t) ≡ t
cleaned-pushed_clean base t h =
    let a : pushed base t ≡ t = rw (clean_absolute_is_absolute t h) refl in
    ap cleaned a ∙ clean_absolute_is_clean t h

-- a path under an absolute folder has a clean and absolute form
pub clean_absolute-pushed : (base t : List ℕ) → is_absolute base ≡ true → is_clean_absolute (cleaned (pushed base t)) ≡ true
clean_absolute-pushed base t h = clean_absolute-cleaned (pushed base t) (absolute-pushed base t h)
