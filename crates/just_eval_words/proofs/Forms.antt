-- The sort of a word, by what stands behind its dashes.
use Rattle.std.proofs.Common.{◌≡◌, ℕ, Bool, true, false, List, [], ◌∷◌, Option, Some, None, refl, sym, ap, ap₂, ◌∙◌}
use Rattle.std.specs.Prelude.{if◌then◌else◌, bytes_eq, chars}
use Rattle.just_config_words.specs.Cuts.{holds, before_first, behind_first, behind_sign}
use Rattle.just_eval_words.specs.Sorts.{Word, Sort, assigned, sort_behind, sort_from, sort}

module _ (w : Word) where
  pub no_dash : behind_sign 45 w ≡ None → sort w ≡ Sort.positional
  no_dash h = ap sort_from h

  module _ (text : List ℕ) (h : behind_sign 45 w ≡ Some text) where
    pub dash_alone : bytes_eq text [] ≡ true → sort w ≡ Sort.positional
    dash_alone k = ap sort_from h ∙ ap (λ b. if b then Sort.positional else sort_behind text (behind_sign 45 text)) k

    behind_dash : bytes_eq text [] ≡ false → sort w ≡ sort_behind text (behind_sign 45 text)
    behind_dash k = ap sort_from h ∙ ap (λ b. if b then Sort.positional else sort_behind text (behind_sign 45 text)) k

    pub one_dash : bytes_eq text [] ≡ false → behind_sign 45 text ≡ None → sort w ≡ Sort.letters (chars text)
    one_dash k l = behind_dash k ∙ ap (sort_behind text) l

    module _ (k : bytes_eq text [] ≡ false) (name : List ℕ) (l : behind_sign 45 text ≡ Some name) where
      pub two_dashes : bytes_eq name [] ≡ true → sort w ≡ Sort.dashes
      two_dashes m = behind_dash k ∙ ap (sort_behind text) l ∙ ap (λ b. if b then Sort.dashes else Sort.long (before_first 61 name) (assigned name)) m

      behind_both : bytes_eq name [] ≡ false → sort w ≡ Sort.long (before_first 61 name) (assigned name)
      behind_both m = behind_dash k ∙ ap (sort_behind text) l ∙ ap (λ b. if b then Sort.dashes else Sort.long (before_first 61 name) (assigned name)) m

      pub long_alone : bytes_eq name [] ≡ false → holds 61 name ≡ false → before_first 61 name ≡ name → sort w ≡ Sort.long name None
      long_alone m n o = behind_both m ∙ ap (λ b. Sort.long (before_first 61 name) (if b then Some (behind_first 61 name) else None)) n ∙ ap (λ t. Sort.long t None) o

      pub long_assigned : (front back : List ℕ) → bytes_eq name [] ≡ false → holds 61 name ≡ true → before_first 61 name ≡ front → behind_first 61 name ≡ back → sort w ≡ Sort.long front (Some back)
      long_assigned front back m n o p =
          behind_both m ∙ ap (λ b. Sort.long (before_first 61 name) (if b then Some (behind_first 61 name) else None)) n ∙ ap (λ t. Sort.long t (Some (behind_first 61 name))) o ∙ ap (λ t. Sort.long front (Some t)) p
