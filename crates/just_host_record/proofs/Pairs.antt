-- Pairs of names with what stands at them, in the order of the names: what is found where one more is entered.
use Rattle.std.proofs.Common.{◌≡◌, ℕ, Bool, true, false, true≢false, cond, List, [], ◌∷◌, nat_cmp, Option, Some, None, bytes_eq, refl, sym, ap, ◌∙◌, subst}
use Rattle.std.specs.BTreeMap.{insert_entry}
use Rattle.std.specs.Cmp.Lexicographic.{slice_cmp}
use Rattle.std.specs.Map.{lookup}
use Rattle.std.specs.Ordering.{is_eq, match_ordering}
use Rattle.std.specs.declared.cmp.Ordering.{Ordering}
use Rattle.std.specs.declared.cmp.Ordering.TheVariants.{Less, Equal, Greater}
use Rattle.std.proofs.lemmas.Cmp.{nat_list_eq_equiv}
use Rattle.std.proofs.lemmas.Map.Lookups.{exact_bytes}
use Rattle.std.proofs.lemmas.Map.Text.{is_eq-slice_cmp}
use Rattle.std.proofs.lemmas.Slice.Eq.{bytes_eq-Decides}
use Rattle.just_path_text.specs.Environ.{or_else}

-- ---- one pair

-- two tests of which one alone passes
swapped : {A : Type 0} (k e : Bool) (v w g : A) → (e ≡ true → k ≡ false) → cond e w (cond k v g) ≡ cond k v (cond e w g)
swapped true true v w g alone = absurd (true≢false (alone refl))
swapped true false v w g alone = refl
swapped false e v w g alone = refl

-- what takes the place of something of its name
taken : {A : Type 0} (k e : Bool) (v w g : A) → k ≡ e → cond e v g ≡ cond k v (cond e w g)
taken true true v w g h = refl
taken true false v w g h = absurd (true≢false h)
taken false true v w g h = absurd (true≢false (sym h))
taken false false v w g h = refl

-- texts that the order doesn't tie differ
behind : (a b : List ℕ) → slice_cmp nat_cmp a b ≡ Greater → bytes_eq a b ≡ false
behind a b h = sym (is_eq-slice_cmp a b) ∙ ap (λ o. is_eq o) h

module _ {V : Type 0} (k name : List ℕ) (v : V) where
  -- by how its name and that of the first one stand
  entered_by : (e : List ℕ × V) (es : List (List ℕ × V)) (o : Ordering) → slice_cmp nat_cmp k e.0 ≡ o
      → lookup (bytes_eq name) (insert_entry (slice_cmp nat_cmp) es k v) ≡ cond (bytes_eq k name) (Some v) (lookup (bytes_eq name) es)
      → lookup (bytes_eq name) (match_ordering o ((k, v) ∷ e ∷ es) ((e.0, v) ∷ es) (e ∷ insert_entry (slice_cmp nat_cmp) es k v))
      ≡ cond (bytes_eq k name) (Some v) (cond (bytes_eq name e.0) (Some e.1) (lookup (bytes_eq name) es))
  entered_by e es Less h others = ap (λ b. cond b (Some v) (cond (bytes_eq name e.0) (Some e.1) (lookup (bytes_eq name) es))) (nat_list_eq_equiv.symm name k)
  entered_by e es Equal h others =
      taken (bytes_eq k name) (bytes_eq name e.0) (Some v) (Some e.1) (lookup (bytes_eq name) es)
      (ap (λ t. bytes_eq t name) (exact_bytes k e.0 h) ∙ nat_list_eq_equiv.symm e.0 name)
  entered_by e es Greater h others =
      ap (λ o. cond (bytes_eq name e.0) (Some e.1) o) others
      ∙ swapped (bytes_eq k name) (bytes_eq name e.0) (Some v) (Some e.1) (lookup (bytes_eq name) es)
      (λ is. subst (λ t. bytes_eq k t ≡ false) (sym ((bytes_eq-Decides name e.0).0 is)) (behind k e.0 h))

  -- what is entered is found at its name, and at other names the same is found
  pub entered : (es : List (List ℕ × V)) → lookup (bytes_eq name) (insert_entry (slice_cmp nat_cmp) es k v) ≡ cond (bytes_eq k name) (Some v) (lookup (bytes_eq name) es)
  entered [] = ap (λ b. cond b (Some v) None) (nat_list_eq_equiv.symm name k)
  entered (e ∷ es) = entered_by e es (slice_cmp nat_cmp k e.0) refl (entered es)

-- ---- one thing, or another in its place

pub or_moved : {A : Type 0} (a b c : Option A) → or_else a (or_else b c) ≡ or_else (or_else a b) c
or_moved None b c = refl
or_moved (Some x) b c = refl

pub or_none : {A : Type 0} (a : Option A) → or_else a None ≡ a
or_none None = refl
or_none (Some x) = refl

pub or_chosen : {A : Type 0} (b : Bool) (v : A) (g : Option A) → cond b (Some v) g ≡ or_else (cond b (Some v) None) g
or_chosen true v g = refl
or_chosen false v g = refl
