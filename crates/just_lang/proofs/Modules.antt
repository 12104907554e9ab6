-- The first place of a circular variable, module by module.
use Rattle.std.proofs.Common.{◌≡◌, ℕ, ◌+◌, ◌<◌, ◌≤◌, ◌⊎◌, inl, inr, List, length, Option, Some, None, sym, ap, ◌∙◌, subst, arith}
use Rattle.std.specs.Prelude.{slice_get, unwrap_or, filter, true}
use Rattle.std.specs.List.{AllByRecursion as ByRecursion}
use Rattle.std.proofs.lemmas.Bool.{cases_eq}
use Rattle.std.proofs.lemmas.Option.{slice_get_within, slice_get-get_or, get_or_from_slice_get}
use Rattle.just_lang_layout.specs.declared.layout.File.{File}
use Rattle.just_lang_layout.specs.declared.layout.Layout.{Layout}
use Rattle.just_lang_layout.specs.declared.layout.Module.{Module}
use Rattle.just_lang_layout.specs.Items.{items_of_module}
use Rattle.just_lang_spots.specs.declared.spot.Spot.{Spot}
use Rattle.just_lang_spots.specs.Items.{item_name, is_assignment}
use Rattle.just_lang_spots.specs.Spots.{earlier}
use Rattle.just_lang_spots.specs.Standing.{Wins}
use Rattle.just_lang_names.specs.Standing.{standing_variable_items, standing_variables}
use Rattle.just_lang.specs.Cycles.{IsFirstSpot, IsCircularAmong, IsCircularVariable}
use Rattle.just_lang.proofs.Firsts.{first_of_two}
use Rattle.just_lang.proofs.LastPlaces.{filtered_all, standing_all}

-- in one of the modules below a number
abbrev pub IsCircularBelow : Wins → Layout → ℕ → Spot → Type 0
IsCircularBelow wins layout n s =
    (k : ℕ) × (k < n) × (m : Module) × (slice_get layout.modules k ≡ Some m) × IsCircularAmong (standing_variables wins layout.files m) s

-- the variables that stand are assignments
pub standing_assignments : (wins : Wins) (files : List File) (m : Module) → ByRecursion (λ x. is_assignment x ≡ true) (standing_variable_items wins files m)
standing_assignments wins files m =
    standing_all item_name (λ x. is_assignment x ≡ true) wins (filter is_assignment (items_of_module files m)) (filtered_all (λ x. is_assignment x ≡ true) is_assignment (λ x h. h) (items_of_module files m))

module _ (wins : Wins) (layout : Layout) where
  pub none_below : IsFirstSpot (IsCircularBelow wins layout 0) None
  unfolding IsFirstSpot
  none_below = λ s c. omega (arith, c.1)

  module _ (i : ℕ) (m : Module) (at : slice_get layout.modules i ≡ Some m) where
    to_left : (s : Spot) → IsCircularBelow wins layout i s → IsCircularBelow wins layout (i + 1) s
    to_left s c = (c.0, omega (arith, c.1), c.2, c.3, c.4)

    to_right : (s : Spot) → IsCircularAmong (standing_variables wins layout.files m) s → IsCircularBelow wins layout (i + 1) s
    to_right s c = (i, omega arith, m, at, c)

    from_both : (s : Spot) → IsCircularBelow wins layout (i + 1) s → IsCircularBelow wins layout i s ⊎ IsCircularAmong (standing_variables wins layout.files m) s
    from_both s c =
        elim (cases_eq c.0 i) [
          | inl e ↦
              let same : Some c.2 ≡ Some m = sym c.3 ∙ ap (slice_get layout.modules) e ∙ at in
              let module_is : c.2 ≡ m = ap (λ (o : Option Module). unwrap_or o c.2) same in
              inr (subst (λ (x : Module). IsCircularAmong (standing_variables wins layout.files x) s) module_is c.4)
          | inr ne ↦ inl (c.0, omega (arith, ne, c.1), c.2, c.3, c.4)
        ]

    -- with one more module
    pub below_more : (found here next : Option Spot) → IsFirstSpot (IsCircularBelow wins layout i) found → IsFirstSpot (IsCircularAmong (standing_variables wins layout.files m)) here → next ≡ earlier found here
        → IsFirstSpot (IsCircularBelow wins layout (i + 1)) next
    below_more found here next p q e =
        subst (λ (o : Option Spot). IsFirstSpot (IsCircularBelow wins layout (i + 1)) o) (sym e)
        (first_of_two (IsCircularBelow wins layout i) (IsCircularAmong (standing_variables wins layout.files m)) (IsCircularBelow wins layout (i + 1)) to_left to_right from_both found here p q)

  first_same : (P Q : Spot → Type 0) (o : Option Spot) → ((s : Spot) → P s → Q s) → ((s : Spot) → Q s → P s) → IsFirstSpot P o → IsFirstSpot Q o
  unfolding IsFirstSpot
  first_same P Q None to back first = λ s q. first s (back s q)
  first_same P Q (Some s) to back first = (to s first.0, λ other q. first.1 other (back other q))

  to_any : (n : ℕ) (s : Spot) → IsCircularBelow wins layout n s → IsCircularVariable wins layout s
  to_any n s c = (c.2, (c.0, slice_get_within layout.modules c.0 c.2 c.3, get_or_from_slice_get layout.modules c.0 c.2 c.2 c.3), c.4)

  from_any : (n : ℕ) → length layout.modules ≤ n → (s : Spot) → IsCircularVariable wins layout s → IsCircularBelow wins layout n s
  from_any n h s c =
      let at = c.1 in
      let there : slice_get layout.modules at.0 ≡ Some c.0 = slice_get-get_or layout.modules at.0 c.0 at.1 ∙ ap (λ (m : Module). Some m) at.2 in
      let less : at.0 < length layout.modules = at.1 in
      (at.0, omega (arith, less, h), c.0, there, c.2)

  -- in all modules
  pub below_all : (n : ℕ) (first : Option Spot) → length layout.modules ≤ n → IsFirstSpot (IsCircularBelow wins layout n) first → IsFirstSpot (IsCircularVariable wins layout) first
  below_all n first h p = first_same (IsCircularBelow wins layout n) (IsCircularVariable wins layout) first (to_any n) (from_any n h) p
