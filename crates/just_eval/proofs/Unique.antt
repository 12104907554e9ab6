-- The outcomes of assignments are determined, where none leads to itself.
use Rattle.std.proofs.Common.{◌≡◌, ℕ, zero, suc, ◌<◌, ◌≤◌, inl, inr, List, [], length, get_or, slice_get, take, Option, Some, None, refl, sym, ap, ◌∙◌, subst, arith}
use Rattle.std.specs.List.{All, Contains, filter_map}
use Rattle.std.specs.Option.{unwrap_or}
use Rattle.std.proofs.lemmas.Bool.{cases_eq}
use Rattle.std.proofs.lemmas.List.{get_or_default, get_or-take, length-take-le}
use Rattle.just_lang_types.specs.declared.scope.Assignment.{Assignment}
use Rattle.just_eval_closure.proofs.Items.{In, all_in}
use Rattle.just_lang_spots.specs.Graph.{targets, IsOrder}
use Rattle.just_eval_closure.specs.Values.{Valued, value}
use Rattle.just_eval.specs.Outcomes.{assigned, constant_value, meaning_with, AreOutcomesOf}
use Rattle.just_eval.specs.Uses.{names_in, named, uses}
use Rattle.just_eval.proofs.Agree.{agree}
use Rattle.just_eval.proofs.Final.{found_there, not_there, one_some}
use Rattle.just_eval.proofs.Lists.{passes, mapped_at, mapped_get, length_mapped, there_at_number, below_length, one_list}

-- a number among those in front of a place stands at some place in front of it
in_front : (order : List ℕ) (k w : ℕ) → k ≤ length order → Contains (take k order) w → (j : ℕ) × (j < k) × (get_or order j 0 ≡ w)
in_front order k w h c =
    let size : length (take k order) ≡ k = length-take-le k order h in
    let less : c.0 < k = omega (arith, c.1) in
    (c.0, less, get_or_default order c.0 0 w (omega (arith, less)) ∙ sym (get_or-take k order c.0 w less) ∙ c.2)

module _ (all : List Assignment) (given env : List ℕ → Option (List ℕ)) (os ps : List Valued) (of_os : AreOutcomesOf given env all os) (of_ps : AreOutcomesOf given env all ps) where
  abbrev outcome_by : List Valued → Assignment → Valued
  outcome_by qs a = assigned (given a.name) (value (meaning_with all qs) env a.value)

  pub size_of : (qs : List Valued) → AreOutcomesOf given env all qs → length qs ≡ length all
  size_of qs is = ap (λ l. length l) is ∙ length_mapped (outcome_by qs) all

  -- a name means the same where its outcomes are one
  same_meaning : (name : List ℕ) (w : Option ℕ) → named all name ≡ w → ((k : ℕ) → w ≡ Some k → slice_get os k ≡ slice_get ps k) → meaning_with all os name ≡ meaning_with all ps name
  same_meaning name None is same = ap (λ o. unwrap_or o (constant_value name)) (not_there 0 all os name is ∙ sym (not_there 0 all ps name is))
  same_meaning name (Some k) is same =
      ap (λ o. unwrap_or o (constant_value name)) (found_there 0 all os name k k is (size_of os of_os) (omega arith) ∙ same k refl ∙ sym (found_there 0 all ps name k k is (size_of ps of_ps) (omega arith)))

  outcome_is : (qs : List Valued) → AreOutcomesOf given env all qs → (n : ℕ) (a : Assignment) → slice_get all n ≡ Some a → slice_get qs n ≡ Some (outcome_by qs a)
  outcome_is qs is n a at = ap (λ l. slice_get l n) is ∙ mapped_get (outcome_by qs) all n a at

  -- the outcomes of an assignment are one where those of the ones that it uses are
  pub same_outcome : (n : ℕ) (a : Assignment) → slice_get all n ≡ Some a → ((w : ℕ) → In w (get_or (uses all) n []) → slice_get os w ≡ slice_get ps w) → slice_get os n ≡ slice_get ps n
  same_outcome n a at same =
      let used : get_or (uses all) n [] ≡ filter_map (named all) (names_in a.value) = mapped_at (λ b. filter_map (named all) (names_in b.value)) all n a [] at in
      outcome_is os of_os n a at
      ∙ ap (λ v. Some (assigned (given a.name) v)) (agree (meaning_with all os) (meaning_with all ps) env a.value (λ name i.
      same_meaning name (named all name) refl (λ k h. same k (subst (λ ws. In k ws) (sym used) (passes (named all) (names_in a.value) name k i h)))))
      ∙ sym (outcome_is ps of_ps n a at)

  module _ (order : List ℕ) (behind : IsOrder (uses all) order) (within : All (λ n. n < length all) order) where
    abbrev SameAt : ℕ → Type 0
    SameAt k = slice_get os (get_or order k 0) ≡ slice_get ps (get_or order k 0)

    same_at : (k : ℕ) → k < length order → ((j : ℕ) → j < k → SameAt j) → SameAt k
    same_at k lt before =
        let v = get_or order k 0 in
        let a = there_at_number all v (within k 0 lt) in
        same_outcome v a.0 a.1 (λ w i.
        let c : Contains (take k order) w = all_in (Contains (take k order)) (targets (uses all) v) w (behind k lt) i in
        let j = in_front order k w (omega (arith, lt)) c in
        subst (λ z. slice_get os z ≡ slice_get ps z) j.2 (before j.0 j.1))

    same_before : (k : ℕ) → k ≤ length order → (j : ℕ) → j < k → SameAt j
    same_before zero le j lt = absurd (omega (arith, lt))
    same_before (suc k) le j lt =
        elim (cases_eq j k) [
          | inl e ↦ subst SameAt (sym e) (same_at k (omega (arith, le)) (same_before k (omega (arith, le))))
          | inr ne ↦ same_before k (omega (arith, le)) j (omega (arith, lt))
        ]

    pub one_outcomes : ((n : ℕ) → n < length all → Contains order n) → os ≡ ps
    one_outcomes whole =
        one_list os ps (size_of os of_os ∙ sym (size_of ps of_ps)) (λ n x y at_x at_y.
        let c = whole n (subst (λ l. n < l) (size_of os of_os) (below_length os n x at_x)) in
        let at : get_or order c.0 0 ≡ n = get_or_default order c.0 0 n c.1 ∙ c.2 in
        one_some x y (sym at_x ∙ subst (λ z. slice_get os z ≡ slice_get ps z) at (same_before (length order) (omega arith) c.0 c.1) ∙ at_y))
