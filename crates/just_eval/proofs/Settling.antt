-- An outcome more.
use Rattle.std.proofs.Common.{◌≡◌, ℕ, zero, suc, ◌+◌, ◌<◌, true, inl, inr, List, [], ◌∷◌, ◌++◌, length, get_or, set, slice_get, take, Option, Some, None, is_some, refl, sym, ap, ◌∙◌, subst}
use Rattle.std.specs.BTreeMap.{BTreeMap}
use Rattle.std.specs.List.{All, Contains, filter_map}
use Rattle.std.specs.Option.{unwrap_or}
use Rattle.std.proofs.lemmas.Bool.{cases_eq}
use Rattle.std.proofs.lemmas.List.{get_or-set_same, get_or-set_other}
use Rattle.std.proofs.lemmas.List.Elements.{All-weaker, All-more}
use Rattle.just_lang_types.specs.declared.scope.Assignment.{Assignment}
use Rattle.just_eval_closure.proofs.Items.{all_in}
use Rattle.just_lang_spots.specs.Graph.{targets, IsOrder}
use Rattle.just_eval_closure.specs.Values.{Valued, value}
use Rattle.just_eval.specs.Numbers.{AreNumbers}
use Rattle.just_eval.specs.Outcomes.{assigned, constant_value}
use Rattle.just_eval.specs.Partial.{outcome_at, meaning_so_far, Agrees, AreSettled, AreThere}
use Rattle.just_eval.specs.Uses.{names_in, named, uses}
use Rattle.just_eval.proofs.Agree.{agree}
use Rattle.just_eval.proofs.Lists.{passes, mapped_at, some_of}

-- none is there at first
pub none_more : (os : List (Option Valued)) → ((n : ℕ) → get_or os n None ≡ None) → (n : ℕ) → get_or (os ++ None ∷ []) n None ≡ None
none_more [] none zero = refl
none_more [] none (suc n) = refl
none_more (o ∷ os) none zero = none 0
none_more (o ∷ os) none (suc n) = none_more os (λ k. none (suc k)) n

pub none_settled : (all : List Assignment) (given env : List ℕ → Option (List ℕ)) (os : List (Option Valued)) → ((n : ℕ) → get_or os n None ≡ None) → AreSettled all given env os
none_settled all given env os none n o a there is names agrees = absurd (let clash : None ≡ Some o = sym (none n) ∙ there in let no : ⊥ = cc in no)

-- what holds of the nodes in front holds of the targets of the next one
pub there_before : (edges : List (List ℕ)) (order : List ℕ) (os : List (Option Valued)) (k v : ℕ) → IsOrder edges order → k < length order → v ≡ get_or order k 0 → AreThere os (take k order) → AreThere os (get_or edges v [])
there_before edges order os k v behind lt is there =
    let all : All (Contains (take k order)) (targets edges v) = subst (λ w. All (Contains (take k order)) (targets edges w)) (sym is) (behind k lt) in
    All-weaker (Contains (take k order)) (λ n. is_some (get_or os n None) ≡ true) (λ w c. subst (λ z. is_some (get_or os z None) ≡ true) c.2 (there c.0 w c.1)) (targets edges v) all

-- one more is there
pub there_more : (order : List ℕ) (old new : List (Option Valued)) (k v : ℕ) → k < length order → v ≡ get_or order k 0 → ((n : ℕ) → is_some (get_or old n None) ≡ true → is_some (get_or new n None) ≡ true) → is_some (get_or new v None) ≡ true → AreThere old (take k order) → AreThere new (take (k + 1) order)
there_more order old new k v lt is kept here there =
    All-more (λ n. is_some (get_or new n None) ≡ true) order k 0 lt (All-weaker (λ n. is_some (get_or old n None) ≡ true) (λ n. is_some (get_or new n None) ≡ true) kept (take k order) there) (subst (λ n. is_some (get_or new n None) ≡ true) is here)

module _ (all : List Assignment) (given env : List ℕ → Option (List ℕ)) (numbers : BTreeMap (List ℕ) ℕ) (are : AreNumbers all numbers) where
  -- names that agree with the outcomes mean what was meant so far, where the name's own assignment has its outcome
  meant : (old : List (Option Valued)) (names : List ℕ → Valued) → Agrees all old names → (name : List ℕ) (o : Option ℕ) → named all name ≡ o → ((w : ℕ) → o ≡ Some w → is_some (get_or old w None) ≡ true) → meaning_so_far numbers old name ≡ names name
  meant old names agrees name None is there = ap (λ o. unwrap_or (outcome_at old o) (constant_value name)) (are name ∙ is) ∙ sym (agrees.constants_are name is)
  meant old names agrees name (Some w) is there =
      let v = some_of (get_or old w None) (there w refl) in
      ap (λ o. unwrap_or (outcome_at old o) (constant_value name)) (are name ∙ is) ∙ ap (λ o. unwrap_or o (constant_value name)) v.1 ∙ sym (agrees.outcomes_are name v.0 (ap (λ o. outcome_at old o) is ∙ v.1))

  -- the outcome by what was meant so far is that by all names that agree
  by_all : (old : List (Option Valued)) (at : ℕ) (a : Assignment) → slice_get all at ≡ Some a → AreThere old (get_or (uses all) at []) → (names : List ℕ → Valued) → Agrees all old names → assigned (given a.name) (value (meaning_so_far numbers old) env a.value) ≡ assigned (given a.name) (value names env a.value)
  by_all old at a is there names agrees =
      let used : AreThere old (filter_map (named all) (names_in a.value)) = subst (λ ns. AreThere old ns) (mapped_at (λ b. filter_map (named all) (names_in b.value)) all at a [] is) there in
      ap (λ v. assigned (given a.name) v) (agree (meaning_so_far numbers old) names env a.value (λ n i.
      meant old names agrees n (named all n) refl (λ w h. all_in (λ k. is_some (get_or old k None) ≡ true) (filter_map (named all) (names_in a.value)) w used (passes (named all) (names_in a.value) n w i h))))

  module _ (old : List (Option Valued)) (at : ℕ) (a : Assignment) (o : Valued) (lt : at < length old) (is : slice_get all at ≡ Some a) (empty : get_or old at None ≡ None) where
    -- an outcome that was there is there
    longer : (w : Option ℕ) (x : Valued) → outcome_at old w ≡ Some x → outcome_at (set old at (Some o)) w ≡ Some x
    longer None x h = h
    longer (Some k) x h =
        elim (cases_eq k at) [
          | inl e ↦ absurd (let clash : None ≡ Some x = sym empty ∙ ap (λ j. get_or old j None) (sym e) ∙ h in let no : ⊥ = cc in no)
          | inr ne ↦ get_or-set_other old at k (Some o) None ne ∙ h
        ]

    before : (names : List ℕ → Valued) → Agrees all (set old at (Some o)) names → Agrees all old names
    before names agrees = record { outcomes_are = λ name x h. agrees.outcomes_are name x (longer (named all name) x h); constants_are = agrees.constants_are }

    pub settled_more : o ≡ assigned (given a.name) (value (meaning_so_far numbers old) env a.value) → AreThere old (get_or (uses all) at []) → AreSettled all given env old → AreSettled all given env (set old at (Some o))
    settled_more is_value there settled n v b at_n is_b names agrees =
        elim (cases_eq n at) [
          | inl e ↦
              let value_is : v ≡ o = let alike : Some v ≡ Some o = sym at_n ∙ ap (λ k. get_or (set old at (Some o)) k None) e ∙ get_or-set_same old at (Some o) None lt in let inside : v ≡ o = cc in inside in
              let b_is : a ≡ b = let alike : Some a ≡ Some b = sym is ∙ ap (λ k. slice_get all k) (sym e) ∙ is_b in let inside : a ≡ b = cc in inside in
              value_is ∙ is_value ∙ by_all old at a is there names (before names agrees) ∙ ap (λ c. assigned (given c.name) (value names env c.value)) b_is
          | inr ne ↦ settled n v b (sym (get_or-set_other old at n (Some o) None ne) ∙ at_n) is_b names (before names agrees)
        ]

    -- it is there, and those that were there are
    pub there_now : is_some (get_or (set old at (Some o)) at None) ≡ true
    there_now = ap (λ p. is_some p) (get_or-set_same old at (Some o) None lt)

    pub there_still : (n : ℕ) → is_some (get_or old n None) ≡ true → is_some (get_or (set old at (Some o)) n None) ≡ true
    there_still n h =
        elim (cases_eq n at) [
          | inl e ↦ subst (λ k. is_some (get_or (set old at (Some o)) k None) ≡ true) (sym e) there_now
          | inr ne ↦ ap (λ p. is_some p) (get_or-set_other old at n (Some o) None ne) ∙ h
        ]
