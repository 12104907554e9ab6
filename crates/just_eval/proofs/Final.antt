-- When all outcomes are there, they are those of the assignments.
use Rattle.std.proofs.Common.{◌≡◌, ℕ, zero, suc, ◌+◌, ◌<◌, ◌≤◌, Bool, true, false, bytes_eq, List, [], ◌∷◌, length, get_or, slice_get, map, Option, Some, None, is_some, refl, sym, ap, ◌∙◌, subst, arith}
use Rattle.std.specs.Prelude.{if◌then◌else◌}
use Rattle.std.specs.Option.{unwrap_or}
use Rattle.std.specs.List.{Contains}
use Rattle.just_lang_types.specs.declared.scope.Assignment.{Assignment}
use Rattle.just_eval_closure.specs.Values.{Valued, value}
use Rattle.just_eval.specs.Outcomes.{assigned, outcome_in, outcome_or, constant_value, meaning_with, AreOutcomesOf}
use Rattle.just_eval.specs.Partial.{outcome_at, outcome_there, outcomes_there, Agrees, AreSettled, AreThere}
use Rattle.just_eval.specs.Uses.{named_from, named}
use Rattle.just_eval.proofs.Lists.{one_list, same_mapped, length_mapped, mapped_from, below_length, some_of}

-- a number is at least the one from which the assignments are numbered
named_later : (n : ℕ) (all : List Assignment) (name : List ℕ) (k : ℕ) → named_from n all name ≡ Some k → n ≤ k
named_later n [] name k h = absurd (let no : ⊥ = cc in no)
named_later n (a ∷ more) name k h = pick (bytes_eq a.name name) h (λ e. named_later (suc n) more name k e)
  where
    pick : (b : Bool) → (if b then Some n else named_from (suc n) more name) ≡ Some k → (named_from (suc n) more name ≡ Some k → suc n ≤ k) → n ≤ k
    pick true e rest = let same : n ≡ k = cc in omega (arith, same)
    pick false e rest = omega (arith, rest e)

-- the outcome of the first assignment of a name is at its number
pub found_there : (n : ℕ) (all : List Assignment) (outs : List Valued) (name : List ℕ) (k d : ℕ) → named_from n all name ≡ Some k → length outs ≡ length all → k ≡ n + d → outcome_in all outs name ≡ slice_get outs d
found_there n [] outs name k d h size at = absurd (let no : ⊥ = cc in no)
found_there n (a ∷ more) [] name k d h size at = absurd (omega (arith, size))
found_there n (a ∷ more) (o ∷ os) name k d h size at =
    pick (bytes_eq a.name name) h d at (λ d' e at'. found_there (suc n) more os name k d' e (omega (arith, size)) at') (λ e. named_later (suc n) more name k e)
  where
    pick : (b : Bool) → (if b then Some n else named_from (suc n) more name) ≡ Some k → (d : ℕ) → k ≡ n + d → ((d' : ℕ) → named_from (suc n) more name ≡ Some k → k ≡ suc n + d' → outcome_in more os name ≡ slice_get os d') → (named_from (suc n) more name ≡ Some k → suc n ≤ k)
        → outcome_or b o (outcome_in more os name) ≡ slice_get (o ∷ os) d
    pick true e zero at rest later = refl
    pick true e (suc d) at rest later = let same : n ≡ k = cc in absurd (omega (arith, same, at))
    pick false e zero at rest later = absurd (omega (arith, later e, at))
    pick false e (suc d) at rest later = rest d e (omega (arith, at))

pub not_there : (n : ℕ) (all : List Assignment) (outs : List Valued) (name : List ℕ) → named_from n all name ≡ None → outcome_in all outs name ≡ None
not_there n [] outs name h = refl
not_there n (a ∷ more) [] name h = refl
not_there n (a ∷ more) (o ∷ os) name h = pick (bytes_eq a.name name) h (λ e. not_there (suc n) more os name e)
  where
    pick : (b : Bool) → (if b then Some n else named_from (suc n) more name) ≡ None → (named_from (suc n) more name ≡ None → outcome_in more os name ≡ None) → outcome_or b o (outcome_in more os name) ≡ None
    pick true e rest = absurd (let no : ⊥ = cc in no)
    pick false e rest = rest e

there_at : (os : List (Option Valued)) (n : ℕ) (v : Valued) → get_or os n None ≡ Some v → slice_get (outcomes_there os) n ≡ Some v
there_at [] n v h = absurd (let no : ⊥ = cc in no)
there_at (o ∷ os) zero v h = ap (λ p. Some (outcome_there p)) h
there_at (o ∷ os) (suc n) v h = there_at os n v h

-- names mean what the outcomes say
agrees : (all : List Assignment) (os : List (Option Valued)) → length (outcomes_there os) ≡ length all → Agrees all os (meaning_with all (outcomes_there os))
agrees all os size = record {
  outcomes_are = λ name v h. outcome_by name v (named all name) refl h;
  constants_are = λ name none. ap (λ o. unwrap_or o (constant_value name)) (not_there 0 all (outcomes_there os) name none);
}
  where
    outcome_by : (name : List ℕ) (v : Valued) (w : Option ℕ) → named all name ≡ w → outcome_at os w ≡ Some v → meaning_with all (outcomes_there os) name ≡ v
    outcome_by name v None is h = absurd (let no : ⊥ = cc in no)
    outcome_by name v (Some k) is h =
        ap (λ o. unwrap_or o (constant_value name)) (found_there 0 all (outcomes_there os) name k k is size (omega arith) ∙ there_at os k v h)

pub one_some : (v w : Valued) → Some v ≡ Some w → v ≡ w
one_some v w h = cc

module _ (all : List Assignment) (found given env : List ℕ → Option (List ℕ)) (same : (name : List ℕ) → found name ≡ given name) (os : List (Option Valued)) where
  pub outcomes_are : length os ≡ length all → AreSettled all found env os → ((n : ℕ) → n < length all → is_some (get_or os n None) ≡ true) → AreOutcomesOf given env all (outcomes_there os)
  outcomes_are size settled there =
      let sizes : length (outcomes_there os) ≡ length all = length_mapped outcome_there os ∙ size in
      let names : List ℕ → Valued = meaning_with all (outcomes_there os) in
      let gives : Assignment → Valued = λ a. assigned (given a.name) (value names env a.value) in
      one_list (outcomes_there os) (map gives all) (sizes ∙ sym (length_mapped gives all)) (λ n x y at_x at_y.
      let a = mapped_from gives all n y at_y in
      let o = some_of (get_or os n None) (there n (below_length all n a.0 a.1)) in
      one_some x o.0 (sym at_x ∙ there_at os n o.0 o.1) ∙ settled n o.0 a.0 o.1 a.1 names (agrees all os sizes) ∙ ap (λ g. assigned g (value names env a.0.value)) (same a.0.name) ∙ a.2)

-- what is there at each number of an order is there at each number that it contains
pub there_in : (order : List ℕ) (os : List (Option Valued)) (n : ℕ) → AreThere os order → Contains order n → is_some (get_or os n None) ≡ true
there_in order os n there c = subst (λ k. is_some (get_or os k None) ≡ true) c.2 (there c.0 n c.1)

-- what is given to the same names makes the same outcomes
pub other_given : (all : List Assignment) (f g env : List ℕ → Option (List ℕ)) → ((name : List ℕ) → f name ≡ g name) → (os : List Valued) → AreOutcomesOf f env all os → AreOutcomesOf g env all os
other_given all f g env same os is =
    is ∙ same_mapped (λ a. assigned (f a.name) (value (meaning_with all os) env a.value)) (λ a. assigned (g a.name) (value (meaning_with all os) env a.value)) all (λ a. ap (λ o. assigned o (value (meaning_with all os) env a.value)) (same a.name))
