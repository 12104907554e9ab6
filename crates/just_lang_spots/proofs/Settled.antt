-- Origins that are settled one after the other, each node's behind those of its targets.
use Rattle.std.proofs.Common.{◌≡◌, ◌≢◌, ℕ, zero, suc, ◌+◌, ◌<◌, ◌≤◌, ◌⊎◌, inl, inr, Bool, false, cond, List, [], ◌∷◌, length, map, get_or, set, take, Option, Some, None, refl, ap, sym, ◌∙◌, subst, arith}
use Rattle.std.specs.List.{All, Contains}
use Rattle.std.proofs.lemmas.Bool.{cases_eq}
use Rattle.std.proofs.lemmas.List.{get_or_default, get_or-set_same, get_or-set_other, set-get_or, get_or-take, length-take-le}
use Rattle.std.proofs.lemmas.List.Elements.{All-weaker, All-head, All-tail}
use Rattle.just_lang_spots.specs.Graph.{targets, IsOrder}
use Rattle.just_lang_spots.specs.Origins.{first_there, origin_at, AreOrigins}

-- the nodes in front of a place have their origins
abbrev pub AreSettled : List (List ℕ) → List Bool → List (Option ℕ) → List ℕ → ℕ → Type 0
AreSettled edges own origins order i = (k : ℕ) → k < i → get_or origins (get_or order k 0) None ≡ origin_at edges own origins (get_or order k 0)

-- a number among those in front of a place stands at some place in front of it
in_front : (order : List ℕ) (i v : ℕ) → i ≤ length order → Contains (take i order) v → (j : ℕ) × (j < i) × (get_or order j 0 ≡ v)
in_front order i v h c =
    let size : length (take i order) ≡ i = length-take-le i order h in
    let less : c.0 < i = omega (arith, c.1) in
    (c.0, less, get_or_default order c.0 0 v (omega (arith, less)) ∙ sym (get_or-take i order c.0 v less) ∙ c.2)

-- it does, or it differs from each of them
front_cases : (order : List ℕ) (i v : ℕ) → i ≤ length order → ((j : ℕ) × (j < i) × (get_or order j 0 ≡ v)) ⊎ ((j : ℕ) → j < i → get_or order j 0 ≢ v)
front_cases order zero v h = inr (λ j lt. absurd (omega (arith, lt)))
front_cases order (suc i) v h =
    elim (cases_eq (get_or order i 0) v) [
      | inl e ↦ inl (i, omega arith, e)
      | inr ne ↦ elim (front_cases order i v (omega arith)) [
        | inl x ↦ inl (x.0, omega (arith, x.1), x.2)
        | inr none ↦ inr (λ j lt. elim (cases_eq j i) [
          | inl e ↦ subst (λ n. get_or order n 0 ≢ v) (sym e) ne
          | inr other ↦ none j (omega arith)
        ])
      ]
    ]

-- what is changed at another node isn't seen
same_map_of : (origins : List (Option ℕ)) (v : ℕ) (o : Option ℕ) (ws : List ℕ) → All (λ w. w ≢ v) ws → map (λ w. get_or (set origins v o) w None) ws ≡ map (λ w. get_or origins w None) ws
same_map_of origins v o [] apart = refl
same_map_of origins v o (w ∷ ws) apart =
    let here : get_or (set origins v o) w None ≡ get_or origins w None = get_or-set_other origins v w o None (All-head (λ w. w ≢ v) w ws apart) in
    let rest = same_map_of origins v o ws (All-tail (λ w. w ≢ v) w ws apart) in
    cc

same_origin_at : (edges : List (List ℕ)) (own : List Bool) (origins : List (Option ℕ)) (v u : ℕ) (o : Option ℕ) → All (λ w. w ≢ v) (targets edges u) → origin_at edges own (set origins v o) u ≡ origin_at edges own origins u
same_origin_at edges own origins v u o apart =
    ap (λ os. cond (get_or own u false) (Some u) (first_there os)) (same_map_of origins v o (targets edges u) apart)

-- one more node has its origin
pub settle_one : (edges : List (List ℕ)) (own : List Bool) (origins : List (Option ℕ)) (order : List ℕ) (i v : ℕ) → IsOrder edges order → i < length order → get_or order i 0 ≡ v → v < length origins → AreSettled edges own origins order i → AreSettled edges own (set origins v (origin_at edges own origins v)) order (i + 1)
settle_one edges own origins order i v behind h at within settled =
    let o = origin_at edges own origins v in
    elim (front_cases order i v (omega arith)) [
      | inl x ↦
          let here : get_or origins v None ≡ o = subst (λ n. get_or origins n None ≡ origin_at edges own origins n) x.2 (settled x.0 x.1) in
          let same : set origins v o ≡ origins = ap (λ y. set origins v y) (sym here) ∙ set-get_or origins v None in
          subst (λ os. AreSettled edges own os order (i + 1)) (sym same) (λ k lt. elim (cases_eq k i) [
            | inl e ↦ subst (λ n. get_or origins n None ≡ origin_at edges own origins n) (sym at ∙ ap (λ n. get_or order n 0) (sym e)) here
            | inr ne ↦ settled k (omega arith)
          ])
      | inr none ↦ λ k lt.
          let far : All (λ w. w ≢ v) (targets edges (get_or order k 0)) = All-weaker (Contains (take k order)) (λ w. w ≢ v) (λ w c. let y = in_front order k w (omega arith) c in subst (λ n. n ≢ v) y.2 (none y.0 (omega (arith, y.1)))) (targets edges (get_or order k 0)) (behind k (omega arith)) in
          let kept = same_origin_at edges own origins v (get_or order k 0) o far in
          elim (cases_eq k i) [
            | inl e ↦
                let it : get_or order k 0 ≡ v = ap (λ n. get_or order n 0) e ∙ at in
                subst (λ n. get_or (set origins v o) n None ≡ origin_at edges own origins n) (sym it) (get_or-set_same origins v o None within) ∙ sym kept
            | inr ne ↦ get_or-set_other origins v (get_or order k 0) o None (none k (omega arith)) ∙ settled k (omega arith) ∙ sym kept
          ]
    ]

-- where each node stands in the order, all have their origins
pub settled_all : (edges : List (List ℕ)) (own : List Bool) (origins : List (Option ℕ)) (order : List ℕ) → length origins ≡ length edges → ((v : ℕ) → v < length edges → Contains order v) → AreSettled edges own origins order (length order) → AreOrigins edges own origins
settled_all edges own origins order size whole settled = record {
  size = size;
  each = λ v h. let c = whole v h in subst (λ n. get_or origins n None ≡ origin_at edges own origins n) (get_or_default order c.0 0 v c.1 ∙ c.2) (settled c.0 c.1);
}
