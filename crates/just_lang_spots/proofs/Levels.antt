-- Where no edge leads to a lower level, a node below all its targets lies on no cycle.
use Rattle.std.proofs.Common.{◌≡◌, ℕ, zero, suc, ◌&&◌, ◌<◌, ◌≤◌, inl, inr, Bool, true, false, nat_le, nat_lt, List, [], ◌∷◌, length, replicate, refl, ap, ◌∙◌, arith, leb-true, ltb-true}
use Rattle.std.specs.List.{Contains, list_all}
use Rattle.std.proofs.lemmas.Bool.{cases_Bool}
use Rattle.std.proofs.lemmas.List.{length-replicate}
use Rattle.std.proofs.lemmas.List.Folds.{list_all_at}
use Rattle.std.proofs.lemmas.List.Elements.{All-contains}
use Rattle.just_lang_spots.specs.Graph.{targets, IsGraph, Reaches, edge, along, IsOnCycle}
use Rattle.just_lang_spots.specs.Levels.{level, is_below_targets, AreLevels}
use Rattle.just_lang_spots.proofs.Search.{targets_within}

-- a test that all pass is passed by each
passed : (p : ℕ → Bool) (xs : List ℕ) (x : ℕ) → list_all p xs ≡ true → Contains xs x → p x ≡ true
passed p xs x e c =
    elim (cases_Bool (p x)) [
      | inl t ↦ t
      | inr f ↦ let fails : list_all p xs ≡ false = list_all_at p xs c.0 x c.1 (ap p c.2 ∙ f) in absurd (cc)
    ]

-- an edge leads to no lower level
edge_rises : (edges : List (List ℕ)) (levels : List ℕ) (v w : ℕ) → AreLevels edges levels → v < length edges → Contains (targets edges v) w → level levels v ≤ level levels w
edge_rises edges levels v w are h c =
    leb-true (level levels v) (level levels w) (passed (λ x. nat_le (level levels v) (level levels x)) (targets edges v) w (are.rising v h) c)

pub target_within : (edges : List (List ℕ)) (v w : ℕ) → IsGraph edges → v < length edges → Contains (targets edges v) w → w < length edges
target_within edges v w graph h c = All-contains (λ x. x < length edges) (targets edges v) w (targets_within edges v graph h) c

-- nor does a path
pub path_rises : (edges : List (List ℕ)) (levels : List ℕ) (v w : ℕ) → IsGraph edges → AreLevels edges levels → v < length edges → Reaches edges v w → level levels v ≤ level levels w
path_rises edges levels v w graph are h (edge a b c) = edge_rises edges levels a b are h c
path_rises edges levels v w graph are h (along a b x c more) =
    let first = edge_rises edges levels a b are h c in
    let rest = path_rises edges levels b x graph are (target_within edges a b graph h c) more in
    omega (arith, first, rest)

-- a node below all its targets is below all that it reaches
below_reached : (edges : List (List ℕ)) (levels : List ℕ) (v w : ℕ) → IsGraph edges → AreLevels edges levels → v < length edges → is_below_targets edges levels v ≡ true → Reaches edges v w → level levels v < level levels w
below_reached edges levels v w graph are h below (edge a b c) =
    ltb-true (level levels a) (level levels b) (passed (λ x. nat_lt (level levels a) (level levels x)) (targets edges a) b below c)
below_reached edges levels v w graph are h below (along a b x c more) =
    let first : level levels a < level levels b = ltb-true (level levels a) (level levels b) (passed (λ y. nat_lt (level levels a) (level levels y)) (targets edges a) b below c) in
    let rest = path_rises edges levels b x graph are (target_within edges a b graph h c) more in
    omega (arith, first, rest)

-- so it lies on no cycle
pub below_off_cycle : (edges : List (List ℕ)) (levels : List ℕ) (v : ℕ) → IsGraph edges → AreLevels edges levels → v < length edges → is_below_targets edges levels v ≡ true → IsOnCycle edges v → ⊥
below_off_cycle edges levels v graph are h below cycle =
    let less = below_reached edges levels v v graph are h below cycle in
    omega (arith, less)

-- all nodes may have one level
zero_at : (n v : ℕ) → level (replicate n 0) v ≡ 0
zero_at zero v = refl
zero_at (suc n) zero = refl
zero_at (suc n) (suc v) = zero_at n v

zero_rises : (n v : ℕ) (ws : List ℕ) → list_all (λ w. nat_le (level (replicate n 0) v) (level (replicate n 0) w)) ws ≡ true
zero_rises n v [] = refl
zero_rises n v (w ∷ ws) =
    let least : nat_le (level (replicate n 0) v) (level (replicate n 0) w) ≡ true = ap (λ k. nat_le k (level (replicate n 0) w)) (zero_at n v) ∙ ap (nat_le 0) (zero_at n w) in
    ap (λ b. b && list_all (λ x. nat_le (level (replicate n 0) v) (level (replicate n 0) x)) ws) least ∙ zero_rises n v ws

pub one_level : (edges : List (List ℕ)) → AreLevels edges (replicate (length edges) 0)
one_level edges = record {
  size = length-replicate (length edges) 0;
  rising = λ v h. zero_rises (length edges) v (targets edges v);
}
