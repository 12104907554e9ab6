-- In a graph none of whose nodes lies on a cycle no chain has more members than the graph has nodes.
use Rattle.std.proofs.Common.{◌≡◌, ℕ, zero, suc, ◌+◌, ◌-◌, ◌<◌, ◌≤◌, cond, inl, inr, Bool, true, false, ◌&&◌, List, [], ◌∷◌, length, refl, ap, ◌∙◌, subst, arith}
use Rattle.std.specs.List.{Contains, list_all, list_any, IsDistinct}
use lib.Dec.{eqb}
use Rattle.std.proofs.lemmas.Bool.{cases_Bool, cases_lt}
use Rattle.std.proofs.lemmas.List.Folds.{list_all_at}
use Rattle.std.proofs.lemmas.Map.Steps.{length-le_from_distinct_below}
use Rattle.just_lang_spots.specs.Chains.{ends_within, longest_within}
use Rattle.just_lang_spots.specs.Graph.{targets, IsGraph, Reaches, edge, along, IsAcyclic}
use Rattle.just_lang_spots.proofs.Levels.{target_within}
use Rattle.just_lang_spots.proofs.Peelings.{any_cases, distinct_one, distinct_none}
use Rattle.just_lang_spots.proofs.Search.{reaches_on}

-- a test that each passes is passed by all
pub all_pass : {A : Type 0} (p : A → Bool) (xs : List A) → ((x : A) → Contains xs x → p x ≡ true) → list_all p xs ≡ true
all_pass p [] h = refl
all_pass p (x ∷ xs) h = ap (λ b. b && list_all p xs) (h x (0, omega arith, refl)) ∙ all_pass p xs (λ y c. h y (suc c.0, omega (arith, c.1), c.2))

-- a test that all pass is passed by each
pub passed_by : {A : Type 0} (p : A → Bool) (xs : List A) (x : A) → list_all p xs ≡ true → Contains xs x → p x ≡ true
passed_by p xs x e c =
    elim (cases_Bool (p x)) [
      | inl t ↦ t
      | inr f ↦ let fails : list_all p xs ≡ false = list_all_at p xs c.0 x c.1 (ap p c.2 ∙ f) in absurd (cc)
    ]

module _ (edges : List (List ℕ)) (graph : IsGraph edges) (acyclic : IsAcyclic edges) where
  -- a node that all those before it lead to is none of them
  new_node : (gone : List ℕ) (v : ℕ) → ((q : ℕ) → list_any (eqb q) gone ≡ true → Reaches edges q v) → list_any (eqb v) gone ≡ false
  new_node gone v reach =
      elim (cases_Bool (list_any (eqb v) gone)) [
        | inl t ↦ absurd (acyclic v (reach v t))
        | inr f ↦ f
      ]

  -- what a thing leads to are things of the targets of its node
  module _ {A : Type 0} (next : A → List A) (IsAt : A → ℕ → Type 0) (leads : (x : A) (v : ℕ) → IsAt x v → (y : A) → Contains (next x) y → (w : ℕ) × Contains (targets edges v) w × IsAt y w) where
    ends_from : (fuel : ℕ) (gone : List ℕ) (x : A) (v : ℕ) → IsAt x v → v < length edges → IsDistinct eqb gone → ((q : ℕ) → list_any (eqb q) gone ≡ true → q < length edges)
        → ((q : ℕ) → list_any (eqb q) gone ≡ true → Reaches edges q v) → length edges ≤ length gone + fuel → ends_within next fuel x ≡ true
    ends_from zero gone x v at h distinct below reach less =
        let more : length (v ∷ gone) ≤ length edges =
        length-le_from_distinct_below (v ∷ gone) (length edges) (distinct_one v gone (new_node gone v reach) distinct) (any_cases (λ q. q < length edges) v gone h below) in
        absurd (omega (arith, more, less))
    ends_from (suc fuel) gone x v at h distinct below reach less =
        all_pass (ends_within next fuel) (next x) (λ y c.
        let to = leads x v at y c in
        ends_from fuel (v ∷ gone) y to.0 to.2 (target_within edges v to.0 graph h to.1) (distinct_one v gone (new_node gone v reach) distinct) (any_cases (λ q. q < length edges) v gone h below)
        (any_cases (λ q. Reaches edges q to.0) v gone (edge v to.0 to.1) (λ q any. reaches_on edges q v to.0 (reach q any) to.1)) (omega arith))

    -- no chain of things has more members than there are nodes
    pub chains_end : (x : A) (v : ℕ) → IsAt x v → v < length edges → ends_within next (length edges) x ≡ true
    chains_end x v at h = ends_from (length edges) [] x v at h distinct_none (λ q any. absurd (cc)) (λ q any. absurd (cc)) (omega arith)

  -- nor has a chain of nodes
  pub nodes_end : (v : ℕ) → v < length edges → ends_within (targets edges) (length edges) v ≡ true
  nodes_end v h = chains_end (targets edges) (λ x w. x ≡ w) (λ x w e y c. (y, subst (λ z. Contains (targets edges z) y) e c, refl)) v v refl h

-- where each edge of a graph has one of another between the nodes that its nodes stand for, what a node reaches is reached there too
pub reaches_image : (edges image : List (List ℕ)) (f : ℕ → ℕ) → ((v w : ℕ) → Contains (targets edges v) w → Contains (targets image (f v)) (f w)) → (v w : ℕ) → Reaches edges v w → Reaches image (f v) (f w)
reaches_image edges image f keeps v w (edge a b c) = edge (f a) (f b) (keeps a b c)
reaches_image edges image f keeps v w (along a b x c more) = along (f a) (f b) (f x) (keeps a b c) (reaches_image edges image f keeps b x more)

-- so the one has no cycle where the other has none
pub acyclic_image : (edges image : List (List ℕ)) (f : ℕ → ℕ) → ((v w : ℕ) → Contains (targets edges v) w → Contains (targets image (f v)) (f w)) → IsAcyclic image → IsAcyclic edges
acyclic_image edges image f keeps none v cycle = none (f v) (reaches_image edges image f keeps v v cycle)

-- ---- ranks

module _ {A : Type 0} (next : A → List A) where
  all_weaker : (p q : A → Bool) → ((x : A) → p x ≡ true → q x ≡ true) → (xs : List A) → list_all p xs ≡ true → list_all q xs ≡ true
  all_weaker p q h [] e = refl
  all_weaker p q h (x ∷ xs) e =
      elim (p x) as (λ b. p x ≡ b → (b && list_all p xs) ≡ true → (q x && list_all q xs) ≡ true) [
        | true ↦ λ t f. ap (λ b. b && list_all q xs) (h x t) ∙ all_weaker p q h xs f
        | false ↦ λ t f. absurd (cc)
      ] refl e

  more_by_one : (n : ℕ) (x : A) → ends_within next n x ≡ true → ends_within next (suc n) x ≡ true
  more_by_one zero x e = absurd (cc)
  more_by_one (suc n) x e = all_weaker (ends_within next n) (ends_within next (suc n)) (more_by_one n) (next x) e

  more : (n k m : ℕ) (x : A) → m ≡ k + n → ends_within next n x ≡ true → ends_within next m x ≡ true
  more n zero m x is e = let same : n ≡ m = omega (arith, is) in subst (λ j. ends_within next j x ≡ true) same e
  more n (suc k) m x is e =
      let same : suc (k + n) ≡ m = omega (arith, is) in
      subst (λ j. ends_within next j x ≡ true) same (more_by_one (k + n) x (more n k (k + n) x refl e))

  longest_ends : (n : ℕ) (x : A) → ends_within next n x ≡ true → ends_within next (longest_within next n x) x ≡ true
  longest_ends zero x e = e
  longest_ends (suc n) x e =
      elim (ends_within next n x) as (λ b. ends_within next n x ≡ b → ends_within next (cond b (longest_within next n x) (suc n)) x ≡ true) [
        | true ↦ λ t. longest_ends n x t
        | false ↦ λ f. e
      ] refl

  longest_least : (n k : ℕ) (x : A) → ends_within next k x ≡ true → longest_within next n x ≤ k
  longest_least zero k x e = omega arith
  longest_least (suc n) k x e =
      elim (ends_within next n x) as (λ b. ends_within next n x ≡ b → cond b (longest_within next n x) (suc n) ≤ k) [
        | true ↦ λ t. longest_least n k x e
        | false ↦ λ f.
            elim (cases_lt n k) [
              | inl less ↦ omega (arith, less)
              | inr le ↦
                  let enough : ends_within next n x ≡ true = more k (n - k) n x (omega (arith, le)) e in
                  absurd (cc)
            ]
      ] refl

  below_end : (m : ℕ) (x y : A) → ends_within next m x ≡ true → Contains (next x) y → (k : ℕ) × (m ≡ suc k) × (ends_within next k y ≡ true)
  below_end zero x y e c = absurd (cc)
  below_end (suc m) x y e c = (m, refl, passed_by (ends_within next m) (next x) y e c)

  -- a thing that follows another has a lower rank, where chains from that one end
  pub ranked : (n : ℕ) (x y : A) → ends_within next n x ≡ true → Contains (next x) y → longest_within next n y < longest_within next n x
  ranked n x y e c =
      let b = below_end (longest_within next n x) x y (longest_ends n x e) c in
      let least = longest_least n b.0 y b.2 in
      let is = b.1 in
      omega (arith, least, is)
