-- Nodes that are taken out behind all their targets lead to no cycle; those left where none can be taken out do.
use Rattle.std.proofs.Common.{◌≡◌, ℕ, zero, suc, ◌+◌, ◌<◌, ◌≤◌, ◌⊎◌, inl, inr, Bool, true, false, List, [], ◌∷◌, ◌++◌, length, get_or, set, take, drop, replicate, Option, Some, refl, ap, sym, ◌∙◌, subst, arith, ◌||◌, ◌↔◌}
use Rattle.std.specs.List.{All, Contains, list_any, IsDistinct, AllByRecursion as ByRecursion}
use lib.Dec.{eqb}
use Rattle.std.proofs.lemmas.Bool.{cases_eq, cases_Bool, eqb-true}
use Rattle.std.proofs.lemmas.List.{get_or_default, get_or_append_left, length_push, get_or_push, length-set, length-take-le, get_or-take, take-append-le, take_at, length-replicate, drop_more, get_or_read}
use Rattle.std.proofs.lemmas.List.Elements.{All-contains, All-weaker}
use Rattle.std.proofs.lemmas.Map.Steps.{length-le_from_distinct_below}
use Rattle.just_lang_spots.specs.Graph.{targets, Reaches, edge, along, IsOrder, LeadsToCycle, IsFirst}
use Rattle.just_lang_spots.specs.Met.{is_marked, NoneFree, ArePeeled, IsFree, steps_left}
use Rattle.just_lang_spots.proofs.Marks.{mark_one}
use Rattle.just_lang_spots.proofs.Search.{reaches_on, nothing_marked}

-- a front of a longer list
take_front : (xs ys : List ℕ) (k : ℕ) → k ≤ length xs → take k (xs ++ ys) ≡ take k xs
take_front xs ys k h = take-append-le k xs ys h

take_whole : (order : List ℕ) (v k : ℕ) → k ≡ length order → take k (order ++ v ∷ []) ≡ order
take_whole order v k e = take_at order (v ∷ []) k (sym e)

order_one : (edges : List (List ℕ)) (order : List ℕ) (v : ℕ) → IsOrder edges order → All (Contains order) (targets edges v) → IsOrder edges (order ++ v ∷ [])
order_one edges order v old all k h =
    let size : length (order ++ v ∷ []) ≡ length order + 1 = length_push order v in
    elim (cases_eq k (length order)) [
      | inl e ↦ subst (λ x. All (Contains (take k (order ++ v ∷ []))) (targets edges x)) (sym (get_or_push order v 0 k (sym e))) (subst (λ l. All (Contains l) (targets edges v)) (sym (take_whole order v k e)) all)
      | inr ne ↦ let less : k < length order = omega arith in subst (λ x. All (Contains (take k (order ++ v ∷ []))) (targets edges x)) (sym (get_or_append_left order (v ∷ []) 0 k less)) (subst (λ l. All (Contains l) (targets edges (get_or order k 0))) (sym (take_front order (v ∷ []) k (omega arith))) (old k less))
    ]

-- a node whose targets were taken out is taken out
pub peel_one : (edges : List (List ℕ)) (marks : List Bool) (order : List ℕ) (v : ℕ) → IsFree edges marks v → ArePeeled edges marks order → ArePeeled edges (set marks v true) (order ++ v ∷ [])
peel_one edges marks order v free old = record {
  marked = mark_one (λ w. w < length edges) marks order v (subst (λ n. v < n) (sym old.size) free.within) free.left free.within old.marked;
  size = length-set marks v true ∙ old.size;
  behind = order_one edges order v old.behind (All-weaker (λ w. is_marked marks w ≡ true) (Contains order) (λ w m. old.marked.listed w m) (targets edges v) free.targets_marked);
}

-- nothing is taken out at first
pub peel_starts : (edges : List (List ℕ)) → ArePeeled edges (replicate (length edges) false) []
peel_starts edges = record {
  marked = nothing_marked (λ v. v < length edges) (length edges);
  size = length-replicate (length edges) false;
  behind = λ k h. absurd (omega (arith, h));
}

-- there are at most as many in the order as nodes, and fewer where one is left
pub order_short : (edges : List (List ℕ)) (marks : List Bool) (order : List ℕ) → ArePeeled edges marks order → length order ≤ length edges
order_short edges marks order p = let c = p.marked.counted in let e = p.size in omega arith

before_at : (edges : List (List ℕ)) (order : List ℕ) → IsOrder edges order → (v w k : ℕ) → k < length order → get_or order k 0 ≡ v → Contains (targets edges v) w → (j : ℕ) × (j < k) × (get_or order j 0 ≡ w)
before_at edges order behind v w k h e i =
    let all : All (Contains (take k order)) (targets edges v) = subst (λ x. All (Contains (take k order)) (targets edges x)) e (behind k h) in
    let c = All-contains (Contains (take k order)) (targets edges v) w all i in
    let size : length (take k order) ≡ k = length-take-le k order (omega arith) in
    let less : c.0 < k = omega (arith, c.1) in
    (c.0, less, get_or_default order c.0 0 w (omega (arith, less)) ∙ sym (get_or-take k order c.0 w less) ∙ c.2)

-- what a node of an order reaches stands in front of it
pub reached_before : (edges : List (List ℕ)) (order : List ℕ) → IsOrder edges order → (v w k : ℕ) → k < length order → get_or order k 0 ≡ v → Reaches edges v w → (j : ℕ) × (j < k) × (get_or order j 0 ≡ w)
reached_before edges order behind v w k h e (edge a b i) =
    before_at edges order behind v w k h e i
reached_before edges order behind v x k h e (along a w c i more) =
    let at = before_at edges order behind v w k h e i in
    let rest = reached_before edges order behind w x at.0 (omega (arith, at.1)) at.2 more in
    (rest.0, omega (arith, rest.1, at.1), rest.2)

-- so it is on no cycle
pub order_acyclic : (edges : List (List ℕ)) (order : List ℕ) → IsOrder edges order → (n k v : ℕ) → k < n → k < length order → get_or order k 0 ≡ v → Reaches edges v v → ⊥
order_acyclic edges order behind zero k v less h e r = omega (arith, less)
order_acyclic edges order behind (suc n) k v less h e r =
    let at = reached_before edges order behind v v k h e r in
    order_acyclic edges order behind n at.0 v (omega (arith, at.1)) (omega (arith, at.1)) at.2 r

-- a node that is listed leads to no cycle
pub listed_leads : (edges : List (List ℕ)) (order : List ℕ) (v : ℕ) → IsOrder edges order → Contains order v → LeadsToCycle edges v → ⊥
listed_leads edges order v behind c leads =
    let here : get_or order c.0 0 ≡ v = get_or_default order c.0 0 v c.1 ∙ c.2 in
    elim leads.1 [
      | inl same ↦ order_acyclic edges order behind (suc c.0) c.0 v (omega arith) c.1 here (subst (λ x. Reaches edges x x) (sym same) leads.2)
      | inr reach ↦ let at = reached_before edges order behind v leads.0 c.0 c.1 here reach in
          order_acyclic edges order behind (suc at.0) at.0 leads.0 (omega arith) (omega (arith, at.1, c.1)) at.2 leads.2
    ]

-- a number that is in no place of a list differs from each of its numbers
apart : (v : ℕ) (xs : List ℕ) → list_any (eqb v) xs ≡ false → ByRecursion (λ y. eqb v y ≡ false) xs
apart v [] e = tt
apart v (x ∷ xs) e =
    elim (eqb v x) as (λ b. eqb v x ≡ b → (b || list_any (eqb v) xs) ≡ false → ByRecursion (λ y. eqb v y ≡ false) (x ∷ xs)) [
      | true ↦ λ t f. absurd (cc)
      | false ↦ λ t f. (t, apart v xs f)
    ] refl e

pub distinct_one : (v : ℕ) (xs : List ℕ) → list_any (eqb v) xs ≡ false → IsDistinct eqb xs → IsDistinct eqb (v ∷ xs)
unfolding IsDistinct
distinct_one v xs e d = (apart v xs e, d)

pub distinct_none : IsDistinct eqb []
unfolding IsDistinct
distinct_none = tt

-- what holds of a number and of those of a list
pub any_cases : (P : ℕ → Type 0) (v : ℕ) (xs : List ℕ) → P v → ((q : ℕ) → list_any (eqb q) xs ≡ true → P q) → (q : ℕ) → list_any (eqb q) (v ∷ xs) ≡ true → P q
any_cases P v xs here rest q e =
    elim (eqb q v) as (λ b. eqb q v ≡ b → (b || list_any (eqb q) xs) ≡ true → P q) [
      | true ↦ λ t any. subst P (sym (eqb-true q v t)) here
      | false ↦ λ t any. rest q any
    ] refl e

-- a walk through nodes that are left comes to a cycle before it has gone through all nodes
walk_returns : (edges : List (List ℕ)) (marks : List Bool) → NoneFree edges marks → (fuel : ℕ) (gone : List ℕ) (v : ℕ) → v < length edges → is_marked marks v ≡ false → IsDistinct eqb gone → ((q : ℕ) → list_any (eqb q) gone ≡ true → q < length edges) → ((q : ℕ) → list_any (eqb q) gone ≡ true → Reaches edges q v) → length edges < length gone + fuel → LeadsToCycle edges v
walk_returns edges marks none zero gone v h left distinct below reach less =
    let short : length gone ≤ length edges = length-le_from_distinct_below gone (length edges) distinct below in
    absurd (omega arith)
walk_returns edges marks none (suc fuel) gone v h left distinct below reach less =
    elim (list_any (eqb v) gone) as (λ b. list_any (eqb v) gone ≡ b → LeadsToCycle edges v) [
      | true ↦ λ t. (v, inl refl, reach v t)
      | false ↦ λ f.
          let next = none v h left in
          let go : (q : ℕ) → list_any (eqb q) (v ∷ gone) ≡ true → Reaches edges q next.0 = any_cases (λ q. Reaches edges q next.0) v gone (edge v next.0 next.1) (λ q any. reaches_on edges q v next.0 (reach q any) next.1) in
          let rest = walk_returns edges marks none fuel (v ∷ gone) next.0 next.2 next.3 (distinct_one v gone f distinct) (any_cases (λ q. q < length edges) v gone h below) go (omega arith) in (
            rest.0,
            elim rest.1 as (λ s. (v ≡ rest.0) ⊎ Reaches edges v rest.0) [
              | inl same ↦ inr (subst (λ x. Reaches edges v x) same (edge v next.0 next.1))
              | inr more ↦ inr (along v next.0 rest.0 next.1 more)
            ],
            rest.2,
          )
    ] refl

-- where none can be taken out, a node that is left leads to a cycle
pub left_leads : (edges : List (List ℕ)) (marks : List Bool) → NoneFree edges marks → (v : ℕ) → v < length edges → is_marked marks v ≡ false → LeadsToCycle edges v
left_leads edges marks none v h left =
    walk_returns edges marks none (suc (length edges)) [] v h left distinct_none (λ q any. absurd (cc)) (λ q any. absurd (cc)) (omega arith)

-- one target more is looked at
pub one_step : (edges : List (List ℕ)) (seen : List ℕ) (v : ℕ) → v < length seen → v < length edges → get_or seen v 0 < length (targets edges v) → steps_left edges (set seen v (get_or seen v 0 + 1)) + 1 ≡ steps_left edges seen
one_step [] seen v h k less = absurd (omega (arith, k))
one_step (ws ∷ edges) [] v h k less = absurd (omega (arith, h))
one_step (ws ∷ edges) (n ∷ seen) zero h k less = omega arith
one_step (ws ∷ edges) (n ∷ seen) (suc v) h k less = let e = one_step edges seen v (omega (arith, h)) (omega (arith, k)) less in omega arith

-- the first of some nodes that is on a cycle is the first behind nodes that aren't
pub first_behind : (P : ℕ → Type 0) (xs : List ℕ) (i x : ℕ) (o : Option ℕ) → i < length xs → get_or xs i x ≡ x → (P x → ⊥) → IsFirst P (drop (i + 1) xs) o → IsFirst P (drop i xs) o
first_behind P xs i x o h e none first =
    subst (λ ys. IsFirst P ys o) (sym (drop_more xs i x h ∙ ap (λ y. y ∷ drop (i + 1) xs) e)) (inr (none, first))

pub first_here : (P : ℕ → Type 0) (xs : List ℕ) (i x : ℕ) → i < length xs → get_or xs i x ≡ x → P x → IsFirst P (drop i xs) (Some x)
first_here P xs i x h e here =
    subst (λ ys. IsFirst P ys (Some x)) (sym (drop_more xs i x h ∙ ap (λ y. y ∷ drop (i + 1) xs) e)) (inl (here, refl))

pub one_step_as : (edges : List (List ℕ)) (seen seen' item : List ℕ) (v at : ℕ) → length seen ≡ length edges → v < length edges → item ≡ get_or edges v item → at ≡ get_or seen v 0 → at < length item → seen' ≡ set seen v (at + 1) → steps_left edges seen' + 1 ≡ steps_left edges seen
one_step_as edges seen seen' item v at size k is_item is_at less is_next =
    let it : item ≡ targets edges v = get_or_read edges v item k is_item [] in
    let short : get_or seen v 0 < length (targets edges v) = subst (λ n. n < length (targets edges v)) is_at (subst (λ ws. at < length ws) it less) in
    let next : seen' ≡ set seen v (get_or seen v 0 + 1) = is_next ∙ ap (λ n. set seen v (n + 1)) is_at in
    subst (λ ns. steps_left edges ns + 1 ≡ steps_left edges seen) (sym next) (one_step edges seen v (omega arith) k short)

-- what is taken out is what leads to no cycle
pub which : (edges : List (List ℕ)) (marks : List Bool) (order : List ℕ) → ArePeeled edges marks order → NoneFree edges marks → (v : ℕ) → Contains order v ↔ ((v < length edges) × (LeadsToCycle edges v → ⊥))
which edges marks order p none v = (
  λ c. (All-contains (λ w. w < length edges) order v p.marked.each c, λ leads. listed_leads edges order v p.behind c leads),
  λ both.
      elim (cases_Bool (is_marked marks v)) [
        | inl m ↦ p.marked.listed v m
        | inr left ↦ absurd (both.1 (left_leads edges marks none v both.0 left))
      ],
)
