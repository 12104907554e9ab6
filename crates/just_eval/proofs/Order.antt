-- The assignments as a graph: each leads to those that it uses.
use Rattle.std.proofs.Common.{◌≡◌, ℕ, suc, ◌+◌, ◌<◌, ◌≤◌, Bool, true, false, bytes_eq, List, [], ◌∷◌, length, take, map, Some, sym, ap, ◌∙◌, subst, arith}
use Rattle.std.specs.Prelude.{if◌then◌else◌, ◌↔◌}
use Rattle.std.specs.BTreeMap.{BTreeMap, get}
use Rattle.std.specs.List.{All, Contains, filter_map}
use Rattle.std.proofs.lemmas.List.{take_all}
use Rattle.just_lang_types.specs.declared.scope.Assignment.{Assignment}
use Rattle.just_eval_closure.specs.Numbers.{text_cmp}
use Rattle.just_eval_closure.proofs.Items.{in_map, in_all, in_contains}
use Rattle.just_lang_spots.specs.Graph.{IsGraph, IsAcyclic, LeadsToCycle}
use Rattle.just_eval.specs.Numbers.{AreNumbers}
use Rattle.just_eval.specs.Uses.{names_in, named_from, named, uses}
use Rattle.just_eval.proofs.Lists.{same_kept, same_mapped, passed, length_mapped}

-- the numbers that a map finds are those of the assignments
pub same_uses : (all : List Assignment) (numbers : BTreeMap (List ℕ) ℕ) (edges : List (List ℕ)) → AreNumbers all numbers → edges ≡ map (λ a. filter_map (λ n. get text_cmp numbers n) (names_in a.value)) all → edges ≡ uses all
same_uses all numbers edges are is =
    is ∙ same_mapped (λ a. filter_map (λ n. get text_cmp numbers n) (names_in a.value)) (λ a. filter_map (named all) (names_in a.value)) all (λ a. same_kept (λ n. get text_cmp numbers n) (named all) (names_in a.value) are)

pub edges_end : (all : List Assignment) (numbers : BTreeMap (List ℕ) ℕ) (n : ℕ) (edges : List (List ℕ)) → AreNumbers all numbers → length all ≤ n → edges ≡ map (λ a. filter_map (λ k. get text_cmp numbers k) (names_in a.value)) (take n all) → edges ≡ uses all
edges_end all numbers n edges are le is = same_uses all numbers edges are (is ∙ ap (λ xs. map (λ a. filter_map (λ k. get text_cmp numbers k) (names_in a.value)) xs) (take_all n all le))

-- a number is that of an assignment
named_below : (n : ℕ) (all : List Assignment) (name : List ℕ) (k : ℕ) → named_from n all name ≡ Some k → k < n + length all
named_below n [] name k h = absurd (let no : ⊥ = cc in no)
named_below n (a ∷ more) name k h = pick (bytes_eq a.name name) h (λ e. named_below (suc n) more name k e)
  where
    pick : (b : Bool) → (if b then Some n else named_from (suc n) more name) ≡ Some k → (named_from (suc n) more name ≡ Some k → k < suc n + length more) → k < n + length (a ∷ more)
    pick true e rest = let same : n ≡ k = cc in omega (arith, same)
    pick false e rest = omega (arith, rest e)

pub uses_size : (all : List Assignment) → length (uses all) ≡ length all
uses_size all = length_mapped (λ a. filter_map (named all) (names_in a.value)) all

pub are_graph : (all : List Assignment) → IsGraph (uses all)
are_graph all =
    in_all (λ ws. All (λ w. w < length (uses all)) ws) (uses all) (λ ws i.
    let a = in_map (λ b. filter_map (named all) (names_in b.value)) all ws i in
    subst (λ us. All (λ w. w < length (uses all)) us) a.2 (in_all (λ w. w < length (uses all)) (filter_map (named all) (names_in a.0.value)) (λ w j.
    let x = passed (named all) (names_in a.0.value) w j in
    let low : w < 0 + length all = named_below 0 all x.0 w x.1 in
    omega (arith, low, uses_size all))))

pub graph_of : (all : List Assignment) (edges : List (List ℕ)) → edges ≡ uses all → IsGraph edges
graph_of all edges is = subst (λ es. IsGraph es) (sym is) (are_graph all)

-- an order of the nodes that lead to no cycle has the numbers of the assignments, and no others
pub within_order : (all : List Assignment) (order : List ℕ) → ((v : ℕ) → Contains order v ↔ ((v < length (uses all)) × (LeadsToCycle (uses all) v → ⊥))) → All (λ n. n < length all) order
within_order all order which = in_all (λ n. n < length all) order (λ n i. subst (λ k. n < k) (uses_size all) ((which n).0 (in_contains order n i)).0)

pub whole_order : (all : List Assignment) (order : List ℕ) → IsAcyclic (uses all) → ((v : ℕ) → Contains order v ↔ ((v < length (uses all)) × (LeadsToCycle (uses all) v → ⊥))) → (n : ℕ) → n < length all → Contains order n
whole_order all order acyclic which n lt = (which n).1 (subst (λ k. n < k) (sym (uses_size all)) lt, λ leads. acyclic leads.0 leads.2)
