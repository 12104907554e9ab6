-- A search from a node marks the nodes that it reaches.
use Rattle.std.proofs.Common.{◌≡◌, ℕ, zero, suc, ◌+◌, ◌<◌, ◌≤◌, inl, inr, Bool, true, false, List, [], ◌∷◌, ◌++◌, length, get_or, replicate, refl, ap, sym, ◌∙◌, subst, arith, ◌↔◌}
use Rattle.std.specs.List.{All, Contains, sum_by}
use Rattle.std.proofs.lemmas.Bool.{cases_eq}
use Rattle.std.proofs.lemmas.List.{get_or_default, get_or_append_left, get_or_read, length-append, length-replicate}
use Rattle.std.proofs.lemmas.List.Sums.{sum_by-cons}
use Rattle.std.proofs.lemmas.List.Elements.{All-contains, All-weaker, Contains-get_or}
use Rattle.just_lang_spots.specs.Graph.{targets, IsGraph, Reaches, edge, along}
use Rattle.just_lang_spots.specs.Met.{is_marked, met_after, list_after, unmarked, AreMarked}
use Rattle.just_lang_spots.proofs.Marks.{mark_all, length_met, met_kept, met_all, list_goes_on}

-- all that some nodes in front of a place lead to is marked
pub record IsSearch (edges : List (List ℕ)) (start : ℕ) (marks : List Bool) (list : List ℕ) (at : ℕ) : Type 0 where
  pub marked : AreMarked (Reaches edges start) marks list
  pub size : length marks ≡ length edges
  pub within : at ≤ length list
  pub first : All (λ w. is_marked marks w ≡ true) (targets edges start)
  pub closed : (k : ℕ) → k < at → All (λ w. is_marked marks w ≡ true) (targets edges (get_or list k 0))

-- the targets of a node are nodes
pub targets_within : (edges : List (List ℕ)) (v : ℕ) → IsGraph edges → v < length edges → All (λ w. w < length edges) (targets edges v)
targets_within edges v graph h = graph v [] h

-- no node is marked at first
none_counted : (n : ℕ) → sum_by unmarked (replicate n false) ≡ n
none_counted zero = refl
none_counted (suc n) = let e : sum_by unmarked (false ∷ replicate n false) ≡ 1 + sum_by unmarked (replicate n false) = sum_by-cons unmarked false (replicate n false) in let h = none_counted n in omega arith

none_marked : (n v : ℕ) → is_marked (replicate n false) v ≡ true → ⊥
none_marked zero v e = cc
none_marked (suc n) zero e = cc
none_marked (suc n) (suc v) e = none_marked n v e

pub nothing_marked : (P : ℕ → Type 0) (n : ℕ) → AreMarked P (replicate n false) []
nothing_marked P n = record {
  within = λ k d lt. absurd (omega (arith, lt));
  listed = λ v m. absurd (none_marked n v m);
  marked = λ k d lt. absurd (omega (arith, lt));
  each = λ k d lt. absurd (omega (arith, lt));
  once = λ i j d less lt. absurd (omega (arith, lt));
  counted = let e = none_counted n in let size : length (replicate n false) ≡ n = length-replicate n false in omega arith;
}

-- a path that goes on by an edge
pub reaches_on : (edges : List (List ℕ)) (v w x : ℕ) → Reaches edges v w → Contains (targets edges w) x → Reaches edges v x
reaches_on edges v w x (edge a b i) to = along v w x i (edge w x to)
reaches_on edges v w x (along a b c i more) to = along v b x i (reaches_on edges b w x more to)

-- where all that marked nodes lead to is marked, a path from a node whose targets are marked ends at a marked one
pub reached_marked : (edges : List (List ℕ)) (marks : List Bool) → ((v : ℕ) → is_marked marks v ≡ true → All (λ w. is_marked marks w ≡ true) (targets edges v)) → (v x : ℕ) → All (λ w. is_marked marks w ≡ true) (targets edges v) → Reaches edges v x → is_marked marks x ≡ true
reached_marked edges marks closed v x all (edge a b i) = All-contains (λ w. is_marked marks w ≡ true) (targets edges v) x all i
reached_marked edges marks closed v x all (along a b c i more) =
    reached_marked edges marks closed b x (closed b (All-contains (λ w. is_marked marks w ≡ true) (targets edges v) b all i)) more

-- the node at a place of the list is reached, and within the graph
listed_at : (edges : List (List ℕ)) (start : ℕ) (marks : List Bool) (list : List ℕ) (at : ℕ) → IsSearch edges start marks list at → at < length list → Reaches edges start (get_or list at 0)
listed_at edges start marks list at s h = s.marked.each at 0 h

pub listed_within : (edges : List (List ℕ)) (start : ℕ) (marks : List Bool) (list : List ℕ) (at : ℕ) → IsSearch edges start marks list at → at < length list → get_or list at 0 < length edges
listed_within edges start marks list at s h = subst (λ n. get_or list at 0 < n) s.size (s.marked.within at 0 h)

-- there are at most as many listed as nodes
pub list_short : (edges : List (List ℕ)) (start : ℕ) (marks : List Bool) (list : List ℕ) (at : ℕ) → IsSearch edges start marks list at → length list ≤ length edges
list_short edges start marks list at s = let c = s.marked.counted in let e = s.size in omega arith

-- what holds of all that a list contains holds of each
pub All-from_contains : (P : ℕ → Type 0) (xs : List ℕ) → ((x : ℕ) → Contains xs x → P x) → All P xs
All-from_contains P xs h = λ k d lt. h (get_or xs k d) (Contains-get_or xs k d lt)

-- the targets of a node are reached from it
pub targets_reached : (edges : List (List ℕ)) (v : ℕ) → All (Reaches edges v) (targets edges v)
targets_reached edges v = All-from_contains (Reaches edges v) (targets edges v) (λ w i. edge v w i)

longer : (list more : List ℕ) (at : ℕ) → at < length list → at + 1 ≤ length (list ++ more)
longer list more at h = rw (length-append list more) (omega arith)

same_front : (list more all : List ℕ) (k : ℕ) → all ≡ list ++ more → k < length list → get_or all k 0 ≡ get_or list k 0
same_front list more all k e h = ap (λ l. get_or l k 0) e ∙ get_or_append_left list more 0 k h

-- the search begins with the targets of its start
pub search_starts : (edges : List (List ℕ)) (start : ℕ) → IsGraph edges → start < length edges → IsSearch edges start (met_after (replicate (length edges) false) (targets edges start)) (list_after (replicate (length edges) false) [] (targets edges start)) 0
search_starts edges start graph h =
    let n = length edges in
    let size : length (replicate n false) ≡ n = length-replicate n false in
    let within : All (λ w. w < length (replicate n false)) (targets edges start) = subst (λ m. All (λ w. w < m) (targets edges start)) (sym size) (targets_within edges start graph h) in
    record {
      marked = mark_all (Reaches edges start) (targets edges start) (replicate n false) [] within (targets_reached edges start) (nothing_marked (Reaches edges start) n);
      size = length_met (targets edges start) (replicate n false) ∙ size;
      within = omega arith;
      first = met_all (targets edges start) (replicate n false) within;
      closed = λ k lt. absurd (omega (arith, lt));
    }

-- the search goes on with the targets of the next node
pub search_goes_on : (edges : List (List ℕ)) (start : ℕ) (marks : List Bool) (list : List ℕ) (at : ℕ) → IsGraph edges → IsSearch edges start marks list at → at < length list → IsSearch edges start (met_after marks (targets edges (get_or list at 0))) (list_after marks list (targets edges (get_or list at 0))) (at + 1)
search_goes_on edges start marks list at graph s h =
    let node = get_or list at 0 in
    let ws = targets edges node in
    let below : All (λ w. w < length edges) ws = targets_within edges node graph (listed_within edges start marks list at s h) in
    let within : All (λ w. w < length marks) ws = subst (λ m. All (λ w. w < m) ws) (sym s.size) below in
    let reach : All (Reaches edges start) ws = All-from_contains (Reaches edges start) ws (λ w i. reaches_on edges start node w (listed_at edges start marks list at s h) i) in
    let more = list_goes_on ws marks list in
    let kept : (v : ℕ) → All (λ w. is_marked marks w ≡ true) (targets edges v) → All (λ w. is_marked (met_after marks ws) w ≡ true) (targets edges v) = λ v all. All-weaker (λ w. is_marked marks w ≡ true) (λ w. is_marked (met_after marks ws) w ≡ true) (λ w m. met_kept ws marks w within m) (targets edges v) all in
    record {
      marked = mark_all (Reaches edges start) ws marks list within reach s.marked;
      size = length_met ws marks ∙ s.size;
      within = subst (λ l. at + 1 ≤ length l) (sym more.1) (longer list more.0 at h);
      first = kept start s.first;
      closed = λ k lt. elim (cases_eq k at) [
        | inl e ↦ subst (λ x. All (λ w. is_marked (met_after marks ws) w ≡ true) (targets edges x)) (sym (same_front list more.0 (list_after marks list ws) at more.1 h) ∙ ap (λ j. get_or (list_after marks list ws) j 0) (sym e)) (met_all ws marks within)
        | inr ne ↦ let less : k < at = omega arith in let short : k < length list = omega arith in subst (λ x. All (λ w. is_marked (met_after marks ws) w ≡ true) (targets edges x)) (sym (same_front list more.0 (list_after marks list ws) k more.1 short)) (kept (get_or list k 0) (s.closed k less))
      ];
    }

-- where it ends, the marked nodes are those reached
pub search_ends : (edges : List (List ℕ)) (start : ℕ) (marks : List Bool) (list : List ℕ) (at : ℕ) → IsSearch edges start marks list at → length list ≤ at → (v : ℕ) → (is_marked marks v ≡ true) ↔ Reaches edges start v
search_ends edges start marks list at s end v =
    let sound : is_marked marks v ≡ true → Reaches edges start v = λ m. All-contains (Reaches edges start) list v s.marked.each (s.marked.listed v m) in
    let closed : (w : ℕ) → is_marked marks w ≡ true → All (λ x. is_marked marks x ≡ true) (targets edges w) = λ w m. let c = s.marked.listed w m in let less : c.0 < at = omega (arith, c.1) in subst (λ x. All (λ y. is_marked marks y ≡ true) (targets edges x)) (get_or_default list c.0 0 w c.1 ∙ c.2) (s.closed c.0 less) in
    (sound, λ r. reached_marked edges marks closed start v s.first r)

-- the same, over what the code has
pub search_starts_as : (edges : List (List ℕ)) (start : ℕ) (item vs : List ℕ) (given marks : List Bool) (empty list : List ℕ) → IsGraph edges → start < length edges → item ≡ get_or edges start item → vs ≡ item → given ≡ replicate (length edges) false → empty ≡ [] → marks ≡ met_after given vs → list ≡ list_after given empty vs → IsSearch edges start marks list 0
search_starts_as edges start item vs given marks empty list graph h at same all none met listed =
    let it : vs ≡ targets edges start = same ∙ get_or_read edges start item h at [] in
    let m : marks ≡ met_after (replicate (length edges) false) (targets edges start) = cc in
    let l : list ≡ list_after (replicate (length edges) false) [] (targets edges start) = cc in
    subst (λ ms. IsSearch edges start ms list 0) (sym m) (subst (λ ls. IsSearch edges start (met_after (replicate (length edges) false) (targets edges start)) ls 0) (sym l) (search_starts edges start graph h))

pub search_goes_on_as : (edges : List (List ℕ)) (start : ℕ) (marks : List Bool) (list : List ℕ) (at node : ℕ) (item vs : List ℕ) (marks' : List Bool) (list' : List ℕ) → IsGraph edges → IsSearch edges start marks list at → at < length list → node ≡ get_or list at 0 → item ≡ get_or edges node item → vs ≡ item → marks' ≡ met_after marks vs → list' ≡ list_after marks list vs → IsSearch edges start marks' list' (at + 1)
search_goes_on_as edges start marks list at node item vs marks' list' graph s h is_node at_node same met listed =
    let within : node < length edges = subst (λ n. n < length edges) (sym is_node) (listed_within edges start marks list at s h) in
    let it : vs ≡ targets edges (get_or list at 0) = same ∙ get_or_read edges node item within at_node [] ∙ ap (λ n. targets edges n) is_node in
    let m : marks' ≡ met_after marks (targets edges (get_or list at 0)) = cc in
    let l : list' ≡ list_after marks list (targets edges (get_or list at 0)) = cc in
    subst (λ ms. IsSearch edges start ms list' (at + 1)) (sym m) (subst (λ ls. IsSearch edges start (met_after marks (targets edges (get_or list at 0))) ls (at + 1)) (sym l) (search_goes_on edges start marks list at graph s h))
