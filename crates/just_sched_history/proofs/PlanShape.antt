-- The priors, subsequents and invocations of a well formed plan.
use Rattle.std.proofs.Common.{◌≡◌, ℕ, ◌<◌, List, length, map, slice_get, slice_index, Option, Some, None, option_map, refl, ap, sym, ◌∙◌, arith}
use Rattle.std.proofs.lemmas.Option.{slice_get_within, slice_get-map}
use Rattle.just_eval_closure.specs.WellFormed.{IsWellFormed, round_at}
use Rattle.just_sched_history.specs.declared.plan_node.PlanNode.{PlanNode}
use Rattle.just_sched_history.specs.Nodes.{priors_in, priors_at, subsequents_in, subsequents_at}
use Rattle.just_sched_history.specs.Legal.{Run}

-- the nodes and invocations of a run are well formed
abbrev pub IsFormed : Run → Type 0
IsFormed s = IsWellFormed (map (λ x. x.node) s.nodes) s.invocations

-- the round of a node, None past the last one
abbrev pub round_in : Option PlanNode → Option ℕ
round_in (Some x) = x.node.round
round_in None = None

-- the round of a node
abbrev pub round_of : Run → ℕ → Option ℕ
round_of s n = round_in (slice_get s.nodes n)

-- q is a prior of m, a subsequent of m, or an invocation, as a well formed plan has them
pub record IsPrior (s : Run) (m q : ℕ) : Type 0 where
  pub below : q < m
  pub there : q < length s.nodes
  pub round : round_of s q ≡ round_of s m

-- q is a subsequent of m
pub record IsSubsequent (s : Run) (m q : ℕ) : Type 0 where
  pub above : m < q
  pub there : q < length s.nodes
  pub round : round_of s q ≡ Some m

-- q is an invocation
pub record IsInvocation (s : Run) (q : ℕ) : Type 0 where
  pub there : q < length s.nodes
  pub round : round_of s q ≡ None

-- a node that is there has its shape
pub node_at : (nodes : List PlanNode) (n : ℕ) (x : PlanNode) → slice_get nodes n ≡ Some x → slice_get (map (λ y. y.node) nodes) n ≡ Some x.node
node_at nodes n x e = slice_get-map (λ y. y.node) nodes n ∙ ap (option_map (λ y. y.node)) e

-- a round that is told is that of a node, by the node that may be there
round_there_at : (s : Run) (m : ℕ) (r : Option ℕ) (o : Option PlanNode) → slice_get s.nodes m ≡ o → option_map (λ x. x.round) (option_map (λ y. y.node) o) ≡ Some r → (m < length s.nodes) × (round_of s m ≡ r)
round_there_at s m r None q e = absurd (cc)
round_there_at s m r (Some x) q e = let same : x.node.round ≡ r = cc in (slice_get_within s.nodes m x q, ap round_in q ∙ same)

-- a round that is told is that of a node
round_there : (s : Run) (m : ℕ) (r : Option ℕ) → round_at (map (λ x. x.node) s.nodes) m ≡ Some r → (m < length s.nodes) × (round_of s m ≡ r)
round_there s m r e =
    round_there_at s m r (slice_get s.nodes m) refl (ap (λ o. option_map (λ x. x.round) o) (sym (slice_get-map (λ y. y.node) s.nodes m)) ∙ e)

-- a prior is as a well formed plan has it, by the node that may be there
prior_is_at : (s : Run) → IsFormed s → (m k : ℕ) (o : Option PlanNode) → slice_get s.nodes m ≡ o → k < length (priors_in o) → IsPrior s m (slice_index (priors_in o) k)
prior_is_at s f m k None q lt = absurd (omega (arith, lt))
prior_is_at s f m k (Some x) q lt =
    let p = f.priors_are m x.node (node_at s.nodes m x q) k 0 lt in
    let r = round_there s (slice_index x.node.priors k) x.node.round p.1 in
    record { below = p.0; there = r.0; round = r.1 ∙ sym (ap round_in q) }

-- a prior stands before its node, in its round
pub prior_is : (s : Run) → IsFormed s → (m k : ℕ) → k < length (priors_at s.nodes m) → IsPrior s m (slice_index (priors_at s.nodes m) k)
prior_is s f m k lt = prior_is_at s f m k (slice_get s.nodes m) refl lt

-- a subsequent is as a well formed plan has it, by the node that may be there
subsequent_is_at : (s : Run) → IsFormed s → (m k : ℕ) (o : Option PlanNode) → slice_get s.nodes m ≡ o → k < length (subsequents_in o) → IsSubsequent s m (slice_index (subsequents_in o) k)
subsequent_is_at s f m k None q lt = absurd (omega (arith, lt))
subsequent_is_at s f m k (Some x) q lt =
    let p = f.subsequents_are m x.node (node_at s.nodes m x q) k 0 lt in
    let r = round_there s (slice_index x.node.subsequents k) (Some m) p.1 in
    record { above = p.0; there = r.0; round = r.1 }

-- a subsequent stands behind its node, in its own round
pub subsequent_is : (s : Run) → IsFormed s → (m k : ℕ) → k < length (subsequents_at s.nodes m) → IsSubsequent s m (slice_index (subsequents_at s.nodes m) k)
subsequent_is s f m k lt = subsequent_is_at s f m k (slice_get s.nodes m) refl lt

-- an invocation is a node of the first round
pub invocation_is : (s : Run) → IsFormed s → (k : ℕ) → k < length s.invocations → IsInvocation s (slice_index s.invocations k)
invocation_is s f k lt =
    let r = round_there s (slice_index s.invocations k) None (f.invocations_are k 0 lt) in
    record { there = r.0; round = r.1 }
