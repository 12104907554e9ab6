-- The nodes so far are listed at each of their priors, and those of the node's own so far; only nodes are listed.
use Rattle.std.proofs.Common.{◌≡◌, ℕ, ◌<◌, [], length}
use Rattle.std.specs.Prelude.{map, slice_index, slice_index_or, Contains, vec_len}
use Rattle.just_sched_history.specs.Nodes.{priors_at}
use Rattle.just_sched_history.proofs.making.dependents_of.Given as goal

abbrev pub invariant-loop-at : goal.invariant-loop-at
invariant-loop-at l = record {
  len : vec_len l.lists ≡ length l.plan.nodes;
  whole : (m q : ℕ) → m < l.at → Contains (priors_at l.plan.nodes m) q → Contains (slice_index_or (map (λ x. x.items) l.lists.items) q []) m;
  inside : (m q : ℕ) → Contains (slice_index_or (map (λ x. x.items) l.lists.items) q []) m → m < length l.plan.nodes;
}

abbrev pub invariant-loop-prior : goal.invariant-loop-prior
invariant-loop-prior l = record {
  len : vec_len l.lists ≡ length l.plan.nodes;
  whole : (m q : ℕ) → m < l.at → Contains (priors_at l.plan.nodes m) q → Contains (slice_index_or (map (λ x. x.items) l.lists.items) q []) m;
  here : (j : ℕ) → j < l.prior-index → Contains (slice_index_or (map (λ x. x.items) l.lists.items) (slice_index (priors_at l.plan.nodes l.at) j) []) l.at;
  inside : (m q : ℕ) → Contains (slice_index_or (map (λ x. x.items) l.lists.items) q []) m → m < length l.plan.nodes;
}
