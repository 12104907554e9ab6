-- What is kept as one node more is finished, and the lists are gone along in which it stands.
use Rattle.std.proofs.Common.{◌≡◌, ℕ, ◌<◌, ◌⊎◌, inl, inr, ⊎_elim, Bool, true, false, List, length, set, refl, subst}
use Rattle.std.specs.Prelude.{slice_index, Contains}
use Rattle.just_sched_history.specs.declared.plan_node.PlanNode.{PlanNode}
use Rattle.just_sched_history.specs.Nodes.{priors_at, parallel_at}
use Rattle.just_sched_history.specs.State.{IsFinished, invoked}
use Rattle.just_sched_history.specs.Tables.{flag}
use Rattle.just_sched_history.specs.Led.{IsRaised, MayFollow, IsLed, ArePriorsLed, KeepsWanted}
use Rattle.just_sched_history.proofs.Closing.{among_or, led_finished, led_either}
use Rattle.just_sched_history.proofs.Led.{led_on}
use Rattle.just_sched_history.proofs.Placing.{of_contained}
use Rattle.just_sched_history.proofs.PlanLaws.{contains_at}
use Rattle.just_sched_history.proofs.WantedLaws.{leads_weaker}

-- the priors of each wanted and confirmed node are led or pending, where those are that have the node as a prior
pub priors_finished : (nodes : List PlanNode) (f confirmed w v : List Bool) (before after : List ℕ) → IsRaised w v before after → (at : ℕ) (dependents : List ℕ)
    → ((m : ℕ) → Contains (priors_at nodes m) at → Contains dependents m)
    → ((j : ℕ) → j < length dependents → flag v (slice_index dependents j) ≡ true → flag confirmed (slice_index dependents j) ≡ true → Contains after (slice_index dependents j) ⊎ IsLed (set f at true) v false (priors_at nodes (slice_index dependents j)))
    → ArePriorsLed (parallel_at nodes) (priors_at nodes) f confirmed w before
    → ArePriorsLed (parallel_at nodes) (priors_at nodes) (set f at true) confirmed v after
priors_finished nodes f confirmed w v before after raised at dependents whole spread old m up sure =
    ⊎_elim
    (λ (was : flag w m ≡ true).
    ⊎_elim (λ (listed : Contains before m). inl (raised.listed m listed))
    (λ (led : IsLed f w (parallel_at nodes m) (priors_at nodes m)).
    ⊎_elim
    (λ (here : (j : ℕ) × (j < length (priors_at nodes m)) × (slice_index (priors_at nodes m) j ≡ at)).
    ⊎_elim (λ (listed : Contains after m). inl listed)
    (λ (turn : IsLed (set f at true) v false (priors_at nodes m)).
    inr (led_either (set f at true) v (parallel_at nodes m) (priors_at nodes m)
    (λ all. led_on (set f at true) w v true (priors_at nodes m) raised.keeps (led_finished f w at true (priors_at nodes m) (inl refl) (subst (λ b. IsLed f w b (priors_at nodes m)) all led)))
    turn))
    (of_contained (λ i. flag v i ≡ true → flag confirmed i ≡ true → Contains after i ⊎ IsLed (set f at true) v false (priors_at nodes i)) dependents spread m
    (whole m (subst (λ i. Contains (priors_at nodes m) i) here.2 (contains_at (priors_at nodes m) here.0 here.1))) up sure))
    (λ (never : (j : ℕ) → j < length (priors_at nodes m) → slice_index (priors_at nodes m) j ≡ at → ⊥).
    inr (led_on (set f at true) w v (parallel_at nodes m) (priors_at nodes m) raised.keeps (led_finished f w at (parallel_at nodes m) (priors_at nodes m) (inr never) led)))
    (among_or (priors_at nodes m) at (length (priors_at nodes m))))
    (old m was sure))
    (λ (listed : Contains after m). inl listed)
    (raised.noted m up)

-- the invocations that may come next are wanted
pub wanted_invoked : (nodes : List PlanNode) (invocations : List ℕ) (f confirmed w v : List Bool) → ((k : ℕ) → flag v k ≡ true → (flag w k ≡ true) ⊎ MayFollow f false invocations k) → KeepsWanted nodes invocations f confirmed w v
wanted_invoked nodes invocations f confirmed w v only h done said are k up =
    ⊎_elim (λ (was : flag w k ≡ true). are k was)
    (λ (next : MayFollow f false invocations k). invoked k (leads_weaker (λ q. flag f q ≡ true) (IsFinished nodes h) false invocations k (λ j lt raised. done (slice_index invocations j) raised) next))
    (only k up)
