-- What is kept as the priors of one node are led.
use Rattle.std.proofs.Common.{◌≡◌, ℕ, ◌+◌, ◌<◌, ◌⊎◌, inl, inr, ⊎_elim, Bool, true, false, List, [], ◌∷◌, ◌++◌, length, set, get_or-set_same, get_or-set_other, sym, subst, arith}
use Rattle.std.specs.Prelude.{slice_index, Contains}
use Rattle.just_sched_history.specs.declared.plan_node.PlanNode.{PlanNode}
use Rattle.just_sched_history.specs.Nodes.{priors_at, parallel_at}
use Rattle.just_sched_history.specs.State.{IsFinished, prior}
use Rattle.just_sched_history.specs.Tables.{flag}
use Rattle.just_sched_history.specs.Led.{IsRaised, IsBefore, MayFollow, IsLed, ArePriorsLed, AreUp, AreBefore, place_of, KeepsWanted}
use Rattle.just_sched_history.proofs.WantedLaws.{leads_weaker}
use Rattle.just_sched_history.proofs.Led.{same_or, before_on, led_on, contained_more}

-- who may come next in turn may do so where they go together
pub follow_any : (finished : List Bool) (together : Bool) (xs : List ℕ) (k : ℕ) → MayFollow finished false xs k → MayFollow finished together xs k
follow_any finished together xs k next =
    (next.0, next.1, next.2, ⊎_elim (λ (no_way : false ≡ true). absurd (cc no_way)) (λ (each : (j : ℕ) → j < next.0 → flag finished (slice_index xs j) ≡ true). inr each) next.3)

-- the same where they go together if they may
follow_more : (finished : List Bool) (a b : Bool) (xs : List ℕ) (k : ℕ) → (a ≡ true → b ≡ true) → MayFollow finished a xs k → MayFollow finished b xs k
follow_more finished a b xs k any next =
    (next.0, next.1, next.2, ⊎_elim (λ (all : a ≡ true). inl (any all)) (λ (each : (j : ℕ) → j < next.0 → flag finished (slice_index xs j) ≡ true). inr each) next.3)

-- the places of a list of places with one that is set
pub place_set : (P : ℕ → ℕ → Type 0) (places : List ℕ) (at c : ℕ) → at < length places → ((m : ℕ) → P m (place_of places m)) → P at c → (m : ℕ) → P m (place_of (set places at c) m)
place_set P places at c lt each here m =
    ⊎_elim (λ (same : m ≡ at). rw same (rw get_or-set_same here))
    (λ (other : m ≡ at → ⊥). rw get_or-set_other (each m))
    (same_or m at)

module _ (nodes : List PlanNode) (invocations : List ℕ) (finished confirmed old new : List Bool) (before after : List ℕ) (m : ℕ) (together : Bool)
    (any : together ≡ true → parallel_at nodes m ≡ true) (raised : IsRaised old new before after)
    (only : (k : ℕ) → flag new k ≡ true → (flag old k ≡ true) ⊎ MayFollow finished together (priors_at nodes m) k) where
  -- the places of the other nodes stay right
  pub before_kept : (places : List ℕ) (c : ℕ) → m < length places → AreBefore (priors_at nodes) finished old places → IsBefore finished new (priors_at nodes m) c → AreBefore (priors_at nodes) finished new (set places m c)
  before_kept places c lt each here =
      place_set (λ n p. IsBefore finished new (priors_at nodes n) p) places m c lt (λ n. before_on finished old new (priors_at nodes n) (place_of places n) raised.keeps (each n)) here

  -- those that are listed are flagged
  pub up_kept : AreUp old before → AreUp new after
  up_kept up k at = ⊎_elim (λ (was : Contains before k). raised.keeps k (up k was)) (λ (now : flag new k ≡ true). now) (raised.up k at)

  -- no node is said to be wanted that isn't, where that node is wanted and confirmed
  pub wanted_kept : flag old m ≡ true → flag confirmed m ≡ true → KeepsWanted nodes invocations finished confirmed old new
  wanted_kept up sure h done said are k now =
      ⊎_elim (λ (was : flag old k ≡ true). are k was)
      (λ (next : MayFollow finished together (priors_at nodes m) k).
      prior m k (are m up) (said m sure)
      (leads_weaker (λ q. flag finished q ≡ true) (IsFinished nodes h) (parallel_at nodes m) (priors_at nodes m) k (λ j lt f. done (slice_index (priors_at nodes m) j) f) (follow_more finished together (parallel_at nodes m) (priors_at nodes m) k any next)))
      (only k now)

-- of those whose priors were pending or led, one is no longer pending, whose priors are led where it is wanted and confirmed
pub led_kept : (nodes : List PlanNode) (finished confirmed old new : List Bool) (before after : List ℕ) (m : ℕ) → IsRaised old new before after → (was : List ℕ) → was ≡ before ++ m ∷ []
    → ArePriorsLed (parallel_at nodes) (priors_at nodes) finished confirmed old was
    → (flag old m ≡ true → flag confirmed m ≡ true → IsLed finished new (parallel_at nodes m) (priors_at nodes m))
    → ArePriorsLed (parallel_at nodes) (priors_at nodes) finished confirmed new after
led_kept nodes finished confirmed old new before after m raised was is each here q up sure =
    ⊎_elim
    (λ (up_before : flag old q ≡ true).
    ⊎_elim
    (λ (at : Contains was q).
    ⊎_elim (λ (rest : Contains before q). inl (raised.listed q rest))
    (λ (same : q ≡ m). inr (subst (λ i. IsLed finished new (parallel_at nodes i) (priors_at nodes i)) (sym same) (here (subst (λ i. flag old i ≡ true) same up_before) (subst (λ i. flag confirmed i ≡ true) same sure))))
    (contained_more before m q (subst (λ (xs : List ℕ). Contains xs q) is at)))
    (λ (led : IsLed finished old (parallel_at nodes q) (priors_at nodes q)). inr (led_on finished old new (parallel_at nodes q) (priors_at nodes q) raised.keeps led))
    (each q up_before sure))
    (λ (at : Contains after q). inl at)
    (raised.noted q up)

-- what keeps wanted twice keeps wanted
pub wanted_on : (nodes : List PlanNode) (invocations : List ℕ) (finished confirmed a b c : List Bool) → KeepsWanted nodes invocations finished confirmed a b → KeepsWanted nodes invocations finished confirmed b c → KeepsWanted nodes invocations finished confirmed a c
wanted_on nodes invocations finished confirmed a b c one two h done said are = two h done said (one h done said are)

-- of the members of a list, one more has its priors led where it is wanted and confirmed
pub led_more : (nodes : List PlanNode) (finished confirmed old new : List Bool) (before after : List ℕ) → IsRaised old new before after → (xs : List ℕ) (n : ℕ)
    → ((j : ℕ) → j < n → flag old (slice_index xs j) ≡ true → flag confirmed (slice_index xs j) ≡ true → Contains before (slice_index xs j) ⊎ IsLed finished old false (priors_at nodes (slice_index xs j)))
    → (flag old (slice_index xs n) ≡ true → flag confirmed (slice_index xs n) ≡ true → IsLed finished new false (priors_at nodes (slice_index xs n)))
    → (j : ℕ) → j < n + 1 → flag new (slice_index xs j) ≡ true → flag confirmed (slice_index xs j) ≡ true → Contains after (slice_index xs j) ⊎ IsLed finished new false (priors_at nodes (slice_index xs j))
led_more nodes finished confirmed old new before after raised xs n so_far here j lt up sure =
    ⊎_elim
    (λ (was : flag old (slice_index xs j) ≡ true).
    ⊎_elim
    (λ (same : j ≡ n). inr (subst (λ i. IsLed finished new false (priors_at nodes (slice_index xs i))) (sym same) (here (subst (λ i. flag old (slice_index xs i) ≡ true) same was) (subst (λ i. flag confirmed (slice_index xs i) ≡ true) same sure))))
    (λ (other : j ≡ n → ⊥).
    ⊎_elim (λ (listed : Contains before (slice_index xs j)). inl (raised.listed (slice_index xs j) listed))
    (λ (led : IsLed finished old false (priors_at nodes (slice_index xs j))). inr (led_on finished old new false (priors_at nodes (slice_index xs j)) raised.keeps led))
    (so_far j (omega (arith, lt, other)) was sure))
    (same_or j n))
    (λ (listed : Contains after (slice_index xs j)). inl listed)
    (raised.noted (slice_index xs j) up)
