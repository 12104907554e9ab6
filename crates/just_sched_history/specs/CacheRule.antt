-- The cache rule: a law of legal histories.
use Rattle.std.specs.Prelude.{ℕ, ◌≡◌, ◌≤◌, not, true, false, List, ◌∷◌, ◌++◌, count_by}
use Rattle.just_sched_history.specs.declared.event.Event.{Event}
use Rattle.just_sched_history.specs.declared.plan_node.PlanNode.{PlanNode}
use Rattle.just_sched_history.specs.Cached.{looks, is_looked_at, saw_full, are_one_class}
use Rattle.just_sched_history.specs.Legal.{Run}
use Rattle.just_sched_history.specs.State.{is_begun, is_skipped, is_open}

-- A cached node's body goes by the cache rule: it is looked at at most once; it is skipped only where its look was full, and begun only
-- where it was looked at and that look wasn't full; and at its look no other open body was of its class.
pub record GoesByCacheRule (s : Run) (h : List Event) (n : ℕ) : Type 0 where
  pub once : count_by (looks n) h ≤ 1
  pub skipped : is_skipped h n ≡ true → saw_full s.nodes h n ≡ true
  pub begun : is_begun h n ≡ true → (is_looked_at h n ≡ true) × (saw_full s.nodes h n ≡ false)
  pub alone : (before behind : List Event) (e : Event) → h ≡ before ++ e ∷ behind → looks n e ≡ true → (m : ℕ) → (m ≡ n → ⊥) → is_open before m ≡ true → are_one_class s.nodes m n ≡ false

-- in a complete history such a node is skipped exactly where its look was full, and else begun
abbrev pub IsSkippedByLook : List PlanNode → List Event → ℕ → Type 0
IsSkippedByLook nodes h n = (is_skipped h n ≡ saw_full nodes h n) × (is_begun h n ≡ not (saw_full nodes h n))
