-- Nodes that are finished stay so, and a body that is done without a reason ended well.
use Rattle.std.proofs.Common.{◌≡◌, ℕ, ◌==◌, ◌⊎◌, inl, inr, ◌&&◌, ◌||◌, not, Bool, true, false, if◌then◌else◌, List, [], ◌∷◌, ◌++◌, Contains, Some, None, filter_map, refl, ap, ◌∙◌}
use Rattle.std.specs.List.{list_any, cons_option}
use Rattle.just_sched_history.specs.declared.event.Event.{Event}
use Rattle.just_sched_history.specs.declared.event.Event.TheVariants as event
use Rattle.just_sched_history.specs.declared.event.Outcome.TheVariants as outcome
use Rattle.just_sched_history.specs.declared.event.Reason.{Reason}
use Rattle.just_sched_history.specs.declared.plan_node.PlanNode.{PlanNode}
use Rattle.just_sched_history.specs.Nodes.{priors_at, subsequents_at}
use Rattle.just_sched_history.specs.State.{answers, takes, skips, concludes, concludes_well, reason_in, has_taken, is_done, is_asked, is_over_well, first, reason_of, IsFinished, finished}
use Rattle.just_sched_history.specs.Legal.{Run, IsLegal}
use Rattle.just_sched_history.proofs.Due.{took_ready}
use Rattle.just_sched_history.proofs.Order.{since}
use Rattle.just_sched_history.proofs.Tests.{any_kept, or_true}

-- ---- states that stay

-- a finished node stays finished
pub finished_kept : (nodes : List PlanNode) (h : List Event) (e : Event) (n : ℕ) → IsFinished nodes h n → IsFinished nodes (h ++ e ∷ []) n
finished_kept nodes h e n (finished k over behind) =
    finished k (any_kept (λ x. skips k x || concludes_well k x) h e over) (λ q c. finished_kept nodes h e q (behind q c))

-- a finished node is over well
pub finished_over : (nodes : List PlanNode) (h : List Event) (n : ℕ) → IsFinished nodes h n → is_over_well h n ≡ true
finished_over nodes h n (finished k over behind) = over

-- and so are its subsequents finished
pub finished_behind : (nodes : List PlanNode) (h : List Event) (n q : ℕ) → IsFinished nodes h n → Contains (subsequents_at nodes n) q → IsFinished nodes h q
finished_behind nodes h n q (finished k over behind) c = behind q c

-- a node took its job when its priors were finished
pub took_priors : (s : Run) (h : List Event) (n : ℕ) → IsLegal s h → has_taken h n ≡ true → (q : ℕ) → Contains (priors_at s.nodes n) q → IsFinished s.nodes h q
took_priors s h n l =
    since s (takes n) (λ k. (q : ℕ) → Contains (priors_at s.nodes n) q → IsFinished s.nodes k q)
    (λ k e old q c. finished_kept s.nodes k e q (old q c))
    (λ k e legal m t q c. finished_kept s.nodes k e q ((took_ready s k n e m t).priors q c)) h l

-- ---- a body that is done without a reason ended well

-- a body that is done without a reason ended well, by the first event
done_well_at : (h : List Event) (n : ℕ) (b : Bool) (r : Reason) → (b || list_any (concludes n) h) ≡ true → first (cons_option (if b then Some r else None) (filter_map (reason_in n) h)) ≡ None → (list_any (concludes n) h ≡ true → first (filter_map (reason_in n) h) ≡ None → is_over_well h n ≡ true) → is_over_well h n ≡ true
done_well_at h n true r d e rest = absurd (cc)
done_well_at h n false r d e rest = rest d e

-- one event more keeps that a node is over well
over_more : (x : Bool) (h : List Event) (n : ℕ) → is_over_well h n ≡ true → (x || is_over_well h n) ≡ true
over_more x h n o = ap (λ b. x || b) o ∙ or_true x

-- a first event that ends well, or a later one
well_first : (b c d : Bool) → (b || c) ≡ true → (c ≡ true → d ≡ true) → (b || d) ≡ true
well_first true c d q k = refl
well_first false c d q k = k q

-- a body that is done without a reason ended well
pub done_well : (h : List Event) (n : ℕ) → is_done h n ≡ true → reason_of h n ≡ None → is_over_well h n ≡ true
done_well [] n d e = absurd (cc)
done_well (event.Done m outcome.Well ∷ h) n d e = well_first (m == n) (is_done h n) (is_over_well h n) d (λ q. done_well h n q e)
done_well (event.Done m (outcome.Failed r) ∷ h) n d e = done_well_at h n (m == n) r d e (λ q t. done_well h n q t)
done_well (x ∷ h) n d e = over_more (skips n x || concludes_well n x) h n (done_well h n d e)

-- an answer is a yes or a no, by the first event
asked_at : (b y c one other : Bool) → (b || c) ≡ true → (c ≡ true → (one ≡ true) ⊎ (other ≡ true)) → (((b && y) || one) ≡ true) ⊎ (((b && not y) || other) ≡ true)
asked_at true true c one other q k = inl refl
asked_at true false c one other q k = inr refl
asked_at false y c one other q k = k q

-- an asked node was answered by a yes or by a no
pub asked_answer : (h : List Event) (n : ℕ) → is_asked h n ≡ true → (list_any (answers true n) h ≡ true) ⊎ (list_any (answers false n) h ≡ true)
asked_answer [] n a = absurd (cc)
asked_answer (event.Asked m y ∷ h) n a = asked_at (m == n) y (is_asked h n) (list_any (answers true n) h) (list_any (answers false n) h) a (asked_answer h n)
asked_answer (x ∷ h) n a = asked_answer h n a
