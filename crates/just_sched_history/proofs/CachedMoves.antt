-- The states of a node behind the events of its cache.
use Rattle.std.proofs.Common.{◌≡◌, ℕ, ◌&&◌, ◌||◌, not, Bool, true, false, List, [], ◌∷◌, ◌++◌, Option, Some, None, is_some, MatchOption, refl, ap, sym, ◌∙◌, subst, eq-eqb}
use Rattle.just_host_record.specs.declared.entry.Entry.{Entry}
use Rattle.just_host_record.specs.declared.entry.Look.{Look}
use Rattle.just_exec_work.specs.declared.work.Step.TheVariants as step
use Rattle.just_sched_history.specs.declared.cache_plan.CachePlan.{CachePlan}
use Rattle.just_sched_history.specs.declared.event.Event.{Event}
use Rattle.just_sched_history.specs.declared.event.Event.TheVariants as event
use Rattle.just_sched_history.specs.declared.plan_node.PlanNode.{PlanNode}
use Rattle.just_sched_history.specs.Cached.{looks, saves, is_cached, is_looked_at, is_saved, may_begin, saw_full, seen_at}
use Rattle.just_sched_history.specs.Legal.{Run, in_body}
use Rattle.just_sched_history.specs.Match.{begun_entries, OfBegun}
use Rattle.just_sched_history.specs.Nodes.{cache_at}
use Rattle.just_sched_history.specs.State.{skips, begins, is_begun, is_skipped, is_done, is_over, is_running, next_step}
use Rattle.just_sched_history.proofs.CachedLaws.{looked_seen}
use Rattle.just_sched_history.proofs.OneMore.{in_body_stays, running_stays}
use Rattle.just_sched_history.proofs.Others.{next_step_stays}
use Rattle.just_sched_history.proofs.Tests.{any_none, any_now, or_true}

-- a body whose entry was just looked at is still to be begun
pub look_did : (h later : List Event) (n : ℕ) (sums : List (List ℕ)) (seen : Look) → later ≡ h ++ event.Looked n sums seen ∷ [] → in_body h n ≡ true → is_begun h n ≡ false → is_running h n ≡ false
    → (in_body later n ≡ true) × (is_begun later n ≡ false) × (is_running later n ≡ false) × (is_looked_at later n ≡ true)
look_did h later n sums seen grew b fresh still =
    let e = event.Looked n sums seen in (
      ap (λ k. in_body k n) grew ∙ in_body_stays h e n refl refl refl refl ∙ b,
      ap (λ k. is_begun k n) grew ∙ any_none (begins n) h e refl ∙ fresh,
      ap (λ k. is_running k n) grew ∙ running_stays h e n refl refl refl ∙ still,
      ap (λ k. is_looked_at k n) grew ∙ any_now (looks n) h e (eq-eqb n n refl),
    )

-- a body whose entry was just saved is at its end
pub save_did : (nodes : List PlanNode) (h later : List Event) (n : ℕ) → later ≡ h ++ event.Saved n ∷ [] → in_body h n ≡ true → is_begun h n ≡ true → is_running h n ≡ false → next_step nodes h n ≡ step.Well
    → (in_body later n ≡ true) × (is_begun later n ≡ true) × (is_running later n ≡ false) × (next_step nodes later n ≡ step.Well) × (is_saved later n ≡ true)
save_did nodes h later n grew b begun still well =
    let e = event.Saved n in (
      ap (λ k. in_body k n) grew ∙ in_body_stays h e n refl refl refl refl ∙ b,
      ap (λ k. is_begun k n) grew ∙ any_none (begins n) h e refl ∙ begun,
      ap (λ k. is_running k n) grew ∙ running_stays h e n refl refl refl ∙ still,
      ap (λ k. next_step nodes k n) grew ∙ next_step_stays nodes h e n refl ∙ well,
      ap (λ k. is_saved k n) grew ∙ any_now (saves n) h e (eq-eqb n n refl),
    )

-- a body that may be begun was looked at, where it has a cache; so there are sums with which the cache makes its entries, that is none
pub begun_of : (s : Run) (h : List Event) (n : ℕ) (fact : List Entry → Type 0) → may_begin s.nodes h n ≡ true → fact [] → OfBegun s h n fact
begun_of s h n fact may p =
    by_cache (cache_at s.nodes n) (seen_at h n) (saw_full s.nodes h n) (subst (λ b. (not (is_cached s.nodes n) || (b && not (saw_full s.nodes h n))) ≡ true) (sym (looked_seen h n)) may)
  where
    by_cache : (o : Option CachePlan) (seen : Option (List (List ℕ) × Look)) (full : Bool) → (not (is_some o) || (is_some seen && not full)) ≡ true → MatchOption o (fact []) (λ c. MatchOption seen ⊥ (λ x. fact (begun_entries c x.0)))
    by_cache None seen full q = p
    by_cache (Some c) (Some x) full q = p
    by_cache (Some c) None full q = absurd (cc)

-- a body that was just skipped is over
pub skip_over : (h later : List Event) (n : ℕ) → later ≡ h ++ event.Skipped n ∷ [] → is_over later n ≡ true
skip_over h later n grew = ap (λ b. b || is_done later n) (ap (λ k. is_skipped k n) grew ∙ any_now (skips n) h (event.Skipped n) (eq-eqb n n refl))

-- a body may be begun that has no cache or was looked at, where that look wasn't full
pub may_by : (cached looked full : Bool) → (not cached || looked) ≡ true → full ≡ false → (not cached || (looked && not full)) ≡ true
may_by false looked full q p = refl
may_by true looked full q p = ap (λ b. looked && not b) p ∙ and_true looked ∙ q
  where
    and_true : (b : Bool) → (b && true) ≡ b
    and_true true = refl
    and_true false = refl

-- what isn't there lets a disjunction pass
pub either_not : (cached other : Bool) → cached ≡ false → (not cached || other) ≡ true
either_not cached other q = ap (λ b. not b || other) q

pub either_other : (cached other : Bool) → other ≡ true → (not cached || other) ≡ true
either_other cached other q = ap (λ b. not cached || b) q ∙ or_true (not cached)

-- what was looked at was seen
pub seen_of : (h : List Event) (n : ℕ) → is_looked_at h n ≡ true → (seen : List (List ℕ) × Look) × (seen_at h n ≡ Some seen)
seen_of h n q = there (seen_at h n) (looked_seen h n ∙ q)
  where
    there : (o : Option (List (List ℕ) × Look)) → is_some o ≡ true → (seen : List (List ℕ) × Look) × (o ≡ Some seen)
    there (Some x) e = (x, refl)
    there None e = absurd (cc)

-- what holds of what was seen of a node's cache
pub at_seen : (P : List (List ℕ) × Look → Type 0) (o : Option (List (List ℕ) × Look)) (x : List (List ℕ) × Look) → o ≡ Some x → P x → MatchOption o ⊥ P
at_seen P o x q p = subst (λ k. MatchOption k ⊥ P) (sym q) p
