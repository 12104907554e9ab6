-- What is kept as one node more is confirmed, and its priors are led where it is wanted.
use Rattle.std.proofs.Common.{◌≡◌, ℕ, ◌<◌, ◌⊎◌, inl, inr, ⊎_elim, ◌||◌, Bool, true, false, List, [], ◌∷◌, ◌++◌, length, length-append, is_none, arith, set, get_or-set_same, None, Some, Option, refl, sym, ◌∙◌, ap, subst, eqb-true}
use Rattle.std.proofs.Math.Decide.{dec_lt}
use Rattle.std.proofs.Math.Seq.{get_or-append_seam}
use Rattle.std.proofs.lemmas.List.{get_or_append_left}
use Rattle.std.specs.Prelude.{Contains}
use Rattle.just_sched_history.specs.declared.event.Event.{Event}
use Rattle.just_sched_history.specs.declared.plan_node.PlanNode.{PlanNode}
use Rattle.just_sched_history.specs.declared.progress.Progress.{Progress}
use Rattle.just_sched_history.specs.Nodes.{priors_at, subsequents_at, parallel_at, prompt_at}
use Rattle.just_sched_history.specs.State.{is_confirmed, names}
use Rattle.just_sched_history.specs.Tables.{flag, FlagsAre}
use Rattle.just_sched_history.specs.Led.{IsRaised, IsLed, AllConfirmed, KeepsWanted}
use Rattle.just_sched_history.specs.Progress.{IsClosedBut, IsTold}
use Rattle.just_sched_history.proofs.Closing.{flag_kept, flag_other}
use Rattle.just_sched_history.proofs.Entering.{no_next}
use Rattle.just_sched_history.proofs.Led.{same_or, led_on}
use Rattle.just_sched_history.proofs.Tests.{or_false}

-- the flags say nothing false of who is confirmed, where one is flagged that is
pub all_confirmed : (nodes : List PlanNode) (h : List Event) (flags : List Bool) (at : ℕ) → is_confirmed nodes h at ≡ true → AllConfirmed nodes h flags → AllConfirmed nodes h (set flags at true)
all_confirmed nodes h flags at sure said k up =
    ⊎_elim (λ (same : k ≡ at). subst (λ i. is_confirmed nodes h i ≡ true) (sym same) sure)
    (λ (other : k ≡ at → ⊥). said k (flag_other flags at k other up))
    (same_or k at)

module _ (nodes : List PlanNode) (invocations : List ℕ) (p q : Progress) (at : ℕ)
    (over_is : q.over.items ≡ p.over.items) (finished_is : q.finished.items ≡ p.finished.items) (confirmed_is : q.confirmed.items ≡ set p.confirmed.items at true)
    (raised : IsRaised p.wanted.items q.wanted.items p.pending.items q.pending.items) where
  led_over : (together : Bool) (xs : List ℕ) → IsLed p.finished.items p.wanted.items together xs → IsLed q.finished.items q.wanted.items together xs
  led_over together xs l = led_on q.finished.items p.wanted.items q.wanted.items together xs raised.keeps (subst (λ f. IsLed f p.wanted.items together xs) (sym finished_is) l)

  -- the priors of a node that was wanted are led or pending
  led_before : (flag p.wanted.items at ≡ true → IsLed q.finished.items q.wanted.items (parallel_at nodes at) (priors_at nodes at)) → IsClosedBut nodes invocations p None → (m : ℕ) → flag q.confirmed.items m ≡ true → flag p.wanted.items m ≡ true → Contains q.pending.items m ⊎ IsLed q.finished.items q.wanted.items (parallel_at nodes m) (priors_at nodes m)
  led_before here closed m sure was =
      ⊎_elim
      (λ (same : m ≡ at). inr (subst (λ i. IsLed q.finished.items q.wanted.items (parallel_at nodes i) (priors_at nodes i)) (sym same) (here (subst (λ i. flag p.wanted.items i ≡ true) same was))))
      (λ (other : m ≡ at → ⊥).
      ⊎_elim (λ (listed : Contains p.pending.items m). inl (raised.listed m listed))
      (λ (l : IsLed p.finished.items p.wanted.items (parallel_at nodes m) (priors_at nodes m)). inr (led_over (parallel_at nodes m) (priors_at nodes m) l))
      (closed.priors m was (flag_other p.confirmed.items at m other (subst (λ xs. flag xs m ≡ true) confirmed_is sure))))
      (same_or m at)

  -- nothing is left to be flagged
  pub closed_confirmed : (flag p.wanted.items at ≡ true → IsLed q.finished.items q.wanted.items (parallel_at nodes at) (priors_at nodes at)) → IsClosedBut nodes invocations p None → IsClosedBut nodes invocations q None
  closed_confirmed here closed = record {
    finished = λ k lt left up all. subst (λ xs. flag xs k ≡ true) (sym finished_is) (closed.finished k lt left (subst (λ xs. flag xs k ≡ true) over_is up) (λ i c. subst (λ xs. flag xs i ≡ true) finished_is (all i c)));
    invoked = led_over false invocations closed.invoked;
    subsequents = λ m left up. led_over (parallel_at nodes m) (subsequents_at nodes m) (closed.subsequents m left (subst (λ xs. flag xs m ≡ true) over_is up));
    over = λ m e. absurd (no_next m e);
    together = λ m e all. absurd (no_next m e);
    priors = λ m up sure. ⊎_elim (λ (was : flag p.wanted.items m ≡ true). led_before here closed m sure was) (λ (listed : Contains q.pending.items m). inl listed) (raised.noted m up);
  }

  -- the flags say nothing false, by a history by which the node is confirmed
  pub told_confirmed : (h : List Event) → is_confirmed nodes h at ≡ true → KeepsWanted nodes invocations p.finished.items q.confirmed.items p.wanted.items q.wanted.items → IsTold nodes invocations h p → IsTold nodes invocations h q
  told_confirmed h sure keeps told =
      let said : AllConfirmed nodes h q.confirmed.items = subst (λ xs. AllConfirmed nodes h xs) (sym confirmed_is) (all_confirmed nodes h p.confirmed.items at sure told.confirmed) in
      record {
        over = λ k lt. ap (λ xs. flag xs k) over_is ∙ told.over k (subst (λ xs. k < length xs) over_is lt);
        finished = λ k up. told.finished k (subst (λ xs. flag xs k ≡ true) finished_is up);
        confirmed = said;
        wanted = keeps h told.finished said told.wanted;
      }

-- who was flagged or is named is flagged, where the flag of the one that is named is raised
pub heard_set : (flags : List Bool) (said : Option ℕ) (at k : ℕ) → said ≡ Some at → at < length flags → (flag flags k || names said k) ≡ true → flag (set flags at true) k ≡ true
heard_set flags said at k is lt either =
    ⊎_elim (λ (same : k ≡ at). subst (λ i. flag (set flags at true) i ≡ true) (sym same) (get_or-set_same flags at true false lt))
    (λ (other : k ≡ at → ⊥). flag_kept flags at k lt (flagged (flag flags k) (names said k) either (λ named. absurd (other (sym (eqb-true at k (ap (λ o. names o k) (sym is) ∙ named)))))))
    (same_or k at)
  where
    -- one of two tests passes, and not the second
    flagged : (a b : Bool) → (a || b) ≡ true → (b ≡ true → a ≡ true) → a ≡ true
    flagged true b e f = refl
    flagged false b e f = f e

-- who was flagged or is named was flagged, where none is named
pub heard_none : (a b : Bool) → b ≡ false → (a || b) ≡ true → a ≡ true
heard_none true b q e = refl
heard_none false b q e = absurd (cc)

-- one flag more
pub flag_pushed : (flags : List Bool) (b : Bool) (f : ℕ → Bool) → FlagsAre flags f → b ≡ f (length flags) → FlagsAre (flags ++ b ∷ []) f
flag_pushed flags b f are is k lt =
    elim (dec_lt k (length flags)) [
      | yes less ↦ get_or_append_left flags (b ∷ []) false k less ∙ are k less
      | no not_less ↦ (let same : k ≡ length flags = omega (arith, lt, length-append flags (b ∷ [])) in subst (λ i. flag (flags ++ b ∷ []) i ≡ f i) (sym same) (get_or-append_seam flags b [] false ∙ is))
    ]

-- a node of which no event speaks is confirmed where it has no prompt
pub confirmed_blank : (nodes : List PlanNode) (n : ℕ) (b : Bool) → b ≡ is_none (prompt_at nodes n) → b ≡ is_confirmed nodes [] n
confirmed_blank nodes n b e = e ∙ sym (or_false (is_none (prompt_at nodes n)))
