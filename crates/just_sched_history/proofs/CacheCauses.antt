-- What a record shows of a body that failed by its cache.
use Rattle.std.proofs.Common.{◌≡◌, ℕ, ◌==◌, Bool, true, false, if◌then◌else◌, List, [], ◌∷◌, ◌++◌, length, Contains, Option, Some, None, refl, ap, sym, ◌∙◌, subst, eqb-true, arith}
use Rattle.std.specs.Prelude.{MatchOption, slice_index_or}
use Rattle.std.proofs.lemmas.List.Elements.{Contains-append_left, Contains-append_right}
use Rattle.just_path.specs.declared.host.Miss.{Miss}
use Rattle.just_host_record.specs.declared.entry.Entry.{Entry}
use Rattle.just_host_record.specs.declared.entry.Entry.TheVariants as entry
use Rattle.just_sched_history.specs.declared.cache_plan.CachePlan.{CachePlan}
use Rattle.just_sched_history.specs.declared.event.Event.{Event}
use Rattle.just_sched_history.specs.declared.event.Event.TheVariants as event
use Rattle.just_sched_history.specs.declared.event.Outcome.TheVariants as outcome
use Rattle.just_sched_history.specs.declared.event.Reason.{Reason}
use Rattle.just_sched_history.specs.declared.event.Reason.TheVariants as reason
use Rattle.just_sched_history.specs.Nodes.{cache_at, paths_in, outputs_in}
use Rattle.just_sched_history.specs.State.{reason_in, reason_of}
use Rattle.just_sched_history.specs.Legal.{Run}
use Rattle.just_sched_history.specs.Match.{StandsFor, FailureStandsFor, SumsFirst, Matches, summed_entries}
use Rattle.just_sched_history.proofs.OneMore.{reason_kept, reason_new}
use Rattle.just_sched_history.proofs.Stretch.{matches_holds}

-- a list that ends with an item contains it
ends_with : (xs ys : List Entry) (x : Entry) → xs ≡ ys ++ x ∷ [] → Contains xs x
ends_with xs ys x is = subst (λ k. Contains k x) (sym is) (Contains-append_right ys (x ∷ []) x (0, omega arith, refl))

-- ---- what a failure of a node stands for

module _ (s : Run) (n : ℕ) (r : Reason) where
  -- a failure of this node, by a test
  at_node : (h : List Event) (m : ℕ) (t : Reason) (fs : List Entry) (b : Bool) → (m == n) ≡ b → (if b then Some t else None) ≡ Some r → FailureStandsFor s h m t fs → FailureStandsFor s h n r fs
  at_node h m t fs true same q stands =
      let is : m ≡ n = eqb-true m n same in
      let reason_is : t ≡ r = cc in
      subst (λ k. FailureStandsFor s h k r fs) is (subst (λ u. FailureStandsFor s h m u fs) reason_is stands)
  at_node h m t fs false same q stands = absurd (cc)

  at_event : (h : List Event) (e : Event) (fs : List Entry) → reason_in n e ≡ Some r → StandsFor s h e fs → FailureStandsFor s h n r fs
  at_event h (event.Done m outcome.Well) fs q stands = absurd (cc)
  at_event h (event.Done m (outcome.Failed t)) fs q stands = at_node h m t fs (m == n) refl q stands
  at_event h e fs q stands = absurd (cc)

  -- an entry that such a failure always has
  module _ (x : Entry) (has : (h : List Event) (fs : List Entry) → FailureStandsFor s h n r fs → Contains fs x) where
    one_more : (h : List Event) (e : Event) (es fs : List Entry) (o : Option Reason) → reason_of h n ≡ o → (reason_of h n ≡ Some r → Contains es x) → StandsFor s h e fs → reason_of (h ++ e ∷ []) n ≡ Some r → Contains (es ++ fs) x
    one_more h e es fs None q old stands now = Contains-append_right es fs x (has h fs (at_event h e fs (sym (reason_new h e n q) ∙ now) stands))
    one_more h e es fs (Some t) q old stands now = Contains-append_left es fs x (old (q ∙ sym (reason_kept h e n t q) ∙ now))

    shown : (h : List Event) (es : List Entry) → Matches s h es → reason_of h n ≡ Some r → Contains es x
    shown h es m = matches_holds s (λ k fs. reason_of k n ≡ Some r → Contains fs x) (λ q. absurd (cc)) (λ k e fs gs old stands. one_more k e fs gs (reason_of k n) refl old stands) h es m

-- ---- an input that is a miss, and an output that isn't there

input_in : (o : Option CachePlan) (j : ℕ) (m : Miss) (fs : List Entry) → MatchOption o ⊥ (λ c. SumsFirst c (λ many. many ≡ j) (λ sums. entry.Missed (slice_index_or c.paths j []) m ∷ []) fs) → Contains fs (entry.Missed (slice_index_or (paths_in o) j []) m)
input_in (Some c) j m fs b = ends_with fs (summed_entries c.paths b.0) (entry.Missed (slice_index_or c.paths j []) m) b.2
input_in None j m fs b = absurd b

output_in : (o : Option CachePlan) (j : ℕ) (fs : List Entry) → MatchOption o ⊥ (λ c. fs ≡ entry.Checked c.outputs (Some j) ∷ []) → Contains fs (entry.Checked (outputs_in o) (Some j))
output_in (Some c) j fs b = ends_with fs [] (entry.Checked c.outputs (Some j)) b
output_in None j fs b = absurd b

-- the record shows the miss of the input
pub input_shown : (s : Run) (h : List Event) (es : List Entry) (n j : ℕ) (m : Miss) → Matches s h es → reason_of h n ≡ Some (reason.Input j m) → Contains es (entry.Missed (slice_index_or (paths_in (cache_at s.nodes n)) j []) m)
input_shown s h es n j m matches q =
    shown s n (reason.Input j m) (entry.Missed (slice_index_or (paths_in (cache_at s.nodes n)) j []) m) (λ k fs stands. input_in (cache_at s.nodes n) j m fs stands) h es matches q

-- and the check of the outputs
pub output_shown : (s : Run) (h : List Event) (es : List Entry) (n j : ℕ) → Matches s h es → reason_of h n ≡ Some (reason.Output j) → Contains es (entry.Checked (outputs_in (cache_at s.nodes n)) (Some j))
output_shown s h es n j matches q =
    shown s n (reason.Output j) (entry.Checked (outputs_in (cache_at s.nodes n)) (Some j)) (λ k fs stands. output_in (cache_at s.nodes n) j fs stands) h es matches q
