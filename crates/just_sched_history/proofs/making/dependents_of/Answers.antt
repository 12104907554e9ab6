-- A node is listed at one prior more; what was listed stays so.
use Rattle.std.proofs.Common.{◌≡◌, ℕ, ◌<◌, ⊎_elim, List, [], ◌∷◌, ◌++◌, length, arith, subst, sym, ap, ◌∙◌}
use Rattle.std.specs.Prelude.{map, slice_index, slice_index_or, slice_set, Contains}
use Rattle.just_sched_history.specs.Nodes.{priors_at}
use Rattle.just_sched_history.proofs.Dependents.{list_there, listed_kept, listed_new, listed_only}
use Rattle.just_sched_history.proofs.Led.{same_or}
use Rattle.just_sched_history.proofs.Placing.{of_contained}
use Rattle.just_sched_history.proofs.PlanLaws.{contains_at, priors_read}
use Rattle.just_sched_history.proofs.WantedLaws.{priors_below, priors_inside}
use Rattle.just_sched_history.proofs.making.dependents_of.Goals as goal
use Rattle.just_sched_history.proofs.making.dependents_of.Goals.{After-as_slice-prior-items}

-- what the code reads are the node's priors
are : (c : After-as_slice-prior-items) → c.as_slice-prior-items.result.now ≡ priors_at c.args.plan.now.nodes c.loop-at.at
are c =
    priors_read c.args.plan.now.nodes c.as_slice-nodes.result.now c.loop-at.at c.index-nodes-at.result c.as_slice-prior-items.result.now c.as_slice-nodes.ensures (omega (arith, c.loop-at-test.true, ap (λ xs. length xs) c.as_slice-nodes.ensures)) c.as_slice-prior-items.ensures

pub loop-at-init : goal.loop-at-init
loop-at-init c = record {
  len = omega (arith, c.in_ok-lists.ensures.len, ap (λ xs. length xs) c.as_slice-nodes.ensures);
  whole = λ m q lt at. absurd (omega (arith, lt));
  inside = λ m q at. absurd (c.in_ok-lists.ensures.empty q m at);
}

pub index_mut-requires : goal.index_mut-requires
index_mut-requires c =
    let plan = c.args.plan.now in
    let xs = c.as_slice-prior-items.result.now in
    let same = are (goal.at.index_mut-requires c).After-as_slice-prior-items in
    let at = subst (λ (ys : List ℕ). Contains ys (slice_index xs c.loop-prior.prior-index)) same (contains_at xs c.loop-prior.prior-index c.loop-prior-test.true) in
    let below : slice_index xs c.loop-prior.prior-index < c.loop-at.at = priors_below plan.nodes plan.invocations plan.well c.loop-at.at (slice_index xs c.loop-prior.prior-index) at in
    let inside : c.loop-at.at < length plan.nodes = priors_inside plan.nodes plan.invocations plan.well c.loop-at.at (slice_index xs c.loop-prior.prior-index) at in
    omega (arith, below, inside, c.loop-prior.invariant.len)

pub loop-prior-preserved : goal.loop-prior-preserved
loop-prior-preserved c =
    let plan = c.args.plan.now in
    let xs = c.as_slice-prior-items.result.now in
    let vs = c.loop-prior.lists.items in
    let n = c.loop-at.at in
    let i = slice_index xs c.loop-prior.prior-index in
    let v = c.push.new.self in
    let same = are (goal.at.loop-prior-preserved c).After-as_slice-prior-items in
    let at = subst (λ (ys : List ℕ). Contains ys i) same (contains_at xs c.loop-prior.prior-index c.loop-prior-test.true) in
    let below : i < n = priors_below plan.nodes plan.invocations plan.well n i at in
    let inside : n < length plan.nodes = priors_inside plan.nodes plan.invocations plan.well n i at in
    let lt : i < length vs = omega (arith, below, inside, c.loop-prior.invariant.len, c.loop-prior.lists.ok.0) in
    let is = c.in_ok-push.ensures.items ∙ ap (λ ys. ys ++ n ∷ []) (ap (λ y. y.items) c.index_mut.ensures.value ∙ sym (list_there (λ y. y.items) vs i c.index_mut.result.now lt)) in
    record {
      len = c.loop-prior.invariant.len;
      whole = λ m q less k. listed_kept (λ y. y.items) vs i n v lt is q m (c.loop-prior.invariant.whole m q less k);
      here = λ j less. ⊎_elim
          (λ (now : j ≡ c.loop-prior.prior-index).
          subst (λ y. Contains (slice_index_or (map (λ z. z.items) (slice_set vs i v)) y []) n) (ap (λ (ys : List ℕ). slice_index ys c.loop-prior.prior-index) same ∙ ap (λ k. slice_index (priors_at plan.nodes n) k) (sym now)) (listed_new (λ y. y.items) vs i n v lt is))
          (λ (other : j ≡ c.loop-prior.prior-index → ⊥). listed_kept (λ y. y.items) vs i n v lt is (slice_index (priors_at plan.nodes n) j) n (c.loop-prior.invariant.here j (omega (arith, less, other))))
          (same_or j c.loop-prior.prior-index);
      inside = λ m q k. ⊎_elim (λ (was : Contains (slice_index_or (map (λ y. y.items) vs) q []) m). c.loop-prior.invariant.inside m q was) (λ (new : m ≡ n). omega (arith, new, inside)) (listed_only (λ y. y.items) vs i n v lt is q m k);
    }

pub loop-at-preserved : goal.loop-at-preserved
loop-at-preserved c =
    let plan = c.args.plan.now in
    let n = c.loop-at.at in
    let same = are (goal.at.loop-at-preserved c).After-as_slice-prior-items in
    let lists = c.loop-prior.lists.items in
    record {
      len = c.loop-prior.invariant.len;
      whole = λ m q less k. ⊎_elim
          (λ (own : m ≡ n).
          subst (λ i. Contains (slice_index_or (map (λ y. y.items) lists) q []) i) (sym own)
          (of_contained (λ y. Contains (slice_index_or (map (λ z. z.items) lists) y []) n) (priors_at plan.nodes n)
          (λ j lt. c.loop-prior.invariant.here j (omega (arith, lt, c.loop-prior-test.false, ap (λ (ys : List ℕ). length ys) same))) q (subst (λ i. Contains (priors_at plan.nodes i) q) own k)))
          (λ (other : m ≡ n → ⊥). c.loop-prior.invariant.whole m q (omega (arith, less, other)) k)
          (same_or m n);
      inside = c.loop-prior.invariant.inside;
    }

pub returns-clause-whole : goal.returns-clause-whole
returns-clause-whole c = λ m q at.
    let plan = c.args.plan.now in
    c.loop-at.invariant.whole m q (omega (arith, priors_inside plan.nodes plan.invocations plan.well m q at, c.loop-at-test.false, ap (λ xs. length xs) c.as_slice-nodes.ensures)) at
