-- The node's subsequents are led, by which what is known of the places, the list and the flags stays so.
use Rattle.std.proofs.Common.{◌≡◌, ℕ, ◌<◌, ◌⊎◌, Bool, true, false, true≢false, List, length, set, arith, subst, sym, ap, ◌∙◌, refl, eqb-true, eq-eqb}
use Rattle.std.proofs.lemmas.List.{get_or_read_under, with_items_is}
use Rattle.std.specs.Prelude.{slice_index}
use Rattle.just_sched_history.specs.Nodes.{priors_at, subsequents_at}
use Rattle.just_sched_history.specs.Tables.{flag, InRange}
use Rattle.just_sched_history.specs.Led.{IsBefore, IsRaised, MayFollow, IsLed, AreBefore, place_of}
use Rattle.just_sched_history.proofs.Led.{led_to}
use Rattle.just_sched_history.proofs.Placing.{before_both, placed_on, all_through, one_left, told_through}
use Rattle.just_sched_history.proofs.PlanLaws.{subsequents_read}
use Rattle.just_sched_history.proofs.PriorsLed.{place_set}
use Rattle.just_sched_history.proofs.WantedLaws.{subsequents_within}
use Rattle.just_sched_history.proofs.progress.Progress.go_through.Goals as goal
use Rattle.just_sched_history.proofs.progress.Progress.go_through.Goals.{After-as_slice-list, After-lead-place}

-- what the code reads are the node's subsequents
are : (c : After-as_slice-list) → c.as_slice-list.result.now ≡ subsequents_at c.args.plan.now.nodes c.args.at
are c =
    subsequents_read c.args.plan.now.nodes c.as_slice-nodes.result.now c.args.at c.index-nodes-at.result c.as_slice-list.result.now c.as_slice-nodes.ensures c.requires.within
    c.as_slice-list.ensures

-- the flags that the call leaves are those of the progress
wanted_are : (c : After-lead-place) → length c.lead-place.new.wanted ≡ c.args.self.now.wanted.len
wanted_are c = omega (arith, c.lead-place.auto.wanted, c.as_mut_slice-wanted.ensures.len)

pub lead-place-requires-clause-within : goal.lead-place-requires-clause-within
lead-place-requires-clause-within c =
    let plan = c.args.plan.now in
    subst (λ (xs : List ℕ). InRange xs c.as_mut_slice-wanted.result.now) (sym (are (goal.at.lead-place-requires-clause-within c).After-as_slice-list))
    (subsequents_within plan.nodes plan.invocations plan.well c.as_mut_slice-wanted.result.now c.args.at (omega (arith, c.as_mut_slice-wanted.ensures.len, c.args.self.now.wanted_sized, c.requires.size)))

pub lead-place-requires-clause-before : goal.lead-place-requires-clause-before
lead-place-requires-clause-before c =
    let self = c.args.self.now in
    let same = are (goal.at.lead-place-requires-clause-before c).After-as_slice-list in
    let place : c.index.result.now ≡ place_of self.subsequents.items c.args.at =
    get_or_read_under self.subsequents.items c.args.at (length self.subsequents.items) c.index.result.now 0 c.index.ensures (omega (arith, c.requires.within, self.subsequents_sized, c.requires.size)) refl in
    subst (λ n. IsBefore c.as_slice-finished.result.now c.as_mut_slice-wanted.result.now c.as_slice-list.result.now n) (sym place)
    (subst (λ (xs : List ℕ). IsBefore c.as_slice-finished.result.now c.as_mut_slice-wanted.result.now xs (place_of self.subsequents.items c.args.at)) (sym same)
    (subst (λ (f : List Bool). IsBefore f c.as_mut_slice-wanted.result.now (subsequents_at c.args.plan.now.nodes c.args.at) (place_of self.subsequents.items c.args.at)) (sym c.as_slice-finished.ensures.value)
    (subst (λ (w : List Bool). IsBefore self.finished.items w (subsequents_at c.args.plan.now.nodes c.args.at) (place_of self.subsequents.items c.args.at)) (sym c.as_mut_slice-wanted.ensures.value)
    (c.requires.placed.subsequents c.args.at))))

-- what the call ensures, of the progress and its node's subsequents
before_is : (c : After-lead-place) → c.as_slice-list.result.now ≡ subsequents_at c.args.plan.now.nodes c.args.at → IsBefore c.args.self.now.finished.items c.lead-place.new.wanted (subsequents_at c.args.plan.now.nodes c.args.at) c.lead-place.result
before_is c same =
    subst (λ (xs : List ℕ). IsBefore c.args.self.now.finished.items c.lead-place.new.wanted xs c.lead-place.result) same
    (subst (λ (f : List Bool). IsBefore f c.lead-place.new.wanted c.as_slice-list.result.now c.lead-place.result) c.as_slice-finished.ensures.value c.lead-place.ensures.before)

stops_is : (c : After-lead-place) → c.as_slice-list.result.now ≡ subsequents_at c.args.plan.now.nodes c.args.at
    → c.lead-place.result < length (subsequents_at c.args.plan.now.nodes c.args.at) → (flag c.args.self.now.finished.items (slice_index (subsequents_at c.args.plan.now.nodes c.args.at) c.lead-place.result) ≡ false) × (flag c.lead-place.new.wanted (slice_index (subsequents_at c.args.plan.now.nodes c.args.at) c.lead-place.result) ≡ true)
stops_is c same =
    subst (λ (xs : List ℕ). c.lead-place.result < length xs → (flag c.args.self.now.finished.items (slice_index xs c.lead-place.result) ≡ false) × (flag c.lead-place.new.wanted (slice_index xs c.lead-place.result) ≡ true)) same
    (subst (λ (f : List Bool). c.lead-place.result < length c.as_slice-list.result.now → (flag f (slice_index c.as_slice-list.result.now c.lead-place.result) ≡ false) × (flag c.lead-place.new.wanted (slice_index c.as_slice-list.result.now c.lead-place.result) ≡ true)) c.as_slice-finished.ensures.value c.lead-place.ensures.stops)

raised_is : (c : After-lead-place) → IsRaised c.args.self.now.wanted.items c.lead-place.new.wanted c.args.self.now.pending.items c.lead-place.new.pending.items
raised_is c = subst (λ (w : List Bool). IsRaised w c.lead-place.new.wanted c.args.self.now.pending.items c.lead-place.new.pending.items) c.as_mut_slice-wanted.ensures.value c.lead-place.ensures.raised

only_is : (c : After-lead-place) → c.as_slice-list.result.now ≡ subsequents_at c.args.plan.now.nodes c.args.at
    → (k : ℕ) → flag c.lead-place.new.wanted k ≡ true → (flag c.args.self.now.wanted.items k ≡ true) ⊎ MayFollow c.args.self.now.finished.items false (subsequents_at c.args.plan.now.nodes c.args.at) k
only_is c same =
    subst (λ (xs : List ℕ). (k : ℕ) → flag c.lead-place.new.wanted k ≡ true → (flag c.args.self.now.wanted.items k ≡ true) ⊎ MayFollow c.args.self.now.finished.items false xs k) same
    (subst (λ (f : List Bool). (k : ℕ) → flag c.lead-place.new.wanted k ≡ true → (flag c.args.self.now.wanted.items k ≡ true) ⊎ MayFollow f false c.as_slice-list.result.now k) c.as_slice-finished.ensures.value
    (subst (λ (w : List Bool). (k : ℕ) → flag c.lead-place.new.wanted k ≡ true → (flag w k ≡ true) ⊎ MayFollow c.as_slice-finished.result.now false c.as_slice-list.result.now k) c.as_mut_slice-wanted.ensures.value c.lead-place.ensures.only))

pub returns-clause-raised : goal.returns-clause-raised
returns-clause-raised c =
    let self = c.args.self.now in
    let here = (goal.at.returns-clause-raised c).After-lead-place in
    subst (λ (w : List Bool). IsRaised self.wanted.items w self.pending.items c.lead-place.new.pending.items) (sym (with_items_is self.wanted c.lead-place.new.wanted (wanted_are here))) (raised_is here)

pub returns-clause-placed : goal.returns-clause-placed
returns-clause-placed c =
    let plan = c.args.plan.now in
    let self = c.args.self.now in
    let here = (goal.at.returns-clause-placed c).After-lead-place in
    let same = are (goal.at.returns-clause-placed c).After-as_slice-list in
    let flags = sym (with_items_is self.wanted c.lead-place.new.wanted (wanted_are here)) in
    let raised = raised_is here in
    let at_once = λ (xs : List ℕ) (n : ℕ) (b : IsBefore self.finished.items self.wanted.items xs n). before_both self.finished.items self.finished.items self.wanted.items c.lead-place.new.wanted xs n (λ k up. up) raised.keeps b in
    placed_on plan.nodes plan.invocations self _ refl c.lead-place.ensures.capacity
    (subst (λ (w : List Bool). IsRaised self.wanted.items w self.pending.items c.lead-place.new.pending.items) flags raised)
    (subst (λ (w : List Bool). IsBefore self.finished.items w plan.invocations self.invocations) flags (at_once plan.invocations self.invocations c.requires.placed.invoked))
    (subst (λ (w : List Bool). AreBefore (priors_at plan.nodes) self.finished.items w self.priors.items) flags (λ m. at_once (priors_at plan.nodes m) (place_of self.priors.items m) (c.requires.placed.priors m)))
    (subst (λ (w : List Bool). AreBefore (subsequents_at plan.nodes) self.finished.items w (set self.subsequents.items c.args.at c.lead-place.result)) flags
    (place_set (λ m n. IsBefore self.finished.items c.lead-place.new.wanted (subsequents_at plan.nodes m) n) self.subsequents.items c.args.at c.lead-place.result (omega (arith, c.requires.within, self.subsequents_sized, c.requires.size))
    (λ m. at_once (subsequents_at plan.nodes m) (place_of self.subsequents.items m) (c.requires.placed.subsequents m)) (before_is here same)))
    c.requires.placed

pub returns-clause-led : goal.returns-clause-led
returns-clause-led c =
    let self = c.args.self.now in
    let here = (goal.at.returns-clause-led c).After-lead-place in
    let same = are (goal.at.returns-clause-led c).After-as_slice-list in
    subst (λ (w : List Bool). IsLed self.finished.items w false (subsequents_at c.args.plan.now.nodes c.args.at)) (sym (with_items_is self.wanted c.lead-place.new.wanted (wanted_are here)))
    (led_to self.finished.items self.wanted.items c.lead-place.new.wanted (subsequents_at c.args.plan.now.nodes c.args.at) 0 c.lead-place.result (raised_is here).keeps (before_is here same) (stops_is here same))

pub returns-clause-through : goal.returns-clause-through
returns-clause-through c = λ e.
    let here = (goal.at.returns-clause-through c).After-lead-place in
    let same = are (goal.at.returns-clause-through c).After-as_slice-list in
    all_through c.args.self.now.finished.items c.lead-place.new.wanted (subsequents_at c.args.plan.now.nodes c.args.at) c.lead-place.result (before_is here same)
    (eqb-true c.lead-place.result (length c.as_slice-list.result.now) e ∙ ap (λ (xs : List ℕ). length xs) same)

pub returns-clause-not_through : goal.returns-clause-not_through
returns-clause-not_through c = λ e.
    let here = (goal.at.returns-clause-not_through c).After-lead-place in
    let same = are (goal.at.returns-clause-not_through c).After-as_slice-list in
    one_left c.args.self.now.finished.items c.lead-place.new.wanted (subsequents_at c.args.plan.now.nodes c.args.at) c.lead-place.result (before_is here same) (stops_is here same)
    (λ is. true≢false (sym (eq-eqb c.lead-place.result (length c.as_slice-list.result.now) (is ∙ ap (λ (xs : List ℕ). length xs) (sym same))) ∙ e))

pub returns-clause-told : goal.returns-clause-told
returns-clause-told c = λ h up told.
    let plan = c.args.plan.now in
    let self = c.args.self.now in
    let here = (goal.at.returns-clause-told c).After-lead-place in
    let same = are (goal.at.returns-clause-told c).After-as_slice-list in
    let flags = sym (with_items_is self.wanted c.lead-place.new.wanted (wanted_are here)) in
    told_through plan.nodes plan.invocations h self _ c.args.at (omega (arith, c.requires.within, self.over_sized, c.requires.size)) up refl refl refl
    (subst (λ (w : List Bool). (k : ℕ) → flag w k ≡ true → (flag self.wanted.items k ≡ true) ⊎ MayFollow self.finished.items false (subsequents_at plan.nodes c.args.at) k) flags (only_is here same))
    told
