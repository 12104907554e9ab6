-- The invocations are gone along, of which none is finished.
use Rattle.std.proofs.Common.{◌≡◌, ℕ, ◌⊎◌, Bool, true, false, List, arith, subst, sym, refl}
use Rattle.std.proofs.lemmas.List.{with_items_is}
use Rattle.std.specs.Vec.{with_items}
use Rattle.just_sched_history.specs.Nodes.{priors_at, subsequents_at}
use Rattle.just_sched_history.specs.Tables.{flag, InRange}
use Rattle.just_sched_history.specs.Led.{IsBefore, IsRaised, MayFollow, IsLed, place_of}
use Rattle.just_sched_history.proofs.Beginning.{closed_begun, told_begun}
use Rattle.just_sched_history.proofs.Led.{led_to}
use Rattle.just_sched_history.proofs.Placing.{before_both, placed_on}
use Rattle.just_sched_history.proofs.WantedLaws.{invocations_within}
use Rattle.just_sched_history.proofs.progress.Progress.invite.Goals as goal
use Rattle.just_sched_history.proofs.progress.Progress.invite.Goals.{After-lead-place}

pub lead-place-requires-clause-within : goal.lead-place-requires-clause-within
lead-place-requires-clause-within c =
    let plan = c.args.plan.now in
    subst (λ (xs : List ℕ). InRange xs c.as_mut_slice-wanted.result.now) (sym c.as_slice.ensures)
    (invocations_within plan.nodes plan.invocations plan.well c.as_mut_slice-wanted.result.now (omega (arith, c.as_mut_slice-wanted.ensures.len, c.args.self.now.wanted_sized, c.requires.size)))

pub lead-place-requires-clause-before : goal.lead-place-requires-clause-before
lead-place-requires-clause-before c =
    let self = c.args.self.now in
    subst (λ (xs : List ℕ). IsBefore c.as_slice-finished.result.now c.as_mut_slice-wanted.result.now xs self.invocations) (sym c.as_slice.ensures)
    (subst (λ (f : List Bool). IsBefore f c.as_mut_slice-wanted.result.now c.args.plan.now.invocations self.invocations) (sym c.as_slice-finished.ensures.value)
    (subst (λ (w : List Bool). IsBefore self.finished.items w c.args.plan.now.invocations self.invocations) (sym c.as_mut_slice-wanted.ensures.value) c.requires.placed.invoked))

-- the flags behind the call
wanted_are : (c : After-lead-place) → c.lead-place.new.wanted ≡ (with_items c.args.self.now.wanted c.lead-place.new.wanted).items
wanted_are c = sym (with_items_is c.args.self.now.wanted c.lead-place.new.wanted (omega (arith, c.lead-place.auto.wanted, c.as_mut_slice-wanted.ensures.len)))

raised_is : (c : After-lead-place) → IsRaised c.args.self.now.wanted.items (with_items c.args.self.now.wanted c.lead-place.new.wanted).items c.args.self.now.pending.items c.lead-place.new.pending.items
raised_is c =
    subst (λ (w : List Bool). IsRaised c.args.self.now.wanted.items w c.args.self.now.pending.items c.lead-place.new.pending.items) (wanted_are c)
    (subst (λ (w : List Bool). IsRaised w c.lead-place.new.wanted c.args.self.now.pending.items c.lead-place.new.pending.items) c.as_mut_slice-wanted.ensures.value c.lead-place.ensures.raised)

pub returns-clause-raised : goal.returns-clause-raised
returns-clause-raised c = raised_is (goal.at.returns-clause-raised c).After-lead-place

pub returns-clause-placed : goal.returns-clause-placed
returns-clause-placed c =
    let plan = c.args.plan.now in
    let self = c.args.self.now in
    let here = (goal.at.returns-clause-placed c).After-lead-place in
    let w = (with_items self.wanted c.lead-place.new.wanted).items in
    let raised = raised_is here in
    placed_on plan.nodes plan.invocations self _ refl c.lead-place.ensures.capacity raised
    (subst (λ (xs : List ℕ). IsBefore self.finished.items w xs c.lead-place.result) c.as_slice.ensures
    (subst (λ (f : List Bool). IsBefore f w c.as_slice.result.now c.lead-place.result) c.as_slice-finished.ensures.value
    (subst (λ (v : List Bool). IsBefore c.as_slice-finished.result.now v c.as_slice.result.now c.lead-place.result) (wanted_are here) c.lead-place.ensures.before)))
    (λ m. before_both self.finished.items self.finished.items self.wanted.items w (priors_at plan.nodes m) (place_of self.priors.items m) (λ k up. up) raised.keeps (c.requires.placed.priors m))
    (λ m. before_both self.finished.items self.finished.items self.wanted.items w (subsequents_at plan.nodes m) (place_of self.subsequents.items m) (λ k up. up) raised.keeps (c.requires.placed.subsequents m))
    c.requires.placed

pub returns-clause-closed : goal.returns-clause-closed
returns-clause-closed c =
    let plan = c.args.plan.now in
    let self = c.args.self.now in
    let here = (goal.at.returns-clause-closed c).After-lead-place in
    closed_begun plan.nodes plan.invocations self _ refl refl refl c.requires.over c.requires.finished c.requires.wanted (raised_is here)
    (subst (λ (v : List Bool). IsLed self.finished.items v false plan.invocations) (wanted_are here)
    (subst (λ (f : List Bool). IsLed f c.lead-place.new.wanted false plan.invocations) c.as_slice-finished.ensures.value
    (subst (λ (xs : List ℕ). IsLed c.as_slice-finished.result.now c.lead-place.new.wanted false xs) c.as_slice.ensures
    (led_to c.as_slice-finished.result.now c.as_mut_slice-wanted.result.now c.lead-place.new.wanted c.as_slice.result.now 0 c.lead-place.result c.lead-place.ensures.raised.keeps c.lead-place.ensures.before c.lead-place.ensures.stops))))

pub returns-clause-told : goal.returns-clause-told
returns-clause-told c =
    let plan = c.args.plan.now in
    let self = c.args.self.now in
    let here = (goal.at.returns-clause-told c).After-lead-place in
    told_begun plan.nodes plan.invocations self _ refl refl refl c.requires.over c.requires.finished c.requires.wanted (raised_is here) c.requires.confirmed
    (subst (λ (w : List Bool). (k : ℕ) → flag w k ≡ true → (flag self.wanted.items k ≡ true) ⊎ MayFollow self.finished.items false plan.invocations k) (wanted_are here)
    (subst (λ (v : List Bool). (k : ℕ) → flag c.lead-place.new.wanted k ≡ true → (flag v k ≡ true) ⊎ MayFollow self.finished.items false plan.invocations k) c.as_mut_slice-wanted.ensures.value
    (subst (λ (f : List Bool). (k : ℕ) → flag c.lead-place.new.wanted k ≡ true → (flag c.as_mut_slice-wanted.result.now k ≡ true) ⊎ MayFollow f false plan.invocations k) c.as_slice-finished.ensures.value
    (subst (λ (xs : List ℕ). (k : ℕ) → flag c.lead-place.new.wanted k ≡ true → (flag c.as_mut_slice-wanted.result.now k ≡ true) ⊎ MayFollow c.as_slice-finished.result.now false xs k) c.as_slice.ensures c.lead-place.ensures.only))))
