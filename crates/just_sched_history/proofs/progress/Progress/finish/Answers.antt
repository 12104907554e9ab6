-- The node is flagged, and the lists are gone along in which it stands; what is known of the places, the lists and the flags stays so.
use Rattle.std.proofs.Common.{◌≡◌, ℕ, ◌<◌, ◌⊎◌, Bool, true, false, List, [], length, set, arith, subst, sym, ap, ◌∙◌, refl}
use Rattle.std.proofs.lemmas.List.{with_items_is, get_or-map}
use Rattle.std.proofs.Math.ListN.{length-set}
use Rattle.std.specs.Prelude.{Contains, slice_index}
use Rattle.std.specs.Vec.{with_items}
use Rattle.just_sched_history.specs.Nodes.{priors_at, subsequents_at, parallel_at}
use Rattle.just_sched_history.specs.Covered.{IsCovered, AreCovered}
use Rattle.just_sched_history.specs.Progress.{dependents_at}
use Rattle.just_sched_history.specs.Tables.{flag, InRange}
use Rattle.just_sched_history.specs.Led.{IsBefore, IsRaised, MayFollow, IsLed, ArePriorsLed, AreBefore, KeepsWanted, place_of}
use Rattle.just_sched_history.proofs.Closing.{flag_kept}
use Rattle.just_sched_history.proofs.Finishing.{priors_finished, wanted_invoked}
use Rattle.just_sched_history.proofs.Led.{led_to, led_on, raised_on}
use Rattle.just_sched_history.proofs.Placing.{before_both, placed_on}
use Rattle.just_sched_history.proofs.PlanLaws.{contains_at}
use Rattle.just_sched_history.proofs.PriorsLed.{wanted_on}
use Rattle.just_sched_history.proofs.CoveredLaws.{covered_finished}
use Rattle.just_sched_history.proofs.WantedLaws.{invocations_within}
use Rattle.just_sched_history.proofs.progress.Progress.finish.Goals as goal
use Rattle.just_sched_history.proofs.progress.Progress.finish.Goals.{After-as_slice-2, After-lead-place, After-spread}

-- the dependents that the code reads
are : (c : After-as_slice-2) → c.as_slice-2.result.now ≡ dependents_at c.args.self.now c.args.at
are c =
    c.as_slice-2.ensures.value ∙ ap (λ v. v.items) c.index.ensures
    ∙ sym (get_or-map (λ v. v.items) c.args.self.now.dependents.items c.args.at c.index.result.now [] (omega (arith, c.requires.within, c.args.self.now.dependents_sized, c.requires.size)))

pub lead-place-requires-clause-within : goal.lead-place-requires-clause-within
lead-place-requires-clause-within c =
    let plan = c.args.plan.now in
    subst (λ (xs : List ℕ). InRange xs c.as_mut_slice-wanted.result.now) (sym c.as_slice.ensures)
    (invocations_within plan.nodes plan.invocations plan.well c.as_mut_slice-wanted.result.now (omega (arith, c.as_mut_slice-wanted.ensures.len, c.args.self.now.wanted_sized, c.requires.size)))

pub spread-requires-clause-within : goal.spread-requires-clause-within
spread-requires-clause-within c = λ j lt.
    let same = are (goal.at.spread-requires-clause-within c).After-as_slice-2 in
    c.requires.placed.inside (slice_index c.as_slice-2.result.now j) c.args.at (subst (λ (xs : List ℕ). Contains xs (slice_index c.as_slice-2.result.now j)) same (contains_at c.as_slice-2.result.now j lt))

-- the flags of the finished nodes behind the call, and those of the wanted
finished_are : (c : After-spread) → set c.as_mut_slice-finished.result.now c.args.at true ≡ set c.args.self.now.finished.items c.args.at true
finished_are c = ap (λ xs. set xs c.args.at true) c.as_mut_slice-finished.ensures.value

raised_is : (c : After-spread) → IsRaised c.args.self.now.wanted.items c.spread.new.wanted c.args.self.now.pending.items c.spread.new.pending.items
raised_is c =
    subst (λ (w : List Bool). IsRaised w c.spread.new.wanted c.args.self.now.pending.items c.spread.new.pending.items) c.as_mut_slice-wanted.ensures.value
    (raised_on c.as_mut_slice-wanted.result.now c.lead-place.new.wanted c.spread.new.wanted c.args.self.now.pending.items c.lead-place.new.pending.items c.spread.new.pending.items c.lead-place.ensures.raised c.spread.ensures.raised)

wanted_are : (c : After-spread) → length c.spread.new.wanted ≡ c.args.self.now.wanted.len
wanted_are c = omega (arith, c.spread.auto.wanted, c.lead-place.auto.wanted, c.as_mut_slice-wanted.ensures.len)

set_are : (c : After-spread) → length (set c.as_mut_slice-finished.result.now c.args.at true) ≡ c.args.self.now.finished.len
set_are c = omega (arith, length-set c.as_mut_slice-finished.result.now c.args.at true, c.as_mut_slice-finished.ensures.len)

pub returns-clause-placed : goal.returns-clause-placed
returns-clause-placed c =
    let plan = c.args.plan.now in
    let self = c.args.self.now in
    let here = (goal.at.returns-clause-placed c).After-spread in
    let f = set c.as_mut_slice-finished.result.now c.args.at true in
    let w = c.spread.new.wanted in
    let as_wanted = sym (with_items_is self.wanted w (wanted_are here)) in
    let as_finished = sym (with_items_is self.finished f (set_are here)) in
    let raised = raised_is here in
    let kept = λ (k : ℕ) (up : flag self.finished.items k ≡ true). subst (λ xs. flag xs k ≡ true) (sym (finished_are here)) (flag_kept self.finished.items c.args.at k (omega (arith, c.requires.within, self.finished_sized, c.requires.size)) up) in
    placed_on plan.nodes plan.invocations self _ refl (c.spread.ensures.capacity ∙ c.lead-place.ensures.capacity)
    (subst (λ (v : List Bool). IsRaised self.wanted.items v self.pending.items c.spread.new.pending.items) as_wanted raised)
    (subst (λ (v : List Bool). IsBefore v (with_items self.wanted w).items plan.invocations c.lead-place.result) as_finished
    (subst (λ (v : List Bool). IsBefore f v plan.invocations c.lead-place.result) as_wanted
    (subst (λ (xs : List ℕ). IsBefore f w xs c.lead-place.result) c.as_slice.ensures
    (before_both f f c.lead-place.new.wanted w c.as_slice.result.now c.lead-place.result (λ k up. up) c.spread.ensures.raised.keeps c.lead-place.ensures.before))))
    (subst (λ (v : List ℕ). AreBefore (priors_at plan.nodes) (with_items self.finished f).items (with_items self.wanted w).items v) (sym (with_items_is self.priors c.spread.new.places (omega (arith, c.spread.auto.places, c.as_mut_slice-places.ensures.len))))
    (subst (λ (v : List Bool). AreBefore (priors_at plan.nodes) v (with_items self.wanted w).items c.spread.new.places) as_finished
    (subst (λ (v : List Bool). AreBefore (priors_at plan.nodes) f v c.spread.new.places) as_wanted c.spread.ensures.before)))
    (subst (λ (v : List Bool). AreBefore (subsequents_at plan.nodes) v (with_items self.wanted w).items self.subsequents.items) as_finished
    (subst (λ (v : List Bool). AreBefore (subsequents_at plan.nodes) f v self.subsequents.items) as_wanted
    (λ m. before_both self.finished.items f self.wanted.items w (subsequents_at plan.nodes m) (place_of self.subsequents.items m) kept raised.keeps (c.requires.placed.subsequents m))))
    c.requires.placed

pub returns-clause-invocations : goal.returns-clause-invocations
returns-clause-invocations c =
    let plan = c.args.plan.now in
    let self = c.args.self.now in
    let here = (goal.at.returns-clause-invocations c).After-spread in
    let f = set c.as_mut_slice-finished.result.now c.args.at true in
    let w = c.spread.new.wanted in
    subst (λ (v : List Bool). IsLed v (with_items self.wanted w).items false plan.invocations) (sym (with_items_is self.finished f (set_are here)))
    (subst (λ (v : List Bool). IsLed f v false plan.invocations) (sym (with_items_is self.wanted w (wanted_are here)))
    (led_on f c.lead-place.new.wanted w false plan.invocations c.spread.ensures.raised.keeps
    (subst (λ (xs : List ℕ). IsLed f c.lead-place.new.wanted false xs) c.as_slice.ensures
    (led_to f c.as_mut_slice-wanted.result.now c.lead-place.new.wanted c.as_slice.result.now 0 c.lead-place.result c.lead-place.ensures.raised.keeps c.lead-place.ensures.before c.lead-place.ensures.stops))))

pub returns-clause-priors : goal.returns-clause-priors
returns-clause-priors c =
    let plan = c.args.plan.now in
    let self = c.args.self.now in
    let here = (goal.at.returns-clause-priors c).After-spread in
    let same = are (goal.at.returns-clause-priors c).After-as_slice-2 in
    let f = set c.as_mut_slice-finished.result.now c.args.at true in
    let g = set self.finished.items c.args.at true in
    let w = c.spread.new.wanted in
    let led = subst (λ (v : List Bool). (j : ℕ) → j < length c.as_slice-2.result.now → flag w (slice_index c.as_slice-2.result.now j) ≡ true → flag self.confirmed.items (slice_index c.as_slice-2.result.now j) ≡ true → Contains c.spread.new.pending.items (slice_index c.as_slice-2.result.now j) ⊎ IsLed v w false (priors_at plan.nodes (slice_index c.as_slice-2.result.now j))) (finished_are here) (subst (λ (s : List Bool). (j : ℕ) → j < length c.as_slice-2.result.now → flag w (slice_index c.as_slice-2.result.now j) ≡ true → flag s (slice_index c.as_slice-2.result.now j) ≡ true → Contains c.spread.new.pending.items (slice_index c.as_slice-2.result.now j) ⊎ IsLed f w false (priors_at plan.nodes (slice_index c.as_slice-2.result.now j))) c.as_slice-confirmed.ensures.value c.spread.ensures.led) in
    subst (λ (v : List Bool). ArePriorsLed (parallel_at plan.nodes) (priors_at plan.nodes) (with_items self.finished f).items self.confirmed.items v c.spread.new.pending.items) (sym (with_items_is self.wanted w (wanted_are here)))
    (subst (λ (v : List Bool). ArePriorsLed (parallel_at plan.nodes) (priors_at plan.nodes) v self.confirmed.items w c.spread.new.pending.items) (sym (finished_are here) ∙ sym (with_items_is self.finished f (set_are here)))
    (priors_finished plan.nodes self.finished.items self.confirmed.items self.wanted.items w self.pending.items c.spread.new.pending.items (raised_is here) c.args.at c.as_slice-2.result.now
    (λ m at. subst (λ (xs : List ℕ). Contains xs m) (sym same) (c.requires.placed.dependents m c.args.at at)) led c.requires.priors))

pub returns-clause-raised : goal.returns-clause-raised
returns-clause-raised c =
    let self = c.args.self.now in
    let here = (goal.at.returns-clause-raised c).After-spread in
    subst (λ (v : List Bool). IsRaised self.wanted.items v self.pending.items c.spread.new.pending.items) (sym (with_items_is self.wanted c.spread.new.wanted (wanted_are here))) (raised_is here)

pub returns-clause-wanted : goal.returns-clause-wanted
returns-clause-wanted c =
    let plan = c.args.plan.now in
    let self = c.args.self.now in
    let here = (goal.at.returns-clause-wanted c).After-spread in
    let f = set c.as_mut_slice-finished.result.now c.args.at true in
    let w = c.spread.new.wanted in
    let only = subst (λ (xs : List ℕ). (k : ℕ) → flag c.lead-place.new.wanted k ≡ true → (flag self.wanted.items k ≡ true) ⊎ MayFollow f false xs k) c.as_slice.ensures
    (subst (λ (v : List Bool). (k : ℕ) → flag c.lead-place.new.wanted k ≡ true → (flag v k ≡ true) ⊎ MayFollow f false c.as_slice.result.now k) c.as_mut_slice-wanted.ensures.value c.lead-place.ensures.only) in
    subst (λ (v : List Bool). KeepsWanted plan.nodes plan.invocations v self.confirmed.items self.wanted.items (with_items self.wanted w).items) (sym (with_items_is self.finished f (set_are here)))
    (subst (λ (v : List Bool). KeepsWanted plan.nodes plan.invocations f self.confirmed.items self.wanted.items v) (sym (with_items_is self.wanted w (wanted_are here)))
    (wanted_on plan.nodes plan.invocations f self.confirmed.items self.wanted.items c.lead-place.new.wanted w (wanted_invoked plan.nodes plan.invocations f self.confirmed.items self.wanted.items c.lead-place.new.wanted only) (subst (λ (s : List Bool). KeepsWanted plan.nodes plan.invocations f s c.lead-place.new.wanted w) c.as_slice-confirmed.ensures.value c.spread.ensures.wanted)))

pub returns-clause-covered : goal.returns-clause-covered
returns-clause-covered c = λ gone began.
    let plan = c.args.plan.now in
    let self = c.args.self.now in
    let here = (goal.at.returns-clause-covered c).After-spread in
    let same = are (goal.at.returns-clause-covered c).After-as_slice-2 in
    let f = set c.as_mut_slice-finished.result.now c.args.at true in
    let g = set self.finished.items c.args.at true in
    let w = c.spread.new.wanted in
    let t = c.spread.new.due.flags.items in
    let xs = c.as_slice-2.result.now in
    let after = c.spread.new.pending.items in
    let covered = subst (λ (v : List Bool). (j : ℕ) → j < length xs → flag w (slice_index xs j) ≡ true → Contains after (slice_index xs j) ⊎ IsCovered plan.nodes t v self.confirmed.items (slice_index xs j)) (finished_are here)
    (subst (λ (s : List Bool). (j : ℕ) → j < length xs → flag w (slice_index xs j) ≡ true → Contains after (slice_index xs j) ⊎ IsCovered plan.nodes t f s (slice_index xs j)) c.as_slice-confirmed.ensures.value c.spread.ensures.covered) in
    subst (λ (v : List Bool). AreCovered plan.nodes gone t (with_items self.finished f).items self.confirmed.items v after) (sym (with_items_is self.wanted w (wanted_are here)))
    (subst (λ (v : List Bool). AreCovered plan.nodes gone t v self.confirmed.items w after) (sym (finished_are here) ∙ sym (with_items_is self.finished f (set_are here)))
    (covered_finished plan.nodes c.args.due.now.flags.items t self.finished.items self.confirmed.items c.spread.ensures.kept gone self.wanted.items w self.pending.items after (raised_is here) c.args.at xs
    (λ m at. subst (λ (ys : List ℕ). Contains ys m) (sym same) (c.requires.placed.dependents m c.args.at at)) covered began))
