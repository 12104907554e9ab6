-- A node more is confirmed, and its priors are led where it is wanted.
use Rattle.std.proofs.Common.{◌≡◌, ℕ, Bool, true, false, List, set, get_or-set_same, arith, subst, sym, ap, ◌∙◌, refl, get_or}
use Rattle.std.proofs.lemmas.List.{with_items_is}
use Rattle.std.proofs.Math.ListN.{length-set}
use Rattle.std.specs.Vec.{with_items}
use Rattle.just_sched_history.specs.Nodes.{priors_at, subsequents_at, parallel_at}
use Rattle.just_sched_history.specs.Tables.{flag}
use Rattle.just_sched_history.specs.Covered.{IsCovered, AreCovered}
use Rattle.just_sched_history.specs.Led.{IsRaised, IsLed, AreBefore, KeepsWanted, place_of}
use Rattle.just_sched_history.proofs.Confirming.{closed_confirmed, told_confirmed}
use Rattle.just_sched_history.proofs.Placing.{before_both, placed_on}
use Rattle.just_sched_history.proofs.CoveredLaws.{covered_confirmed}
use Rattle.just_sched_history.proofs.WantedLaws.{parallel_read}
use Rattle.just_sched_history.proofs.progress.Progress.confirm.Goals as goal
use Rattle.just_sched_history.proofs.progress.Progress.confirm.Goals.{After-index-as_slice-at, After-lead_priors}

-- whether the node's priors may go together
together : (c : After-index-as_slice-at) → (get_or c.as_slice.result.now c.args.at c.index-as_slice-at.result).parallel ≡ parallel_at c.args.plan.now.nodes c.args.at
together c = parallel_read c.args.plan.now.nodes c.as_slice.result.now c.args.at c.index-as_slice-at.result c.as_slice.ensures c.requires.within

pub lead_priors-requires-clause-together : goal.lead_priors-requires-clause-together
lead_priors-requires-clause-together c = λ e. sym (together (goal.at.lead_priors-requires-clause-together c).After-index-as_slice-at) ∙ e

pub lead_priors-requires-clause-before : goal.lead_priors-requires-clause-before
lead_priors-requires-clause-before c =
    let plan = c.args.plan.now in
    let self = c.args.self.now in
    subst (λ (f : List Bool). AreBefore (priors_at plan.nodes) f c.as_mut_slice-wanted.result.now c.as_mut_slice-places.result.now) (sym c.as_slice-finished.ensures.value)
    (subst (λ (w : List Bool). AreBefore (priors_at plan.nodes) self.finished.items w c.as_mut_slice-places.result.now) (sym c.as_mut_slice-wanted.ensures.value)
    (subst (λ (ps : List ℕ). AreBefore (priors_at plan.nodes) self.finished.items self.wanted.items ps) (sym c.as_mut_slice-places.ensures.value) c.requires.placed.priors))

-- the flags behind the call
confirmed_are : (c : After-lead_priors) → (with_items c.args.self.now.confirmed (set c.as_mut_slice-confirmed.result.now c.args.at true)).items ≡ set c.args.self.now.confirmed.items c.args.at true
confirmed_are c =
    with_items_is c.args.self.now.confirmed (set c.as_mut_slice-confirmed.result.now c.args.at true) (omega (arith, length-set c.as_mut_slice-confirmed.result.now c.args.at true, c.as_mut_slice-confirmed.ensures.len))
    ∙ ap (λ xs. set xs c.args.at true) c.as_mut_slice-confirmed.ensures.value

wanted_are : (c : After-lead_priors) → c.lead_priors.new.wanted ≡ (with_items c.args.self.now.wanted c.lead_priors.new.wanted).items
wanted_are c = sym (with_items_is c.args.self.now.wanted c.lead_priors.new.wanted (omega (arith, c.lead_priors.auto.wanted, c.as_mut_slice-wanted.ensures.len)))

raised_is : (c : After-lead_priors) → IsRaised c.args.self.now.wanted.items (with_items c.args.self.now.wanted c.lead_priors.new.wanted).items c.args.self.now.pending.items c.lead_priors.new.pending.items
raised_is c =
    subst (λ (w : List Bool). IsRaised c.args.self.now.wanted.items w c.args.self.now.pending.items c.lead_priors.new.pending.items) (wanted_are c)
    (subst (λ (w : List Bool). IsRaised w c.lead_priors.new.wanted c.args.self.now.pending.items c.lead_priors.new.pending.items) c.as_mut_slice-wanted.ensures.value c.lead_priors.ensures.raised)

pub returns-clause-confirmed : goal.returns-clause-confirmed
returns-clause-confirmed c = confirmed_are (goal.at.returns-clause-confirmed c).After-lead_priors

pub returns-clause-placed : goal.returns-clause-placed
returns-clause-placed c =
    let plan = c.args.plan.now in
    let self = c.args.self.now in
    let here = (goal.at.returns-clause-placed c).After-lead_priors in
    let w = (with_items self.wanted c.lead_priors.new.wanted).items in
    let raised = raised_is here in
    placed_on plan.nodes plan.invocations self _ refl c.lead_priors.ensures.capacity raised
    (before_both self.finished.items self.finished.items self.wanted.items w plan.invocations self.invocations (λ k up. up) raised.keeps c.requires.placed.invoked)
    (subst (λ (f : List Bool). AreBefore (priors_at plan.nodes) f w (with_items self.priors c.lead_priors.new.places).items) c.as_slice-finished.ensures.value
    (subst (λ (v : List Bool). AreBefore (priors_at plan.nodes) c.as_slice-finished.result.now v (with_items self.priors c.lead_priors.new.places).items) (wanted_are here)
    (subst (λ (places : List ℕ). AreBefore (priors_at plan.nodes) c.as_slice-finished.result.now c.lead_priors.new.wanted places) (sym (with_items_is self.priors c.lead_priors.new.places (omega (arith, c.lead_priors.auto.places, c.as_mut_slice-places.ensures.len)))) c.lead_priors.ensures.before)))
    (λ m. before_both self.finished.items self.finished.items self.wanted.items w (subsequents_at plan.nodes m) (place_of self.subsequents.items m) (λ k up. up) raised.keeps (c.requires.placed.subsequents m))
    c.requires.placed

pub returns-clause-closed : goal.returns-clause-closed
returns-clause-closed c =
    let plan = c.args.plan.now in
    let self = c.args.self.now in
    let here = (goal.at.returns-clause-closed c).After-lead_priors in
    let place = (goal.at.returns-clause-closed c).After-index-as_slice-at in
    closed_confirmed plan.nodes plan.invocations self _ c.args.at refl refl (confirmed_are here) (raised_is here)
    (λ up.
    subst (λ (f : List Bool). IsLed f (with_items self.wanted c.lead_priors.new.wanted).items (parallel_at plan.nodes c.args.at) (priors_at plan.nodes c.args.at)) c.as_slice-finished.ensures.value
    (subst (λ (w : List Bool). IsLed c.as_slice-finished.result.now w (parallel_at plan.nodes c.args.at) (priors_at plan.nodes c.args.at)) (wanted_are here)
    (subst (λ (b : Bool). IsLed c.as_slice-finished.result.now c.lead_priors.new.wanted b (priors_at plan.nodes c.args.at)) (together place)
    (c.lead_priors.ensures.led (subst (λ (w : List Bool). flag w c.args.at ≡ true) (sym c.as_mut_slice-wanted.ensures.value) up)
    (get_or-set_same c.as_mut_slice-confirmed.result.now c.args.at true false (omega (arith, c.requires.within, c.requires.size, self.confirmed_sized, c.as_mut_slice-confirmed.ensures.len)))))))
    c.requires.closed

pub returns-clause-told : goal.returns-clause-told
returns-clause-told c = λ h sure told.
    let plan = c.args.plan.now in
    let self = c.args.self.now in
    let here = (goal.at.returns-clause-told c).After-lead_priors in
    told_confirmed plan.nodes plan.invocations self _ c.args.at refl refl (confirmed_are here) (raised_is here) h sure
    (subst (λ (w : List Bool). KeepsWanted plan.nodes plan.invocations self.finished.items (with_items self.confirmed (set c.as_mut_slice-confirmed.result.now c.args.at true)).items self.wanted.items w) (wanted_are here)
    (subst (λ (s : List Bool). KeepsWanted plan.nodes plan.invocations self.finished.items s self.wanted.items c.lead_priors.new.wanted) (sym (with_items_is self.confirmed (set c.as_mut_slice-confirmed.result.now c.args.at true) (omega (arith, length-set c.as_mut_slice-confirmed.result.now c.args.at true, c.as_mut_slice-confirmed.ensures.len))))
    (subst (λ (f : List Bool). KeepsWanted plan.nodes plan.invocations f (set c.as_mut_slice-confirmed.result.now c.args.at true) self.wanted.items c.lead_priors.new.wanted) c.as_slice-finished.ensures.value
    (subst (λ (w : List Bool). KeepsWanted plan.nodes plan.invocations c.as_slice-finished.result.now (set c.as_mut_slice-confirmed.result.now c.args.at true) w c.lead_priors.new.wanted) c.as_mut_slice-wanted.ensures.value c.lead_priors.ensures.wanted))))
    told

pub returns-clause-covered : goal.returns-clause-covered
returns-clause-covered c = λ gone began.
    let plan = c.args.plan.now in
    let self = c.args.self.now in
    let here = (goal.at.returns-clause-covered c).After-lead_priors in
    let w = (with_items self.wanted c.lead_priors.new.wanted).items in
    let t = c.lead_priors.new.due.flags.items in
    let after = c.lead_priors.new.pending.items in
    subst (λ (s : List Bool). AreCovered plan.nodes gone t self.finished.items s w after) (sym (confirmed_are here))
    (covered_confirmed plan.nodes gone c.args.due.now.flags.items t self.finished.items self.confirmed.items c.lead_priors.ensures.kept self.wanted.items w self.pending.items after (raised_is here) c.args.at (omega (arith, c.requires.within, c.requires.size, self.confirmed_sized))
    (λ up.
    subst (λ (s : List Bool). IsCovered plan.nodes t self.finished.items (set s c.args.at true) c.args.at) c.as_mut_slice-confirmed.ensures.value
    (subst (λ (f : List Bool). IsCovered plan.nodes t f (set c.as_mut_slice-confirmed.result.now c.args.at true) c.args.at) c.as_slice-finished.ensures.value
    (c.lead_priors.ensures.covered (subst (λ (v : List Bool). flag v c.args.at ≡ true) (sym c.as_mut_slice-wanted.ensures.value) up))))
    began)
