-- The node's priors are led, by which the places, the list and the flags stay right.
use Rattle.std.proofs.Common.{◌≡◌, ℕ, ◌⊎◌, true, List, arith, subst, sym, ap, ◌∙◌}
use Rattle.just_sched_history.specs.Nodes.{priors_at}
use Rattle.just_sched_history.specs.Tables.{flag, InRange}
use Rattle.just_sched_history.specs.Led.{IsBefore, MayFollow, IsLed, place_of}
use Rattle.just_sched_history.proofs.Led.{raised_none}
use Rattle.just_sched_history.proofs.PlanLaws.{priors_read}
use Rattle.just_sched_history.proofs.PriorsLed.{before_kept, up_kept, wanted_kept}
use Rattle.just_sched_history.proofs.WantedLaws.{priors_within}
use Rattle.just_sched_history.proofs.descent.lead_priors.Goals as goal
use Rattle.just_sched_history.proofs.descent.lead_priors.Goals.{After-as_slice-2, After-lead_all-place}

-- what the code reads are the node's priors
are : (c : After-as_slice-2) → c.as_slice-2.result.now ≡ priors_at c.args.plan.now.nodes c.args.at
are c =
    priors_read c.args.plan.now.nodes c.as_slice.result.now c.args.at c.index-as_slice-at.result c.as_slice-2.result.now c.as_slice.ensures c.requires.within
    (c.as_slice-2.ensures ∙ ap (λ x. x.node.priors) c.index-as_slice-at.is)

-- only those that may come next were flagged
only : (c : After-lead_all-place) → c.as_slice-2.result.now ≡ priors_at c.args.plan.now.nodes c.args.at → (k : ℕ) → flag c.lead_all-place.new.wanted k ≡ true → (flag c.args.wanted.now k ≡ true) ⊎ MayFollow c.args.finished.now c.args.together (priors_at c.args.plan.now.nodes c.args.at) k
only c same =
    subst (λ (xs : List ℕ). (k : ℕ) → flag c.lead_all-place.new.wanted k ≡ true → (flag c.args.wanted.now k ≡ true) ⊎ MayFollow c.args.finished.now c.args.together xs k) same c.lead_all-place.ensures.only

pub lead_all-place-requires-clause-within : goal.lead_all-place-requires-clause-within
lead_all-place-requires-clause-within c =
    subst (λ (xs : List ℕ). InRange xs c.args.wanted.now) (sym (are (goal.at.lead_all-place-requires-clause-within c).After-as_slice-2))
    (priors_within c.args.plan.now.nodes c.args.plan.now.invocations c.args.plan.now.well c.args.wanted.now c.args.at c.requires.sized)

pub lead_all-place-requires-clause-before : goal.lead_all-place-requires-clause-before
lead_all-place-requires-clause-before c =
    subst (λ (xs : List ℕ). IsBefore c.args.finished.now c.args.wanted.now xs (place_of c.args.places.now c.args.at)) (sym (are (goal.at.lead_all-place-requires-clause-before c).After-as_slice-2)) (c.requires.before c.args.at)

pub returns-clause-listed : goal.returns-clause-listed
returns-clause-listed c =
    let plan = c.args.plan.now in
    let here = (goal.at.returns-clause-listed c).After-lead_all-place in
    let read = are (goal.at.returns-clause-listed c).After-as_slice-2 in
    up_kept plan.nodes plan.invocations c.args.finished.now c.args.confirmed.now c.args.wanted.now c.lead_all-place.new.wanted c.args.pending.now.items c.lead_all-place.new.pending.items c.args.at c.args.together c.requires.together c.lead_all-place.ensures.raised (only here read) c.requires.listed

pub returns-clause-before : goal.returns-clause-before
returns-clause-before c =
    let plan = c.args.plan.now in
    let here = (goal.at.returns-clause-before c).After-lead_all-place in
    let read = are (goal.at.returns-clause-before c).After-as_slice-2 in
    before_kept plan.nodes plan.invocations c.args.finished.now c.args.confirmed.now c.args.wanted.now c.lead_all-place.new.wanted c.args.pending.now.items c.lead_all-place.new.pending.items c.args.at c.args.together c.requires.together c.lead_all-place.ensures.raised (only here read)
    c.args.places.now c.lead_all-place.result (omega (arith, c.requires.within, c.requires.places)) c.requires.before
    (subst (λ (xs : List ℕ). IsBefore c.args.finished.now c.lead_all-place.new.wanted xs c.lead_all-place.result) read c.lead_all-place.ensures.before)

pub returns-clause-led : goal.returns-clause-led
returns-clause-led c = λ up sure.
    let here = (goal.at.returns-clause-led c).After-as_slice-2 in
    subst (λ (xs : List ℕ). IsLed c.args.finished.now c.lead_all-place.new.wanted c.args.together xs) (are here) c.lead_all-place.ensures.led

pub returns-clause-wanted : goal.returns-clause-wanted
returns-clause-wanted c =
    let plan = c.args.plan.now in
    let here = (goal.at.returns-clause-wanted c).After-lead_all-place in
    let read = are (goal.at.returns-clause-wanted c).After-as_slice-2 in
    wanted_kept plan.nodes plan.invocations c.args.finished.now c.args.confirmed.now c.args.wanted.now c.lead_all-place.new.wanted c.args.pending.now.items c.lead_all-place.new.pending.items c.args.at c.args.together c.requires.together c.lead_all-place.ensures.raised (only here read) c.if-not-wanted-at.false c.if-not-confirmed-at.false

pub returns-then-not-wanted-at-clause-raised : goal.returns-then-not-wanted-at-clause-raised
returns-then-not-wanted-at-clause-raised c = raised_none _ _

pub returns-then-not-confirmed-at-clause-raised : goal.returns-then-not-confirmed-at-clause-raised
returns-then-not-confirmed-at-clause-raised c = raised_none _ _
