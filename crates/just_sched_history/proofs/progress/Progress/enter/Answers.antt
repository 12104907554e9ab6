-- A node more is over well, and where its subsequents may go together all of them are wanted.
use Rattle.std.proofs.Common.{◌≡◌, ℕ, ◌⊎◌, inl, inr, ⊎_elim, Bool, true, true≢false, List, set, arith, subst, sym, ap, ◌∙◌, refl}
use Rattle.std.proofs.lemmas.List.{with_items_is}
use Rattle.std.proofs.Math.ListN.{length-set}
use Rattle.std.specs.Prelude.{Contains}
use Rattle.std.specs.Vec.{with_items}
use Rattle.just_sched_history.specs.Nodes.{priors_at, subsequents_at, parallel_at}
use Rattle.just_sched_history.specs.Tables.{flag, InRange}
use Rattle.just_sched_history.specs.Led.{IsRaised, IsLed, place_of}
use Rattle.just_sched_history.proofs.Entering.{entered, told_entered, led_all}
use Rattle.just_sched_history.proofs.Led.{raised_none}
use Rattle.just_sched_history.proofs.Placing.{before_both, placed_on}
use Rattle.just_sched_history.proofs.PlanLaws.{subsequents_read}
use Rattle.just_sched_history.proofs.WantedLaws.{subsequents_within, parallel_read}
use Rattle.just_sched_history.proofs.progress.Progress.enter.Goals as goal
use Rattle.just_sched_history.proofs.progress.Progress.enter.Goals.{After-as_slice-2, After-want_all}

-- what the code reads are the node's subsequents
are : (c : After-as_slice-2) → c.as_slice-2.result.now ≡ subsequents_at c.args.plan.now.nodes c.args.node
are c = subsequents_read c.args.plan.now.nodes c.as_slice.result.now c.args.node c.index-as_slice-node.result c.as_slice-2.result.now c.as_slice.ensures c.requires.within (c.as_slice-2.ensures ∙ ap (λ x. x.node.subsequents) c.index-as_slice-node.is)

-- and whether they may go together
together : (c : After-as_slice-2) → parallel_at c.args.plan.now.nodes c.args.node ≡ true
together c =
    sym (ap (λ x. x.parallel) c.index-as_slice-node.is ∙ parallel_read c.args.plan.now.nodes c.as_slice.result.now c.args.node c.index-as_slice-node.result c.as_slice.ensures c.requires.within) ∙ c.if-not-at.false

-- ---- where they may not, only the node's own flag is raised

pub returns-then-not-at-clause-placed : goal.returns-then-not-at-clause-placed
returns-then-not-at-clause-placed c =
    let old = c.requires.placed in
    record { invoked = old.invoked; priors = old.priors; subsequents = old.subsequents; listed = old.listed; room = old.room; dependents = old.dependents; inside = old.inside }

pub returns-then-not-at-clause-raised : goal.returns-then-not-at-clause-raised
returns-then-not-at-clause-raised c = raised_none c.args.self.now.wanted.items c.args.self.now.pending.items

pub returns-then-not-at-clause-closed : goal.returns-then-not-at-clause-closed
returns-then-not-at-clause-closed c =
    let plan = c.args.plan.now in
    let self = c.args.self.now in
    let flags = c.as_mut_slice-over in
    let over = with_items_is self.over (set flags.result.now c.args.node true) (omega (arith, length-set flags.result.now c.args.node true, flags.ensures.len)) ∙ ap (λ xs. set xs c.args.node true) flags.ensures.value in
    let apart = sym (ap (λ x. x.parallel) c.index-as_slice-node.is ∙ parallel_read plan.nodes c.as_slice.result.now c.args.node c.index-as_slice-node.result c.as_slice.ensures c.requires.within) ∙ c.if-not-at.true in
    entered plan.nodes plan.invocations self _ c.args.node (omega (arith, c.requires.within, self.over_sized, c.requires.size)) over refl refl (raised_none self.wanted.items self.pending.items)
    (λ all. absurd (true≢false (sym all ∙ apart))) c.requires.closed

pub returns-then-not-at-clause-told : goal.returns-then-not-at-clause-told
returns-then-not-at-clause-told c = λ h over done said are_wanted.
    let plan = c.args.plan.now in
    let self = c.args.self.now in
    let flags = c.as_mut_slice-over in
    let over_is = with_items_is self.over (set flags.result.now c.args.node true) (omega (arith, length-set flags.result.now c.args.node true, flags.ensures.len)) ∙ ap (λ xs. set xs c.args.node true) flags.ensures.value in
    told_entered plan.nodes plan.invocations self _ c.args.node (omega (arith, c.requires.within, self.over_sized, c.requires.size)) over_is refl refl (raised_none self.wanted.items self.pending.items) h over done said are_wanted
    (λ k up. inl up) (length-set self.over.items c.args.node true)

-- ---- where they may

pub want_all-requires-clause-within : goal.want_all-requires-clause-within
want_all-requires-clause-within c =
    let plan = c.args.plan.now in
    subst (λ (xs : List ℕ). InRange xs c.as_mut_slice-wanted.result.now) (sym (are (goal.at.want_all-requires-clause-within c).After-as_slice-2))
    (subsequents_within plan.nodes plan.invocations plan.well c.as_mut_slice-wanted.result.now c.args.node (omega (arith, c.as_mut_slice-wanted.ensures.len, c.args.self.now.wanted_sized, c.requires.size)))

-- the flags behind the call
over_are : (c : After-want_all) → (with_items c.args.self.now.over (set c.as_mut_slice-over.result.now c.args.node true)).items ≡ set c.args.self.now.over.items c.args.node true
over_are c =
    with_items_is c.args.self.now.over (set c.as_mut_slice-over.result.now c.args.node true) (omega (arith, length-set c.as_mut_slice-over.result.now c.args.node true, c.as_mut_slice-over.ensures.len))
    ∙ ap (λ xs. set xs c.args.node true) c.as_mut_slice-over.ensures.value

wanted_are : (c : After-want_all) → c.want_all.new.wanted ≡ (with_items c.args.self.now.wanted c.want_all.new.wanted).items
wanted_are c = sym (with_items_is c.args.self.now.wanted c.want_all.new.wanted (omega (arith, c.want_all.auto.wanted, c.as_mut_slice-wanted.ensures.len)))

raised_is : (c : After-want_all) → IsRaised c.args.self.now.wanted.items (with_items c.args.self.now.wanted c.want_all.new.wanted).items c.args.self.now.pending.items c.want_all.new.pending.items
raised_is c =
    subst (λ (w : List Bool). IsRaised c.args.self.now.wanted.items w c.args.self.now.pending.items c.want_all.new.pending.items) (wanted_are c)
    (subst (λ (w : List Bool). IsRaised w c.want_all.new.wanted c.args.self.now.pending.items c.want_all.new.pending.items) c.as_mut_slice-wanted.ensures.value c.want_all.ensures.raised)

pub returns-clause-raised : goal.returns-clause-raised
returns-clause-raised c = raised_is (goal.at.returns-clause-raised c).After-want_all

pub returns-clause-placed : goal.returns-clause-placed
returns-clause-placed c =
    let plan = c.args.plan.now in
    let self = c.args.self.now in
    let w = (with_items self.wanted c.want_all.new.wanted).items in
    let raised = raised_is (goal.at.returns-clause-placed c).After-want_all in
    placed_on plan.nodes plan.invocations self _ refl c.want_all.ensures.capacity raised
    (before_both self.finished.items self.finished.items self.wanted.items w plan.invocations self.invocations (λ k up. up) raised.keeps c.requires.placed.invoked)
    (λ m. before_both self.finished.items self.finished.items self.wanted.items w (priors_at plan.nodes m) (place_of self.priors.items m) (λ k up. up) raised.keeps (c.requires.placed.priors m))
    (λ m. before_both self.finished.items self.finished.items self.wanted.items w (subsequents_at plan.nodes m) (place_of self.subsequents.items m) (λ k up. up) raised.keeps (c.requires.placed.subsequents m))
    c.requires.placed

pub returns-clause-closed : goal.returns-clause-closed
returns-clause-closed c =
    let plan = c.args.plan.now in
    let self = c.args.self.now in
    let here = (goal.at.returns-clause-closed c).After-want_all in
    let same = are (goal.at.returns-clause-closed c).After-as_slice-2 in
    entered plan.nodes plan.invocations self _ c.args.node (omega (arith, c.requires.within, self.over_sized, c.requires.size)) (over_are here) refl refl (raised_is here)
    (λ _. subst (λ (w : List Bool). IsLed self.finished.items w true (subsequents_at plan.nodes c.args.node)) (wanted_are here)
    (subst (λ (xs : List ℕ). IsLed self.finished.items c.want_all.new.wanted true xs) same (led_all self.finished.items c.want_all.new.wanted c.as_slice-2.result.now c.want_all.ensures.flagged)))
    c.requires.closed

pub returns-clause-told : goal.returns-clause-told
returns-clause-told c = λ h over done said are_wanted.
    let plan = c.args.plan.now in
    let self = c.args.self.now in
    let here = (goal.at.returns-clause-told c).After-want_all in
    let place = (goal.at.returns-clause-told c).After-as_slice-2 in
    told_entered plan.nodes plan.invocations self _ c.args.node (omega (arith, c.requires.within, self.over_sized, c.requires.size)) (over_are here) refl refl (raised_is here) h over done said are_wanted
    (subst (λ (w : List Bool). (k : ℕ) → flag w k ≡ true → (flag self.wanted.items k ≡ true) ⊎ ((parallel_at plan.nodes c.args.node ≡ true) × Contains (subsequents_at plan.nodes c.args.node) k)) (wanted_are here)
    (λ k up. ⊎_elim (λ (was : flag c.as_mut_slice-wanted.result.now k ≡ true). inl (subst (λ (w : List Bool). flag w k ≡ true) c.as_mut_slice-wanted.ensures.value was))
    (λ (at : Contains c.as_slice-2.result.now k). inr (together place, subst (λ (xs : List ℕ). Contains xs k) (are place) at))
    (c.want_all.ensures.only k up)))
    (length-set self.over.items c.args.node true)
