-- A node is ready where its flags say so.
use Rattle.std.proofs.Common.{◌≡◌, ℕ, ◌<◌, ◌||◌, Bool, true, false, true≢false, List, arith, subst, sym, ap, ◌∙◌, refl}
use Rattle.std.specs.Prelude.{slice_index, Contains}
use Rattle.just_sched_history.specs.Nodes.{priors_at}
use Rattle.just_sched_history.specs.State.{has_taken, is_done}
use Rattle.just_sched_history.specs.Tables.{InRange}
use Rattle.just_sched_history.proofs.PlanLaws.{priors_read, contains_at}
use Rattle.just_sched_history.proofs.WantedLaws.{priors_within, priors_below}
use Rattle.just_sched_history.proofs.choice.is_ready.Goals as goal
use Rattle.just_sched_history.proofs.choice.is_ready.Goals.{After-as_slice-2}

-- what the code reads are the node's priors
are : (c : After-as_slice-2) → c.as_slice-2.result.now ≡ priors_at c.args.plan.now.nodes c.args.at
are c =
    priors_read c.args.plan.now.nodes c.as_slice.result.now c.args.at c.index-as_slice-at.result c.as_slice-2.result.now c.as_slice.ensures c.requires.within
    (c.as_slice-2.ensures ∙ ap (λ x. x.node.priors) c.index-as_slice-at.is)

or_parts : (a b : Bool) → (a || b) ≡ false → (a ≡ false) × (b ≡ false)
or_parts true b e = absurd (let no_way : true ≡ false = e in cc)
or_parts false b e = (refl, e)

pub all_flagged-requires : goal.all_flagged-requires
all_flagged-requires c =
    subst (λ (xs : List ℕ). InRange xs c.args.finished.now) (sym (are (goal.at.all_flagged-requires c).After-as_slice-2))
    (priors_within c.args.plan.now.nodes c.args.plan.now.invocations c.args.plan.now.well c.args.finished.now c.args.at c.requires.finished_sized)

pub returns-clause-is : goal.returns-clause-is
returns-clause-is c = λ e.
    let plan = c.args.plan.now in
    let apart = or_parts (has_taken c.args.history.now c.args.at) (is_done c.args.history.now c.args.at) (sym c.if-is_taken.ensures) in
    record {
      wanted = (c.requires.wanted c.args.at (omega (arith, c.requires.within, c.requires.wanted_sized))).0 c.if-not-wanted-at.false;
      confirmed = sym (c.requires.confirmed c.args.at (omega (arith, c.requires.within, c.requires.confirmed_sized))) ∙ c.if-not-confirmed-at.false;
      priors = λ q at_prior.
          let below : q < c.args.at = priors_below plan.nodes plan.invocations plan.well c.args.at q at_prior in
          (c.requires.finished q (omega (arith, c.requires.within, c.requires.finished_sized))).0
          (c.all_flagged.ensures.yes e q (subst (λ (xs : List ℕ). Contains xs q) (sym (are (goal.at.returns-clause-is c).After-as_slice-2)) at_prior));
      not_taken = apart.0;
      not_done = apart.1;
    }

pub returns-clause-not_so : goal.returns-clause-not_so
returns-clause-not_so c = λ e ready.
    let plan = c.args.plan.now in
    let (j, lt, down) = c.all_flagged.ensures.not_all e in
    let q = slice_index c.as_slice-2.result.now j in
    let at_prior = subst (λ (xs : List ℕ). Contains xs q) (are (goal.at.returns-clause-not_so c).After-as_slice-2) (contains_at c.as_slice-2.result.now j lt) in
    let below : q < c.args.at = priors_below plan.nodes plan.invocations plan.well c.args.at q at_prior in
    (c.requires.finished q (omega (arith, c.requires.within, c.requires.finished_sized))).1 down (ready.priors q at_prior)

pub returns-then-not-confirmed-at-clause-not_so : goal.returns-then-not-confirmed-at-clause-not_so
returns-then-not-confirmed-at-clause-not_so c = λ _ ready.
    true≢false (sym ready.confirmed ∙ sym (c.requires.confirmed c.args.at (omega (arith, c.requires.within, c.requires.confirmed_sized))) ∙ c.if-not-confirmed-at.true)
