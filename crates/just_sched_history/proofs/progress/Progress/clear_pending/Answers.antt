-- The priors of the pending nodes are led, by which what is known stays so and none is pending.
use Rattle.std.proofs.Common.{◌≡◌, ℕ, Bool, true, List, arith, subst, sym, ap, refl}
use Rattle.std.proofs.lemmas.List.{with_items_is}
use Rattle.std.specs.Vec.{with_items}
use Rattle.just_sched_history.specs.Nodes.{priors_at, parallel_at}
use Rattle.just_sched_history.specs.Tables.{flag}
use Rattle.just_sched_history.specs.Covered.{AreCovered}
use Rattle.just_sched_history.specs.Led.{down_count, IsLed, ArePriorsLed, AreBefore, AllWanted}
use Rattle.just_sched_history.proofs.Clearing.{placed_cleared, closed_cleared}
use Rattle.just_sched_history.proofs.progress.Progress.clear_pending.Goals as goal
use Rattle.just_sched_history.proofs.progress.Progress.clear_pending.Goals.{After-descend}

-- the flags of the wanted nodes behind the call
wanted_are : (c : After-descend) → c.descend.new.wanted ≡ (with_items c.args.self.now.wanted c.descend.new.wanted).items
wanted_are c = sym (with_items_is c.args.self.now.wanted c.descend.new.wanted (omega (arith, c.descend.auto.wanted, c.as_mut_slice-wanted.ensures.len)))

keeps_are : (c : After-descend) → (k : ℕ) → flag c.args.self.now.wanted.items k ≡ true → flag (with_items c.args.self.now.wanted c.descend.new.wanted).items k ≡ true
keeps_are c =
    subst (λ (w : List Bool). (k : ℕ) → flag c.args.self.now.wanted.items k ≡ true → flag w k ≡ true) (wanted_are c)
    (subst (λ (w : List Bool). (k : ℕ) → flag w k ≡ true → flag c.descend.new.wanted k ≡ true) c.as_mut_slice-wanted.ensures.value c.descend.ensures.keeps)

pub returns-clause-placed : goal.returns-clause-placed
returns-clause-placed c =
    let plan = c.args.plan.now in
    let self = c.args.self.now in
    let here = (goal.at.returns-clause-placed c).After-descend in
    placed_cleared plan.nodes plan.invocations self _ refl refl c.descend.ensures.none (keeps_are here) refl refl refl
    (subst (λ (f : List Bool). AreBefore (priors_at plan.nodes) f (with_items self.wanted c.descend.new.wanted).items (with_items self.priors c.descend.new.places).items) c.as_slice-finished.ensures.value
    (subst (λ (w : List Bool). AreBefore (priors_at plan.nodes) c.as_slice-finished.result.now w (with_items self.priors c.descend.new.places).items) (wanted_are here)
    (subst (λ (places : List ℕ). AreBefore (priors_at plan.nodes) c.as_slice-finished.result.now c.descend.new.wanted places) (sym (with_items_is self.priors c.descend.new.places (omega (arith, c.descend.auto.places, c.as_mut_slice-places.ensures.len)))) c.descend.ensures.before)))
    (omega (arith, c.descend.ensures.room, ap down_count (wanted_are here))) c.requires.placed

pub returns-clause-closed : goal.returns-clause-closed
returns-clause-closed c =
    let plan = c.args.plan.now in
    let self = c.args.self.now in
    let here = (goal.at.returns-clause-closed c).After-descend in
    closed_cleared plan.nodes plan.invocations self _ refl refl c.descend.ensures.none (keeps_are here) refl
    (subst (λ (f : List Bool). (m : ℕ) → flag (with_items self.wanted c.descend.new.wanted).items m ≡ true → flag self.confirmed.items m ≡ true → IsLed f (with_items self.wanted c.descend.new.wanted).items (parallel_at plan.nodes m) (priors_at plan.nodes m)) c.as_slice-finished.ensures.value
    (subst (λ (w : List Bool). (m : ℕ) → flag w m ≡ true → flag self.confirmed.items m ≡ true → IsLed c.as_slice-finished.result.now w (parallel_at plan.nodes m) (priors_at plan.nodes m)) (wanted_are here)
    (subst (λ (s : List Bool). (m : ℕ) → flag c.descend.new.wanted m ≡ true → flag s m ≡ true → IsLed c.as_slice-finished.result.now c.descend.new.wanted (parallel_at plan.nodes m) (priors_at plan.nodes m)) c.as_slice-confirmed.ensures.value c.descend.ensures.led)))
    c.requires.closed

pub returns-clause-told : goal.returns-clause-told
returns-clause-told c = λ h told.
    let plan = c.args.plan.now in
    let self = c.args.self.now in
    let here = (goal.at.returns-clause-told c).After-descend in
    record {
      over = told.over;
      finished = told.finished;
      confirmed = told.confirmed;
      wanted = subst (λ (w : List Bool). AllWanted plan.nodes plan.invocations h w) (wanted_are here)
          (c.descend.ensures.wanted h (λ k up. told.finished k (subst (λ (f : List Bool). flag f k ≡ true) c.as_slice-finished.ensures.value up))
          (λ k up. told.confirmed k (subst (λ (s : List Bool). flag s k ≡ true) c.as_slice-confirmed.ensures.value up))
          (λ k up. told.wanted k (subst (λ (w : List Bool). flag w k ≡ true) c.as_mut_slice-wanted.ensures.value up)));
    }

pub descend-requires-clause-led : goal.descend-requires-clause-led
descend-requires-clause-led c =
    let plan = c.args.plan.now in
    let self = c.args.self.now in
    subst (λ (f : List Bool). ArePriorsLed (parallel_at plan.nodes) (priors_at plan.nodes) f c.as_slice-confirmed.result.now c.as_mut_slice-wanted.result.now self.pending.items) (sym c.as_slice-finished.ensures.value)
    (subst (λ (s : List Bool). ArePriorsLed (parallel_at plan.nodes) (priors_at plan.nodes) self.finished.items s c.as_mut_slice-wanted.result.now self.pending.items) (sym c.as_slice-confirmed.ensures.value)
    (subst (λ (w : List Bool). ArePriorsLed (parallel_at plan.nodes) (priors_at plan.nodes) self.finished.items self.confirmed.items w self.pending.items) (sym c.as_mut_slice-wanted.ensures.value) c.requires.closed.priors))

pub returns-clause-covered : goal.returns-clause-covered
returns-clause-covered c = λ gone began.
    let plan = c.args.plan.now in
    let self = c.args.self.now in
    let here = (goal.at.returns-clause-covered c).After-descend in
    let s = c.args.due.now.flags.items in
    let t = c.descend.new.due.flags.items in
    let after = c.descend.new.pending.items in
    subst (λ (w : List Bool). AreCovered plan.nodes gone t self.finished.items self.confirmed.items w after) (wanted_are here)
    (subst (λ (f : List Bool). AreCovered plan.nodes gone t f self.confirmed.items c.descend.new.wanted after) c.as_slice-finished.ensures.value
    (subst (λ (y : List Bool). AreCovered plan.nodes gone t c.as_slice-finished.result.now y c.descend.new.wanted after) c.as_slice-confirmed.ensures.value
    (c.descend.ensures.covered gone
    (subst (λ (f : List Bool). AreCovered plan.nodes gone s f c.as_slice-confirmed.result.now c.as_mut_slice-wanted.result.now self.pending.items) (sym c.as_slice-finished.ensures.value)
    (subst (λ (y : List Bool). AreCovered plan.nodes gone s self.finished.items y c.as_mut_slice-wanted.result.now self.pending.items) (sym c.as_slice-confirmed.ensures.value)
    (subst (λ (w : List Bool). AreCovered plan.nodes gone s self.finished.items self.confirmed.items w self.pending.items) (sym c.as_mut_slice-wanted.ensures.value) began))))))
