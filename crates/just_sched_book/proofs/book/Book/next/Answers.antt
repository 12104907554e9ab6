-- A move is of the node of least number that is to be asked or free, or there is a reason why none can be made.
use Rattle.std.proofs.Common.{Some, ℕ, ◌≡◌, ◌<◌, MatchOption, ap, sym, ◌∙◌, subst, inl}
use Rattle.just_sched_history.specs.declared.event.Idle.TheVariants as idle
use Rattle.just_sched_history.specs.Idle.{IsIdle, CanMove}
use Rattle.just_sched_history.specs.Legal.{open_bodies}
use Rattle.just_sched_history.specs.Moves.{RunsWith, Rests}
use Rattle.just_sched_history.specs.Start.{run_of}
use Rattle.just_sched_history.specs.State.{has_caught, IsToAsk}
use Rattle.just_sched_book.proofs.Accounts.{unsure_free}
use Rattle.just_sched_history.proofs.Asking.{to_ask_unsure}
use Rattle.just_sched_book.proofs.Choices.{asked_move, can_ask, can_move, did_next, each_waits, match_next, may_take, none_takes, none_to_ask, not_full, nothing_due}
use Rattle.just_sched_book.proofs.book.Book.next.Goals as goal

-- the node that is asked was to be asked
pub returns-in-Ask-clause-can : goal.returns-in-Ask-clause-can
returns-in-Ask-clause-can g c = can_ask g.P.Naming.start c.args.self.now.history.items c.in-Ask.node (sym c.if-is_caught.ensures) c.in-Ask.ensures.turn.1

pub returns-in-Ask-clause-did : goal.returns-in-Ask-clause-did
returns-in-Ask-clause-did g c =
    let s = g.P.Naming.start in
    let h = c.args.self.now.history.items in
    let n = c.in-Ask.node in
    let t = c.in-Ask.ensures.turn in (
      n,
      asked_move s h _ _ n (ap (λ v. v.items) c.in-Ask.ensures.same.0) t.1 (unsure_free c.args.self.now.account n (to_ask_unsure s.plan.nodes s.plan.invocations h n t.1)).0
          (λ m lt a. (t.2 m lt).not_to_ask a) (λ m lt may. none_takes s h m (t.2 m lt) may) c.ask.ensures.grown c.ask.ensures.asked,
      c.ask.ensures.rests,
    )

-- a free node takes a job
pub returns-then-not-is_full-clause-can : goal.returns-then-not-is_full-clause-can
returns-then-not-is_full-clause-can g c =
    let s = g.P.Naming.start in
    let h = c.args.self.now.history.items in
    let job = subst (λ k. MatchOption s.jobs (Unit {0}) (λ j. open_bodies (run_of s) k < j)) (ap (λ v. v.items) c.in-Take.ensures.same.0) c.if-not-is_full.ensures in
    let can : CanMove (run_of s) h = can_move s h c.in-Take.node (sym c.if-is_caught.ensures) (may_take s h c.in-Take.node c.in-Take.ensures.turn.1 job) in
    match_next c.advance.result (Rests _ _) (CanMove (run_of s) h) (λ n child. (n ≡ c.in-Take.node) × RunsWith _ n child) (λ n child. CanMove (run_of s) h) (λ i. ⊥) _ (λ _. can) (λ n child _. can) (λ i x. absurd x) c.advance.ensures.did

pub returns-then-not-is_full-clause-did : goal.returns-then-not-is_full-clause-did
returns-then-not-is_full-clause-did g c =
    let s = g.P.Naming.start in
    let h = c.args.self.now.history.items in
    let same = ap (λ v. v.items) c.in-Take.ensures.same.0 in
    let job = subst (λ k. MatchOption s.jobs (Unit {0}) (λ j. open_bodies (run_of s) k < j)) same c.if-not-is_full.ensures in
    did_next c.advance.result s h _ _ _ c.in-Take.node _ same (may_take s h c.in-Take.node c.in-Take.ensures.turn.1 job) c.in-Take.ensures.turn.2 c.take.ensures.grown c.take.ensures.taken c.advance.ensures.grown c.advance.ensures.did

-- each job is taken, and another node is asked
pub returns-in-Some-clause-can : goal.returns-in-Some-clause-can
returns-in-Some-clause-can g c =
    let s = g.P.Naming.start in
    let same = ap (λ v. v.items) c.in-Take.ensures.same.0 in
    subst (λ k. CanMove (run_of s) k) same (can_ask s _ c.in-Some.other (ap has_caught same ∙ sym c.if-is_caught.ensures) c.in-Some.ensures.to_ask.1)

pub returns-in-Some-clause-did : goal.returns-in-Some-clause-did
returns-in-Some-clause-did g c =
    let s = g.P.Naming.start in
    let h = c.args.self.now.history.items in
    let n = c.in-Some.other in
    let same = ap (λ v. v.items) c.in-Take.ensures.same.0 in
    let to_ask = subst (λ k. IsToAsk s.plan.nodes s.plan.invocations k n) same c.in-Some.ensures.to_ask.1 in (
      n,
      asked_move s h _ _ n same to_ask (unsure_free c.args.self.now.account n (to_ask_unsure s.plan.nodes s.plan.invocations h n to_ask)).0
          (λ m lt a. c.in-Some.ensures.least m lt (subst (λ k. IsToAsk s.plan.nodes s.plan.invocations k m) (sym same) a))
          (λ m lt may. may.job (c.if-not-is_full.ensures ∙ ap (λ k. Some (open_bodies (run_of s) k)) same)) c.ask-in-Take.ensures.grown c.ask-in-Take.ensures.asked,
      c.ask-in-Take.ensures.rests,
    )

-- each job is taken, and no node is to be asked
pub returns-in_default-clause-can : goal.returns-in_default-clause-can
returns-in_default-clause-can g c =
    let s = g.P.Naming.start in
    let same = ap (λ v. v.items) c.in-Take.ensures.same.0 in
    subst (λ k. IsIdle (run_of s) k idle.Jobs) (sym same)
    (sym c.if-is_caught.ensures, (c.in-Take.node, inl c.in-Take.ensures.turn.1.ready), subst (λ k. (n : ℕ) → IsToAsk s.plan.nodes s.plan.invocations k n → ⊥) same (none_to_ask s _ c.in_default.ensures.none), c.if-not-is_full.ensures ∙ ap (λ k. Some (open_bodies (run_of s) k)) same)

-- each ready node waits
pub returns-then-is_full-clause-can : goal.returns-then-is_full-clause-can
returns-then-is_full-clause-can g c =
    let s = g.P.Naming.start in
    let h = c.args.self.now.history.items in
    let same = ap (λ v. v.items) c.in-Wait.ensures.same.0 in
    let t = c.in-Wait.ensures.turn in
    subst (λ k. IsIdle (run_of s) k idle.Jobs) (sym same)
    (sym c.if-is_caught.ensures, (t.0.0, inl t.0.2), none_to_ask s h (λ n lt. (t.1 n lt).not_to_ask), c.if-is_full.ensures ∙ ap (λ k. Some (open_bodies (run_of s) k)) same)

pub returns-else-is_full-clause-can : goal.returns-else-is_full-clause-can
returns-else-is_full-clause-can g c =
    let s = g.P.Naming.start in
    let h = c.args.self.now.history.items in
    let same = ap (λ v. v.items) c.in-Wait.ensures.same.0 in
    let t = c.in-Wait.ensures.turn in
    let job = subst (λ k. MatchOption s.jobs (Unit {0}) (λ j. open_bodies (run_of s) k < j)) same c.if-is_full.ensures in
    subst (λ k. IsIdle (run_of s) k idle.Class) (sym same)
    (sym c.if-is_caught.ensures, (t.0.0, inl t.0.2), none_to_ask s h (λ n lt. (t.1 n lt).not_to_ask), not_full s.jobs (open_bodies (run_of s) h) job, each_waits s h t.1)

-- no node is ready or to be asked
pub returns-in-Nothing-clause-can : goal.returns-in-Nothing-clause-can
returns-in-Nothing-clause-can g c =
    let s = g.P.Naming.start in
    let h = c.args.self.now.history.items in
    let same = ap (λ v. v.items) c.in-Nothing.ensures.same.0 in
    subst (λ k. IsIdle (run_of s) k idle.Nothing) (sym same) (sym c.if-is_caught.ensures, nothing_due s h c.in-Nothing.ensures.turn)
