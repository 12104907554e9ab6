-- A body is begun, or its banner couldn't be printed: the event may come with what was gained, and the account goes on.
use Rattle.std.proofs.Common.{◌≡◌, ◌++◌, arith, refl, ◌∙◌, ap, subst, length, Err, eq-eqb}
use Rattle.just_sched_book.specs.Gains.{TellGains}
use Rattle.just_sched_history.specs.Match.{printed_entries}
use Rattle.just_sched_history.specs.Nodes.{banner_at}
use Rattle.just_sched_history.specs.Start.{run_of}
use Rattle.just_sched_history.specs.declared.event.Event.TheVariants as event
use Rattle.just_sched_history.specs.declared.event.Outcome.TheVariants as outcome
use Rattle.just_sched_book.proofs.Accounts.{node_in, room_for, noted}
use Rattle.just_sched_history.proofs.Asking.{no_kept}
use Rattle.just_sched_book.proofs.Gained.{begin_fails}
use Rattle.just_sched_history.proofs.Grows.{grows_one}
use Rattle.just_sched_book.proofs.Behind.{begin_did, open_as, over_now}
use Rattle.just_sched_history.proofs.CachedMoves.{begun_of}
use Rattle.just_sched_history.proofs.Due.{inside}
use Rattle.just_sched_book.proofs.Tallies.{tally_more, tally_done, told_end}
use Rattle.just_sched_book.proofs.book.Book.begin.Goals as goal

pub banner-requires : goal.banner-requires
banner-requires g c =
    let s = c.args.self.now in
    omega (arith, node_in s.account c.args.node (inside s.history.items c.args.node c.requires.inside).is_open, ap (λ p. length p.nodes) s.plan_named)

pub note-requires-clause-room : goal.note-requires-clause-room
note-requires-clause-room g c =
    let s = c.args.self.now in
    omega (arith, room_for s.account (event.Begun c.args.node) (c.requires.inside, c.requires.fresh, c.requires.may), s.roomy, s.history.ok.0)

pub note-requires-in-Err-clause-room : goal.note-requires-in-Err-clause-room
note-requires-in-Err-clause-room g c =
    let s = c.args.self.now in
    let at = c.banner.ensures ∙ ap (λ p. banner_at p.nodes c.args.node) s.plan_named in
    let fails = begin_fails (Unit {0}) (run_of g.P.Naming.start) s.history.items c.args.node c.in-Err.reason c.in-Err.ensures.gains.0 (c.requires.inside, c.requires.fresh, c.requires.may) (subst (λ b. TellGains {A = Unit {0}} b (Err c.in-Err.reason) c.in-Err.ensures.gains.0) at c.in-Err.ensures.gains.2) in
    omega (arith, room_for s.account (event.Done c.args.node (outcome.Failed c.in-Err.reason)) fails.0, s.roomy, s.history.ok.0)

pub invariant_of-self-clause-account : goal.invariant_of-self-clause-account
invariant_of-self-clause-account g c =
    let s = c.args.self.now in
    let at = c.banner.ensures ∙ ap (λ p. banner_at p.nodes c.args.node) s.plan_named in
    noted s.account _ c.in-Ok.ensures.gains.0 _ _ (event.Begun c.args.node) c.note.ensures.items c.in-Ok.ensures.gains.1 (c.requires.inside, c.requires.fresh, c.requires.may)
    (begun_of (run_of g.P.Naming.start) s.history.items c.args.node (λ made. c.in-Ok.ensures.gains.0 ≡ made ++ printed_entries (banner_at g.P.Naming.start.plan.nodes c.args.node)) c.requires.may (c.in-Ok.ensures.gains.2 ∙ ap printed_entries at))
    (λ _ _. c.in-Ok.ensures.world) (omega (arith, c.in-Ok.ensures.spare)) refl

pub invariant_of-self-in-Err-clause-account : goal.invariant_of-self-in-Err-clause-account
invariant_of-self-in-Err-clause-account g c =
    let s = c.args.self.now in
    let at = c.banner.ensures ∙ ap (λ p. banner_at p.nodes c.args.node) s.plan_named in
    let fails = begin_fails (Unit {0}) (run_of g.P.Naming.start) s.history.items c.args.node c.in-Err.reason c.in-Err.ensures.gains.0 (c.requires.inside, c.requires.fresh, c.requires.may) (subst (λ b. TellGains {A = Unit {0}} b (Err c.in-Err.reason) c.in-Err.ensures.gains.0) at c.in-Err.ensures.gains.2) in
    noted s.account _ c.in-Err.ensures.gains.0 _ _ (event.Done c.args.node (outcome.Failed c.in-Err.reason)) c.note-in-Err.ensures.items c.in-Err.ensures.gains.1 fails.0 fails.1
    (λ _ _. c.in-Err.ensures.world) (omega (arith, c.in-Err.ensures.spare)) refl

pub returns-in-Ok-clause-grown : goal.returns-in-Ok-clause-grown
returns-in-Ok-clause-grown g c = grows_one c.args.self.now.history.items _ (event.Begun c.args.node) c.args.node c.note.ensures.items (eq-eqb c.args.node c.args.node refl)

pub returns-in-Err-clause-grown : goal.returns-in-Err-clause-grown
returns-in-Err-clause-grown g c = grows_one c.args.self.now.history.items _ (event.Done c.args.node (outcome.Failed c.in-Err.reason)) c.args.node c.note-in-Err.ensures.items (eq-eqb c.args.node c.args.node refl)

pub returns-in-Ok-clause-opened : goal.returns-in-Ok-clause-opened
returns-in-Ok-clause-opened g c =
    let s = c.args.self.now in
    open_as s.history.items _ (event.Begun c.args.node) c.args.node c.note.ensures.items refl refl ∙ (inside s.history.items c.args.node c.requires.inside).is_open

pub returns-in-Err-clause-opened : goal.returns-in-Err-clause-opened
returns-in-Err-clause-opened g c =
    let s = c.args.self.now in
    open_as s.history.items _ (event.Done c.args.node (outcome.Failed c.in-Err.reason)) c.args.node c.note-in-Err.ensures.items refl refl ∙ (inside s.history.items c.args.node c.requires.inside).is_open

pub returns-in-Ok-clause-did : goal.returns-in-Ok-clause-did
returns-in-Ok-clause-did g c = begin_did c.args.self.now.history.items _ c.args.node c.note.ensures.items c.requires.inside c.requires.still

pub returns-in-Err-clause-did : goal.returns-in-Err-clause-did
returns-in-Err-clause-did g c = over_now c.args.self.now.history.items _ c.args.node (outcome.Failed c.in-Err.reason) c.note-in-Err.ensures.items

pub invariant_of-self-clause-tallied : goal.invariant_of-self-clause-tallied
invariant_of-self-clause-tallied g c = tally_more c.args.self.now.history.items _ (event.Begun c.args.node) _ _ c.note.ensures.items c.args.self.now.tallied refl

pub invariant_of-self-in-Err-clause-tallied : goal.invariant_of-self-in-Err-clause-tallied
invariant_of-self-in-Err-clause-tallied g c =
    let s = c.args.self.now in
    tally_done s.history.items _ c.args.node (outcome.Failed c.in-Err.reason) _ c.note-in-Err.ensures.items (told_end (Unit {0}) _ c.args.node c.in-Err.reason c.in-Err.ensures.gains.0 c.in-Err.ensures.gains.2) s.tallied

pub invariant_of-self-clause-answered : goal.invariant_of-self-clause-answered
invariant_of-self-clause-answered g c = no_kept c.args.self.now.history.items _ (event.Begun c.args.node) c.note.ensures.items (λ k. refl) c.args.self.now.answered

pub invariant_of-self-in-Err-clause-answered : goal.invariant_of-self-in-Err-clause-answered
invariant_of-self-in-Err-clause-answered g c = no_kept c.args.self.now.history.items _ (event.Done c.args.node (outcome.Failed c.in-Err.reason)) c.note-in-Err.ensures.items (λ k. refl) c.args.self.now.answered
