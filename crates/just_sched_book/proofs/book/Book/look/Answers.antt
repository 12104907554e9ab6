-- The entry was looked at, or a call of the host broke: the event may come with what was gained, and the account goes on.
use Rattle.std.proofs.Common.{arith, length, refl, sym, ◌∙◌, ap, eq-eqb}
use Rattle.just_sched_history.proofs.CachedMoves.{look_did}
use Rattle.just_sched_book.proofs.Looking.{look_may, look_stands, look_makes, look_fails}
use Rattle.just_sched_history.specs.Cached.{is_cached}
use Rattle.just_sched_history.specs.Nodes.{cache_at}
use Rattle.just_sched_history.specs.Start.{run_of}
use Rattle.just_sched_history.specs.declared.event.Event.TheVariants as event
use Rattle.just_sched_history.specs.declared.event.Outcome.TheVariants as outcome
use Rattle.just_sched_book.proofs.Accounts.{node_in, room_for, noted}
use Rattle.just_sched_history.proofs.Asking.{no_kept}
use Rattle.just_sched_book.proofs.Behind.{open_as, over_now}
use Rattle.just_sched_history.proofs.Due.{inside}
use Rattle.just_sched_history.proofs.Grows.{grows_one}
use Rattle.just_sched_book.proofs.Tallies.{tally_more, tally_done, unlooked_end}
use Rattle.just_sched_book.proofs.book.Book.look.Goals as goal

pub cache-requires-clause-within : goal.cache-requires-clause-within
cache-requires-clause-within g c =
    let s = c.args.self.now in
    omega (arith, node_in s.account c.args.node (inside s.history.items c.args.node c.requires.inside).is_open, ap (λ p. length p.nodes) s.plan_named)

pub cache-requires-clause-cached : goal.cache-requires-clause-cached
cache-requires-clause-cached g c = ap (λ p. is_cached p.nodes c.args.node) c.args.self.now.plan_named ∙ c.requires.cached

pub note-requires-clause-room : goal.note-requires-clause-room
note-requires-clause-room g c =
    let s = c.args.self.now in
    let at = sym (ap (λ p. cache_at p.nodes c.args.node) s.plan_named) ∙ c.cache.ensures in
    omega (arith, room_for s.account (event.Looked c.args.node c.in-Ok.sums c.in-Ok.seen) (look_may (run_of g.P.Naming.start) s.history.items c.args.node c.cache.result.now at c.in-Ok.sums c.in-Ok.seen (c.requires.inside, c.requires.cached, c.requires.fresh) c.in-Ok.ensures.gains.2.0), s.roomy, s.history.ok.0)

pub note-requires-in-Err-clause-room : goal.note-requires-in-Err-clause-room
note-requires-in-Err-clause-room g c =
    let s = c.args.self.now in
    let at = sym (ap (λ p. cache_at p.nodes c.args.node) s.plan_named) ∙ c.cache.ensures in
    let fails = look_fails (run_of g.P.Naming.start) s.history.items c.args.node c.cache.result.now at c.in-Err.reason c.in-Err.ensures.gains.0 (c.requires.inside, c.requires.cached, c.requires.fresh) c.in-Err.ensures.gains.2 in
    omega (arith, room_for s.account (event.Done c.args.node (outcome.Failed c.in-Err.reason)) fails.0, s.roomy, s.history.ok.0)

pub invariant_of-self-clause-account : goal.invariant_of-self-clause-account
invariant_of-self-clause-account g c =
    let s = c.args.self.now in
    let at = sym (ap (λ p. cache_at p.nodes c.args.node) s.plan_named) ∙ c.cache.ensures in
    noted s.account _ c.in-Ok.ensures.gains.0 _ _ (event.Looked c.args.node c.in-Ok.sums c.in-Ok.seen) c.note.ensures.items c.in-Ok.ensures.gains.1 (look_may (run_of g.P.Naming.start) s.history.items c.args.node c.cache.result.now at c.in-Ok.sums c.in-Ok.seen (c.requires.inside, c.requires.cached, c.requires.fresh) c.in-Ok.ensures.gains.2.0)
    (look_stands (run_of g.P.Naming.start) s.history.items c.args.node c.cache.result.now at c.in-Ok.sums c.in-Ok.seen c.in-Ok.ensures.gains.0 c.in-Ok.ensures.gains.2.1)
    (λ z none. look_makes (run_of g.P.Naming.start) s.history.items c.args.node c.cache.result.now at c.in-Ok.sums c.in-Ok.seen _ _ (c.in-Ok.ensures.gains.3 none)) (omega (arith, c.in-Ok.ensures.spare)) refl

pub invariant_of-self-in-Err-clause-account : goal.invariant_of-self-in-Err-clause-account
invariant_of-self-in-Err-clause-account g c =
    let s = c.args.self.now in
    let at = sym (ap (λ p. cache_at p.nodes c.args.node) s.plan_named) ∙ c.cache.ensures in
    let fails = look_fails (run_of g.P.Naming.start) s.history.items c.args.node c.cache.result.now at c.in-Err.reason c.in-Err.ensures.gains.0 (c.requires.inside, c.requires.cached, c.requires.fresh) c.in-Err.ensures.gains.2 in
    noted s.account _ c.in-Err.ensures.gains.0 _ _ (event.Done c.args.node (outcome.Failed c.in-Err.reason)) c.note-in-Err.ensures.items c.in-Err.ensures.gains.1 fails.0 fails.1
    (λ z none. c.in-Err.ensures.gains.3 none) (omega (arith, c.in-Err.ensures.spare)) refl

pub returns-in-Ok-clause-grown : goal.returns-in-Ok-clause-grown
returns-in-Ok-clause-grown g c = grows_one c.args.self.now.history.items _ (event.Looked c.args.node c.in-Ok.sums c.in-Ok.seen) c.args.node c.note.ensures.items (eq-eqb c.args.node c.args.node refl)

pub returns-in-Err-clause-grown : goal.returns-in-Err-clause-grown
returns-in-Err-clause-grown g c = grows_one c.args.self.now.history.items _ (event.Done c.args.node (outcome.Failed c.in-Err.reason)) c.args.node c.note-in-Err.ensures.items (eq-eqb c.args.node c.args.node refl)

pub returns-in-Ok-clause-opened : goal.returns-in-Ok-clause-opened
returns-in-Ok-clause-opened g c =
    let s = c.args.self.now in
    open_as s.history.items _ (event.Looked c.args.node c.in-Ok.sums c.in-Ok.seen) c.args.node c.note.ensures.items refl refl ∙ (inside s.history.items c.args.node c.requires.inside).is_open

pub returns-in-Err-clause-opened : goal.returns-in-Err-clause-opened
returns-in-Err-clause-opened g c =
    let s = c.args.self.now in
    open_as s.history.items _ (event.Done c.args.node (outcome.Failed c.in-Err.reason)) c.args.node c.note-in-Err.ensures.items refl refl ∙ (inside s.history.items c.args.node c.requires.inside).is_open

pub returns-in-Ok-clause-did : goal.returns-in-Ok-clause-did
returns-in-Ok-clause-did g c = look_did c.args.self.now.history.items _ c.args.node c.in-Ok.sums c.in-Ok.seen c.note.ensures.items c.requires.inside c.requires.unbegun c.requires.still

pub returns-in-Err-clause-did : goal.returns-in-Err-clause-did
returns-in-Err-clause-did g c = over_now c.args.self.now.history.items _ c.args.node (outcome.Failed c.in-Err.reason) c.note-in-Err.ensures.items

pub invariant_of-self-clause-tallied : goal.invariant_of-self-clause-tallied
invariant_of-self-clause-tallied g c = tally_more c.args.self.now.history.items _ (event.Looked c.args.node c.in-Ok.sums c.in-Ok.seen) _ _ c.note.ensures.items c.args.self.now.tallied refl

pub invariant_of-self-in-Err-clause-tallied : goal.invariant_of-self-in-Err-clause-tallied
invariant_of-self-in-Err-clause-tallied g c =
    let s = c.args.self.now in
    tally_done s.history.items _ c.args.node (outcome.Failed c.in-Err.reason) _ c.note-in-Err.ensures.items (unlooked_end c.cache.result.now c.args.node c.in-Err.reason c.in-Err.ensures.gains.0 c.in-Err.ensures.gains.2) s.tallied

pub invariant_of-self-clause-answered : goal.invariant_of-self-clause-answered
invariant_of-self-clause-answered g c = no_kept c.args.self.now.history.items _ (event.Looked c.args.node c.in-Ok.sums c.in-Ok.seen) c.note.ensures.items (λ k. refl) c.args.self.now.answered

pub invariant_of-self-in-Err-clause-answered : goal.invariant_of-self-in-Err-clause-answered
invariant_of-self-in-Err-clause-answered g c = no_kept c.args.self.now.history.items _ (event.Done c.args.node (outcome.Failed c.in-Err.reason)) c.note-in-Err.ensures.items (λ k. refl) c.args.self.now.answered
