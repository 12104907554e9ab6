-- The entry was saved, or a call of the host broke: the event may come with what was gained, and the account goes on.
use Rattle.std.proofs.Common.{arith, length, refl, sym, subst, ◌∙◌, ap, Ok, Err, eq-eqb}
use Rattle.just_sched_book.specs.Gains.{SaveGains}
use Rattle.just_sched_history.specs.Rows.{IsTable}
use Rattle.just_sched_history.specs.Cached.{is_looked_at, is_cached}
use Rattle.just_sched_history.proofs.TablesLaws.{rows_of}
use Rattle.just_sched_history.proofs.CachedMoves.{save_did, seen_of}
use Rattle.just_sched_book.proofs.Accounts.{looked_here, node_in, room_for, noted}
use Rattle.just_sched_book.proofs.Looking.{save_stands, save_makes, save_fails, sums_are}
use Rattle.just_sched_history.specs.Nodes.{cache_at}
use Rattle.just_sched_history.specs.Start.{run_of}
use Rattle.just_sched_history.specs.declared.event.Event.TheVariants as event
use Rattle.just_sched_history.specs.declared.event.Outcome.TheVariants as outcome
use Rattle.just_sched_history.proofs.Asking.{no_kept}
use Rattle.just_sched_book.proofs.Behind.{open_as, over_now}
use Rattle.just_sched_history.proofs.Due.{inside}
use Rattle.just_sched_history.proofs.Grows.{grows_one}
use Rattle.just_sched_book.proofs.Tallies.{tally_more, tally_done, unsaved_end}
use Rattle.just_sched_book.proofs.book.Book.save.Goals as goal

pub cache-requires-clause-within : goal.cache-requires-clause-within
cache-requires-clause-within g c =
    let s = c.args.self.now in
    omega (arith, node_in s.account c.args.node (inside s.history.items c.args.node c.requires.inside).is_open, ap (λ p. length p.nodes) s.plan_named)

pub cache-requires-clause-cached : goal.cache-requires-clause-cached
cache-requires-clause-cached g c = ap (λ p. is_cached p.nodes c.args.node) c.args.self.now.plan_named ∙ c.requires.cached

pub note-requires-clause-room : goal.note-requires-clause-room
note-requires-clause-room g c =
    let s = c.args.self.now in
    let at = sym (ap (λ p. cache_at p.nodes c.args.node) s.plan_named) ∙ c.cache.ensures in
    omega (arith, room_for s.account (event.Saved c.args.node) ((c.requires.inside, c.requires.begun, c.requires.still, c.requires.well, c.requires.cached, c.requires.fresh)), s.roomy, s.history.ok.0)

pub note-requires-in-Err-clause-room : goal.note-requires-in-Err-clause-room
note-requires-in-Err-clause-room g c =
    let s = c.args.self.now in
    let at = sym (ap (λ p. cache_at p.nodes c.args.node) s.plan_named) ∙ c.cache.ensures in
    let fails = let seen = (seen_of s.history.items c.args.node (looked_here s.account c.args.node c.requires.cached c.requires.begun)).0 in let seen_is = (seen_of s.history.items c.args.node (looked_here s.account c.args.node c.requires.cached c.requires.begun)).1 in save_fails (run_of g.P.Naming.start) s.history.items c.args.node c.cache.result.now at seen seen_is c.in-Err.reason c.in-Err.ensures.gains.0 (c.requires.inside, c.requires.begun, c.requires.still, c.requires.well, c.requires.cached, c.requires.fresh) (subst (λ k. SaveGains c.cache.result.now k (Err c.in-Err.reason) c.in-Err.ensures.gains.0) (sums_are s.history.items _ c.args.node c.seen_sums-sums.result.now seen c.as_slice.ensures.value seen_is c.seen_sums-sums.ensures) c.in-Err.ensures.gains.2) in
    omega (arith, room_for s.account (event.Done c.args.node (outcome.Failed c.in-Err.reason)) fails.0, s.roomy, s.history.ok.0)

pub invariant_of-self-clause-account : goal.invariant_of-self-clause-account
invariant_of-self-clause-account g c =
    let s = c.args.self.now in
    let at = sym (ap (λ p. cache_at p.nodes c.args.node) s.plan_named) ∙ c.cache.ensures in
    noted s.account _ c.in-Ok.ensures.gains.0 _ _ (event.Saved c.args.node) c.note.ensures.items c.in-Ok.ensures.gains.1 ((c.requires.inside, c.requires.begun, c.requires.still, c.requires.well, c.requires.cached, c.requires.fresh))
    (let seen = (seen_of s.history.items c.args.node (looked_here s.account c.args.node c.requires.cached c.requires.begun)).0 in let seen_is = (seen_of s.history.items c.args.node (looked_here s.account c.args.node c.requires.cached c.requires.begun)).1 in save_stands (run_of g.P.Naming.start) s.history.items c.args.node c.cache.result.now at seen seen_is c.in-Ok.ensures.gains.0 (subst (λ k. SaveGains c.cache.result.now k (Ok tt) c.in-Ok.ensures.gains.0) (sums_are s.history.items _ c.args.node c.seen_sums-sums.result.now seen c.as_slice.ensures.value seen_is c.seen_sums-sums.ensures) c.in-Ok.ensures.gains.2))
    (λ z none. let seen = seen_of s.history.items c.args.node (looked_here s.account c.args.node c.requires.cached c.requires.begun) in save_makes (run_of g.P.Naming.start) s.history.items c.args.node c.cache.result.now at seen.0 seen.1 c.seen_sums-sums.result.now _ _ (sums_are s.history.items _ c.args.node c.seen_sums-sums.result.now seen.0 c.as_slice.ensures.value seen.1 c.seen_sums-sums.ensures) (c.in-Ok.ensures.gains.3 none)) (omega (arith, c.in-Ok.ensures.spare)) refl

pub invariant_of-self-in-Err-clause-account : goal.invariant_of-self-in-Err-clause-account
invariant_of-self-in-Err-clause-account g c =
    let s = c.args.self.now in
    let at = sym (ap (λ p. cache_at p.nodes c.args.node) s.plan_named) ∙ c.cache.ensures in
    let fails = let seen = (seen_of s.history.items c.args.node (looked_here s.account c.args.node c.requires.cached c.requires.begun)).0 in let seen_is = (seen_of s.history.items c.args.node (looked_here s.account c.args.node c.requires.cached c.requires.begun)).1 in save_fails (run_of g.P.Naming.start) s.history.items c.args.node c.cache.result.now at seen seen_is c.in-Err.reason c.in-Err.ensures.gains.0 (c.requires.inside, c.requires.begun, c.requires.still, c.requires.well, c.requires.cached, c.requires.fresh) (subst (λ k. SaveGains c.cache.result.now k (Err c.in-Err.reason) c.in-Err.ensures.gains.0) (sums_are s.history.items _ c.args.node c.seen_sums-sums.result.now seen c.as_slice.ensures.value seen_is c.seen_sums-sums.ensures) c.in-Err.ensures.gains.2) in
    noted s.account _ c.in-Err.ensures.gains.0 _ _ (event.Done c.args.node (outcome.Failed c.in-Err.reason)) c.note-in-Err.ensures.items c.in-Err.ensures.gains.1 fails.0 fails.1
    (λ z none. c.in-Err.ensures.gains.3 none) (omega (arith, c.in-Err.ensures.spare)) refl

pub returns-in-Ok-clause-grown : goal.returns-in-Ok-clause-grown
returns-in-Ok-clause-grown g c = grows_one c.args.self.now.history.items _ (event.Saved c.args.node) c.args.node c.note.ensures.items (eq-eqb c.args.node c.args.node refl)

pub returns-in-Err-clause-grown : goal.returns-in-Err-clause-grown
returns-in-Err-clause-grown g c = grows_one c.args.self.now.history.items _ (event.Done c.args.node (outcome.Failed c.in-Err.reason)) c.args.node c.note-in-Err.ensures.items (eq-eqb c.args.node c.args.node refl)

pub returns-in-Ok-clause-opened : goal.returns-in-Ok-clause-opened
returns-in-Ok-clause-opened g c =
    let s = c.args.self.now in
    open_as s.history.items _ (event.Saved c.args.node) c.args.node c.note.ensures.items refl refl ∙ (inside s.history.items c.args.node c.requires.inside).is_open

pub returns-in-Err-clause-opened : goal.returns-in-Err-clause-opened
returns-in-Err-clause-opened g c =
    let s = c.args.self.now in
    open_as s.history.items _ (event.Done c.args.node (outcome.Failed c.in-Err.reason)) c.args.node c.note-in-Err.ensures.items refl refl ∙ (inside s.history.items c.args.node c.requires.inside).is_open

pub returns-in-Ok-clause-did : goal.returns-in-Ok-clause-did
returns-in-Ok-clause-did g c = save_did g.P.Naming.start.plan.nodes c.args.self.now.history.items _ c.args.node c.note.ensures.items c.requires.inside c.requires.begun c.requires.still c.requires.well

pub returns-in-Err-clause-did : goal.returns-in-Err-clause-did
returns-in-Err-clause-did g c = over_now c.args.self.now.history.items _ c.args.node (outcome.Failed c.in-Err.reason) c.note-in-Err.ensures.items

pub invariant_of-self-clause-tallied : goal.invariant_of-self-clause-tallied
invariant_of-self-clause-tallied g c = tally_more c.args.self.now.history.items _ (event.Saved c.args.node) _ _ c.note.ensures.items c.args.self.now.tallied refl

pub invariant_of-self-in-Err-clause-tallied : goal.invariant_of-self-in-Err-clause-tallied
invariant_of-self-in-Err-clause-tallied g c =
    let s = c.args.self.now in
    tally_done s.history.items _ c.args.node (outcome.Failed c.in-Err.reason) _ c.note-in-Err.ensures.items (unsaved_end c.cache.result.now _ c.args.node c.in-Err.reason c.in-Err.ensures.gains.0 c.in-Err.ensures.gains.2) s.tallied

pub invariant_of-self-clause-answered : goal.invariant_of-self-clause-answered
invariant_of-self-clause-answered g c = no_kept c.args.self.now.history.items _ (event.Saved c.args.node) c.note.ensures.items (λ k. refl) c.args.self.now.answered

pub invariant_of-self-in-Err-clause-answered : goal.invariant_of-self-in-Err-clause-answered
invariant_of-self-in-Err-clause-answered g c = no_kept c.args.self.now.history.items _ (event.Done c.args.node (outcome.Failed c.in-Err.reason)) c.note-in-Err.ensures.items (λ k. refl) c.args.self.now.answered

pub seen_sums-sums-requires-clause-table : goal.seen_sums-sums-requires-clause-table
seen_sums-sums-requires-clause-table g c = subst (λ h. ∥ IsTable h c.args.self.now.tables.rows.items ∥₁) (sym c.as_slice.ensures.value) (rows_of c.args.self.now.noted)

pub seen_sums-sums-requires-clause-looked : goal.seen_sums-sums-requires-clause-looked
seen_sums-sums-requires-clause-looked g c =
    ap (λ h. is_looked_at h c.args.node) c.as_slice.ensures.value ∙ looked_here c.args.self.now.account c.args.node c.requires.cached c.requires.begun
