-- A body that is over gives its job back: its event may come, and the account goes on.
use Rattle.std.proofs.Common.{arith, refl, ap, ◌∙◌, eq-eqb}
use Rattle.just_sched_history.specs.Cached.{are_one_class}
use Rattle.just_sched_history.specs.declared.event.Event.TheVariants as event
use Rattle.just_sched_book.proofs.Accounts.{kept_of, some_taken, room_for, noted_alone, over_rests}
use Rattle.just_sched_history.proofs.Asking.{no_kept}
use Rattle.just_sched_history.proofs.CacheRules.{kept_apart}
use Rattle.just_sched_history.proofs.Grows.{grows_one}
use Rattle.just_sched_book.proofs.Behind.{gave_closes, running_as}
use Rattle.just_sched_book.proofs.Tallies.{tally_more}
use Rattle.just_sched_book.proofs.book.Book.give.Goals as goal

pub overflow_sub-self : goal.overflow_sub-self
overflow_sub-self g c = some_taken c.args.self.now.account c.args.node (c.requires.opened, c.requires.over)

pub note-requires-clause-room : goal.note-requires-clause-room
note-requires-clause-room g c =
    let s = c.args.self.now in
    omega (arith, room_for s.account (event.Gave c.args.node) (c.requires.opened, c.requires.over), s.roomy, s.history.ok.0)

pub invariant_of-self-clause-account : goal.invariant_of-self-clause-account
invariant_of-self-clause-account g c = noted_alone c.args.self.now.account _ (event.Gave c.args.node) c.note.ensures.items (c.requires.opened, c.requires.over) refl refl refl

pub returns-clause-grown : goal.returns-clause-grown
returns-clause-grown g c = grows_one c.args.self.now.history.items _ (event.Gave c.args.node) c.args.node c.note.ensures.items (eq-eqb c.args.node c.args.node refl)

pub returns-clause-rests : goal.returns-clause-rests
returns-clause-rests g c =
    let s = c.args.self.now in
    record {
      closed = gave_closes s.history.items _ c.args.node c.note.ensures.items;
      still = running_as s.history.items _ (event.Gave c.args.node) c.args.node c.note.ensures.items refl refl refl ∙ over_rests s.account c.args.node c.requires.over;
    }

pub invariant_of-self-clause-tallied : goal.invariant_of-self-clause-tallied
invariant_of-self-clause-tallied g c = tally_more c.args.self.now.history.items _ (event.Gave c.args.node) _ _ c.note.ensures.items c.args.self.now.tallied refl

pub invariant_of-self-clause-answered : goal.invariant_of-self-clause-answered
invariant_of-self-clause-answered g c = no_kept c.args.self.now.history.items _ (event.Gave c.args.node) c.note.ensures.items (λ k. refl) c.args.self.now.answered

pub note-requires-clause-classes : goal.note-requires-clause-classes
note-requires-clause-classes g c =
    let s = c.args.self.now in
    λ m ne o. ap (λ p. are_one_class p.nodes m c.args.node) s.plan_named ∙ kept_apart g.P.Naming.start s.history.items _ (kept_of s.account) m c.args.node ne o c.requires.opened
