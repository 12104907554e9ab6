-- An event is noted where it is added, and the run's progress goes on by it.
use Rattle.std.proofs.Common.{◌≡◌, ℕ, [], ◌∷◌, ◌++◌, true, arith, sym, subst, ap, ◌∙◌, ◌||◌}
use Rattle.std.proofs.Math.Logic.{∥∥₁_map}
use Rattle.just_sched_history.specs.Classes.{AreClasses, AreOpen}
use Rattle.just_sched_history.specs.Rows.{IsTable}
use Rattle.just_sched_history.specs.Tables.{flag}
use Rattle.just_sched_history.proofs.OneMore.{confirmed_kept, confirmed_new, confirmed_was}
use Rattle.just_sched_history.specs.State.{names, skips, concludes_well, is_over_well, is_confirmed, has_taken, is_done}
use Rattle.just_sched_history.proofs.Plainly.{placed_of, closed_of}
use Rattle.just_sched_history.proofs.RowLaws.{few_ended, few_starts}
use Rattle.just_sched_history.proofs.TablesLaws.{rows_of, classes_of, left_kept}
use Rattle.just_sched_history.proofs.Tests.{any_more, unless}
use Rattle.just_sched_history.proofs.noting.note.Goals as goal

pub mark-requires : goal.mark-requires
mark-requires c = record {
  few_starts = λ n d lt. omega (arith, few_starts c.args.history.now.items c.args.tables.now.rows.items (rows_of c.requires.noted) n d lt, c.args.history.now.ok.0, c.args.history.now.small);
  few = λ n d lt. omega (arith, few_ended c.args.history.now.items c.args.tables.now.rows.items (rows_of c.requires.noted) n d lt, c.args.history.now.ok.0, c.args.history.now.small);
}

pub go_on-requires-clause-placed : goal.go_on-requires-clause-placed
go_on-requires-clause-placed c = placed_of c.args.plan.now.nodes c.args.plan.now.invocations c.args.history.now.items c.args.tables.now c.requires.noted

pub go_on-requires-clause-closed : goal.go_on-requires-clause-closed
go_on-requires-clause-closed c = closed_of c.args.plan.now.nodes c.args.plan.now.invocations c.args.history.now.items c.args.tables.now c.requires.noted

pub returns-clause-noted : goal.returns-clause-noted
returns-clause-noted c =
    let h = c.args.history.now.items in
    let grew = c.push_reserved.ensures.items in
    ∥∥₁_map c.requires.noted (λ n. record {
      rows = subst (λ k. IsTable k c.mark.new.rows.items) (sym grew) (c.mark.ensures.table h (omega (arith, c.len.ensures, c.args.history.now.ok.0)) n.rows);
      placed = c.hear.ensures.placed;
      closed = c.hear.ensures.closed;
      none = c.hear.ensures.none (c.go_on.ensures.none n.none);
      told =
          let later = λ (k : ℕ) (sure : is_confirmed c.args.plan.now.nodes h k ≡ true). subst (λ l. is_confirmed c.args.plan.now.nodes l k ≡ true) (sym grew) (confirmed_kept c.args.plan.now.nodes h c.args.event k sure) in
          c.hear.ensures.told _ (λ k named. subst (λ l. is_confirmed c.args.plan.now.nodes l k ≡ true) (sym grew) (confirmed_new c.args.plan.now.nodes h c.args.event k (sym (c.confirmed_by-said.ensures k) ∙ named)))
          (c.go_on.ensures.told h _ (λ k. ap (λ l. is_over_well l k) grew ∙ any_more (λ x. skips k x || concludes_well k x) h c.args.event ∙ ap (λ b. is_over_well h k || b) (sym (c.over_by-over.ensures k))) later n.told);
      heard = λ k lt sure. c.hear.ensures.heard k lt
          (confirmed_was c.args.plan.now.nodes h c.args.event k (flag c.go_on.new.self.confirmed.items k) (names c.confirmed_by-said.result k) (c.confirmed_by-said.ensures k)
          (λ was. subst (λ v. flag v.items k ≡ true) (sym c.go_on.ensures.confirmed) (n.heard k (omega (arith, lt, c.hear.new.self.confirmed_sized, c.hear.ensures.size, c.go_on.ensures.size, c.args.tables.now.progress.confirmed_sized)) was)) (subst (λ l. is_confirmed c.args.plan.now.nodes l k ≡ true) grew sure));
      classes = n.classes;
      opened = subst (λ k. AreOpen c.args.plan.now.nodes k c.args.tables.now.classes.items c.mark_class.new.opened.items) (sym grew)
          (subst (λ ns. AreOpen c.args.plan.now.nodes (h ++ c.args.event ∷ []) ns c.mark_class.new.opened.items) c.as_slice.ensures.value
          (c.mark_class.ensures.opened h (subst (λ ns. AreClasses c.args.plan.now.nodes ns) (sym c.as_slice.ensures.value) n.classes) c.requires.classes (subst (λ ns. AreOpen c.args.plan.now.nodes h ns c.args.tables.now.opened.items) (sym c.as_slice.ensures.value) n.opened)));
      covered = c.hear.ensures.covered _ (c.go_on.ensures.covered _
          (λ m up left. n.covered m up (unless (has_taken h m || is_done h m) (has_taken c.push_reserved.new.self.items m || is_done c.push_reserved.new.self.items m)
          (λ was. subst (λ k. (has_taken k m || is_done k m) ≡ true) (sym grew) (left_kept h c.args.event m was)) left)));
      prompted = n.prompted;
      left = λ m lt. subst (λ k. (has_taken k m || is_done k m) ≡ true) (sym grew) (left_kept h c.args.event m (n.left m lt));
    })

pub mark_class-requires-clause-classes : goal.mark_class-requires-clause-classes
mark_class-requires-clause-classes c = subst (λ ns. ∥ AreClasses c.args.plan.now.nodes ns ∥₁) (sym c.as_slice.ensures.value) (classes_of c.requires.noted)
