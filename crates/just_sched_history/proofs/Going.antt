-- What the flags of a run say once an event is noted.
use Rattle.std.proofs.Common.{◌≡◌, ℕ, ◌<◌, ⊎_elim, ◌==◌, ◌||◌, true, false, List, length, set, get_or-set_same, get_or-set_other, Option, Some, None, sym, ◌∙◌, ap, subst, arith}
use Rattle.just_sched_history.specs.declared.event.Event.{Event}
use Rattle.just_sched_history.specs.declared.plan_node.PlanNode.{PlanNode}
use Rattle.just_sched_history.specs.declared.progress.Progress.{Progress}
use Rattle.just_sched_history.specs.Progress.{IsTold}
use Rattle.just_sched_history.specs.Led.{AllFinished, AllConfirmed, AllWanted}
use Rattle.just_sched_history.specs.State.{names, is_over_well, is_confirmed}
use Rattle.just_sched_history.specs.Tables.{flag, FlagsAre}
use Rattle.just_sched_history.proofs.RowLaws.{same_or}
use Rattle.just_sched_history.proofs.TablesLaws.{finished_as, wanted_as}
use Rattle.just_sched_history.proofs.Tests.{or_false, or_true}

-- a number is its own, and none other's
pub same_is : (n : ℕ) → (n == n) ≡ true
same_is n = search (arith)

other_is : (m n : ℕ) → (n ≡ m → ⊥) → (m == n) ≡ false
other_is m n other = search (arith)

module _ (nodes : List PlanNode) (invocations : List ℕ) (h later : List Event) (o : Option ℕ)
    (by : (n : ℕ) → is_over_well later n ≡ (is_over_well h n || names o n)) (sure : (n : ℕ) → is_confirmed nodes h n ≡ true → is_confirmed nodes later n ≡ true) (p : Progress) (told : IsTold nodes invocations h p) where
  -- who was over well is so
  still_over : (n : ℕ) → is_over_well h n ≡ true → is_over_well later n ≡ true
  still_over n over = by n ∙ ap (λ b. b || names o n) over

  -- who was finished is so, and who was confirmed, and who was wanted
  pub finished_still : AllFinished nodes later p.finished.items
  finished_still k up = finished_as nodes invocations h later still_over k (told.finished k up)

  pub confirmed_still : AllConfirmed nodes later p.confirmed.items
  confirmed_still k up = sure k (told.confirmed k up)

  pub wanted_still : AllWanted nodes invocations later p.wanted.items
  wanted_still k up = wanted_as nodes invocations h later still_over sure k (told.wanted k up)

  -- where no node that has a flag is over well by the event, the flags say what they did
  pub told_still : ((k : ℕ) → k < length p.over.items → names o k ≡ false) → IsTold nodes invocations later p
  told_still never = record {
    over = λ k lt. told.over k lt ∙ sym (by k ∙ ap (λ b. is_over_well h k || b) (never k lt) ∙ or_false (is_over_well h k));
    finished = finished_still;
    confirmed = confirmed_still;
    wanted = wanted_still;
  }

  -- where one is, its flag is to be raised
  pub over_raised : (node : ℕ) → o ≡ Some node → node < length p.over.items → length (set p.over.items node true) ≡ length p.over.items → FlagsAre (set p.over.items node true) (is_over_well later)
  over_raised node is lt sized k less =
      ⊎_elim
      (λ (same : k ≡ node).
      subst (λ i. flag (set p.over.items node true) i ≡ is_over_well later i) (sym same)
      (get_or-set_same p.over.items node true false lt ∙ sym (by node ∙ ap (λ x. is_over_well h node || names x node) is ∙ ap (λ b. is_over_well h node || b) (same_is node) ∙ or_true (is_over_well h node))))
      (λ (other : k ≡ node → ⊥).
      get_or-set_other p.over.items node k true false other ∙ told.over k (omega (arith, less, sized))
      ∙ sym (by k ∙ ap (λ x. is_over_well h k || names x k) is ∙ ap (λ b. is_over_well h k || b) (other_is node k other) ∙ or_false (is_over_well h k)))
      (same_or k node)

-- none names no number
pub names_none : (o : Option ℕ) → o ≡ None → (n : ℕ) → names o n ≡ false
names_none o is n = ap (λ x. names x n) is

-- a number past the last one names none that is there
pub names_past : (o : Option ℕ) (node size : ℕ) → o ≡ Some node → (node < size → ⊥) → (k : ℕ) → k < size → names o k ≡ false
names_past o node size is past k lt = ap (λ x. names x k) is ∙ other_is node k (λ same. past (subst (λ i. i < size) same lt))
