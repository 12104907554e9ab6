-- Laws of what a book's tables say of each node.
use Rattle.std.proofs.Common.{◌==◌, ◌&&◌, not, if◌then◌else◌, get_or, ap₂, ◌≡◌, ℕ, ◌<◌, ◌||◌, Bool, true, false, List, [], ◌∷◌, ◌++◌, length, refl, sym, ap, ◌∙◌, arith}
use Rattle.std.proofs.Math.Bool.{Bool-set}
use Rattle.std.proofs.Math.Logic.{∥∥₁_elim, ∥∥₁_map}
use Rattle.std.specs.Prelude.{filter_map, Some, None, is_some, slice_index}
use Rattle.std.specs.List.{cons_option}
use Rattle.just_eval_closure.specs.WellFormed.{IsWellFormed}
use Rattle.just_sched_history.specs.declared.event.Event.{Event}
use Rattle.just_sched_history.specs.declared.event.Event.TheVariants as event
use Rattle.just_sched_history.specs.declared.event.Outcome.TheVariants as outcome
use Rattle.just_sched_history.specs.declared.event.Reason.{Reason}
use Rattle.just_sched_history.specs.declared.row.Row.{Row}
use Rattle.just_sched_history.specs.declared.plan_node.PlanNode.{PlanNode}
use Rattle.just_sched_history.specs.declared.tables.Tables.{Tables}
use Rattle.just_sched_history.specs.Nodes.{priors_at, subsequents_at, parallel_at}
use Rattle.just_sched_history.specs.Classes.{AreClasses, AreOpen}
use Rattle.just_sched_history.specs.Rows.{IsTable, IsNoted}
use Rattle.just_sched_history.specs.State.{has_taken, is_done, takes, concludes, first, reason_in, reason_of, has_failed, is_open, IsReady, is_over_well, is_confirmed, IsFinished, IsWanted, MayComeNext, finished, invoked, prior, subsequent}
use Rattle.just_sched_history.specs.Tables.{flag, FlagsAre, FlagsMean}
use Rattle.just_sched_history.proofs.Deciding.{meant, told_finished, told_wanted}
use Rattle.just_sched_history.proofs.PlanLaws.{shapes}
use Rattle.just_sched_history.proofs.RowLaws.{reason_in_row}
use Rattle.just_sched_history.proofs.Tests.{any_kept, either_way}
use Rattle.just_sched_history.proofs.Telling.{tells_finished, tells_wanted}
use Rattle.just_sched_history.proofs.WantedLaws.{leads_weaker}

-- the rows of tables that say what the history says
pub rows_of : {nodes : List PlanNode} {invocations : List ℕ} {h : List Event} {t : Tables} → ∥ IsNoted nodes invocations h t ∥₁ → ∥ IsTable h t.rows.items ∥₁
rows_of noted = ∥∥₁_map noted (λ n. n.rows)

-- the numbers of the classes, and which of them have an open body
pub classes_of : {nodes : List PlanNode} {invocations : List ℕ} {h : List Event} {t : Tables} → ∥ IsNoted nodes invocations h t ∥₁ → ∥ AreClasses nodes t.classes.items ∥₁
classes_of noted = ∥∥₁_map noted (λ n. n.classes)

pub opened_of : {nodes : List PlanNode} {invocations : List ℕ} {h : List Event} {t : Tables} → ∥ IsNoted nodes invocations h t ∥₁ → ∥ AreOpen nodes h t.classes.items t.opened.items ∥₁
opened_of noted = ∥∥₁_map noted (λ n. n.opened)

module _ (nodes : List PlanNode) (invocations : List ℕ) (h k : List Event) (same : (n : ℕ) → is_over_well h n ≡ true → is_over_well k n ≡ true) where
  -- a finished node is so by each history that has no fewer nodes over well
  pub finished_as : (n : ℕ) → IsFinished nodes h n → IsFinished nodes k n
  finished_as n (finished m over behind) = finished m (same m over) (λ q c. finished_as q (behind q c))

  leads_as : (together : Bool) (xs : List ℕ) (n : ℕ) → MayComeNext (IsFinished nodes h) together xs n → MayComeNext (IsFinished nodes k) together xs n
  leads_as together xs n = leads_weaker (IsFinished nodes h) (IsFinished nodes k) together xs n (λ j lt f. finished_as (slice_index xs j) f)

  -- so is a wanted node, where who was confirmed is so
  pub wanted_as : ((n : ℕ) → is_confirmed nodes h n ≡ true → is_confirmed nodes k n ≡ true) → (n : ℕ) → IsWanted nodes invocations h n → IsWanted nodes invocations k n
  wanted_as sure n (invoked m leads) = invoked m (leads_as false invocations m leads)
  wanted_as sure n (prior m q wanted was leads) = prior m q (wanted_as sure m wanted) (sure m was) (leads_as (parallel_at nodes m) (priors_at nodes m) q leads)
  wanted_as sure n (subsequent m q over leads) =
      subsequent m q (same m over) (leads_as (parallel_at nodes m) (subsequents_at nodes m) q leads)

-- two tests each of which gives the other are one
same_truth : (a b : Bool) → (a ≡ true → b ≡ true) → (b ≡ true → a ≡ true) → a ≡ b
same_truth true b f g = sym (f refl)
same_truth false true f g = g refl
same_truth false false f g = refl

-- ---- what the tables give

module _ (nodes : List PlanNode) (invocations : List ℕ) (h : List Event) (t : Tables) (well : ∥ IsWellFormed (shapes nodes) invocations ∥₁)
    (noted : ∥ IsNoted nodes invocations h t ∥₁) (sized : t.size ≡ length nodes) where
  over_sized : length t.progress.over.items ≡ length nodes
  over_sized = omega (arith, t.progress.over_sized, t.progress_sized, sized)

  wanted_sized : length t.progress.wanted.items ≡ length nodes
  wanted_sized = omega (arith, t.progress.wanted_sized, t.progress_sized, sized)

  confirmed_sized : length t.progress.confirmed.items ≡ length nodes
  confirmed_sized = omega (arith, t.progress.confirmed_sized, t.progress_sized, sized)

  -- who is confirmed is flagged so
  heard_of : IsNoted nodes invocations h t → (k : ℕ) → k < length nodes → is_confirmed nodes h k ≡ true → flag t.progress.confirmed.items k ≡ true
  heard_of n k lt sure = n.heard k (omega (arith, lt, confirmed_sized)) sure

  -- the flags of the confirmed nodes
  pub confirmed_of : FlagsAre t.progress.confirmed.items (is_confirmed nodes h)
  confirmed_of k lt = ∥∥₁_elim noted (Bool-set _ _) (λ n. same_truth (flag t.progress.confirmed.items k) (is_confirmed nodes h k) (n.told.confirmed k) (n.heard k lt))

  -- the flags of the finished nodes
  pub finished_of : FlagsMean t.progress.finished.items (IsFinished nodes h)
  finished_of =
      meant t.progress.finished.items (IsFinished nodes h) (told_finished nodes invocations well h)
      (∥∥₁_map noted (λ n. tells_finished nodes invocations well h t.progress over_sized wanted_sized n.told (heard_of n) n.closed n.none (omega (arith, t.progress.finished_sized, t.progress_sized, sized))))

  -- the flags of the wanted nodes
  pub wanted_of : FlagsMean t.progress.wanted.items (IsWanted nodes invocations h)
  wanted_of =
      meant t.progress.wanted.items (IsWanted nodes invocations h) (told_wanted nodes invocations well h)
      (∥∥₁_map noted (λ n. tells_wanted nodes invocations well h t.progress over_sized wanted_sized n.told (heard_of n) n.closed n.none))

-- who took a job or is done stays so
pub left_kept : (h : List Event) (e : Event) (m : ℕ) → (has_taken h m || is_done h m) ≡ true → (has_taken (h ++ e ∷ []) m || is_done (h ++ e ∷ []) m) ≡ true
left_kept h e m = either_way (has_taken h m) (is_done h m) (has_taken (h ++ e ∷ []) m) (is_done (h ++ e ∷ []) m) (any_kept (takes m) h e) (any_kept (concludes m) h e)

-- none of them is ready
pub left_not_ready : (nodes : List PlanNode) (invocations : List ℕ) (h : List Event) (left : ℕ) → ((m : ℕ) → m < left → (has_taken h m || is_done h m) ≡ true) → (n : ℕ) → n < left → IsReady nodes invocations h n → ⊥
left_not_ready nodes invocations h left before n lt ready =
    let clash : false ≡ true = sym (ap₂ (λ a b. a || b) ready.not_taken ready.not_done) ∙ before n lt in
    cc

-- the nodes before the first that is left
pub left_of : (nodes : List PlanNode) (invocations : List ℕ) (h : List Event) (t : Tables) → ∥ IsNoted nodes invocations h t ∥₁ → (m : ℕ) → m < t.left → (has_taken h m || is_done h m) ≡ true
left_of nodes invocations h t noted m lt = ∥∥₁_elim noted (Bool-set _ _) (λ n. n.left m lt)

-- a node failed where there is a reason of it, by the first event
failed_at : (b c : Bool) (r : Reason) (rs : List Reason) → is_some (first rs) ≡ c → is_some (first (cons_option (if b then Some r else None) rs)) ≡ (b || c)
failed_at true c r rs e = refl
failed_at false c r rs e = e

-- a node failed where there is a reason of it
failed_reason : (h : List Event) (n : ℕ) → is_some (reason_of h n) ≡ has_failed h n
failed_reason [] n = refl
failed_reason (event.Done m outcome.Well ∷ h) n = failed_reason h n
failed_reason (event.Done m (outcome.Failed r) ∷ h) n = failed_at (m == n) (has_failed h n) r (filter_map (reason_in n) h) (failed_reason h n)
failed_reason (_ ∷ h) n = failed_reason h n

-- whether a node failed, by its row
pub failed_row : (h : List Event) (rows : List Row) → ∥ IsTable h rows ∥₁ → (n : ℕ) (d : Row) → n < length rows → is_some (get_or rows n d).reason ≡ has_failed h n
failed_row h rows table n d lt = ap (λ o. is_some o) (reason_in_row h rows table n d lt) ∙ failed_reason h n

-- whether its body is open
pub open_row : (h : List Event) (rows : List Row) → ∥ IsTable h rows ∥₁ → (n : ℕ) (d : Row) → n < length rows → ((get_or rows n d).taken && not (get_or rows n d).given) ≡ is_open h n
open_row h rows table n d lt = ∥∥₁_elim table (Bool-set _ _) (λ t. ap₂ (λ a b. a && not b) (t n d lt).taken (t n d lt).given)
