-- The error that is told of a node.
use Rattle.std.proofs.Common.{◌≡◌, ℕ, Bool, true, inl, inr, List, Option, Some, slice_get, refl, ap, sym, ◌∙◌, subst}
use Rattle.just_sched_history.specs.declared.event.Event.{Event}
use Rattle.just_sched_history.specs.declared.event.Reason.{Reason}
use Rattle.just_sched_history.specs.declared.plan_node.PlanNode.{PlanNode}
use Rattle.just_sched_history.specs.State.{reason_of}
use Rattle.just_exec.specs.declared.error.Error.{Error}
use Rattle.just_exec.specs.declared.error.Error.TheVariants as error
use Rattle.just_cli_plan.specs.Outcome.{shown_at, failure_error, is_told, error_in, node_error, copies_text, IsToldAs}

module _ (nodes : List PlanNode) (messages : List Bool) (h : List Event) (n : ℕ) (x : PlanNode) (message : Bool) (o : Option Reason) (there : slice_get nodes n ≡ Some x) (told : message ≡ is_told messages n) (why : o ≡ reason_of h n) where
  is_node : node_error nodes messages h n ≡ failure_error x message (shown_at h n) o
  is_node = ap (λ (k : Option PlanNode). error_in k (is_told messages n) h n) there ∙ (ap (λ (m : Bool). failure_error x m (shown_at h n) (reason_of h n)) (sym told) ∙ ap (λ (r : Option Reason). failure_error x message (shown_at h n) r) (sym why))

  -- the error of the node there
  pub told_node : (e : Error) → e ≡ failure_error x message (shown_at h n) o → IsToldAs (node_error nodes messages h n) e
  told_node e is = inl (is ∙ sym is_node)

  -- a text that couldn't be copied for it
  pub untold_node : copies_text (failure_error x message (shown_at h n) o) ≡ true → IsToldAs (node_error nodes messages h n) error.NoMemory
  untold_node copies = inr (subst (λ (e : Error). copies_text e ≡ true) (sym is_node) copies, refl)
