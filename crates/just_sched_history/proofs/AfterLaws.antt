-- The step after some statuses, by their number and the last of them.
use Rattle.std.proofs.Common.{◌≡◌, ℕ, suc, ◌-◌, List, [], ◌∷◌, length, refl, sym, ◌∙◌, ap, sub-one}
use Rattle.std.specs.Prelude.{Option, Some, None, slice_get}
use Rattle.std.specs.List.{last_or}
use Rattle.just_host_record.specs.declared.entry.Status.{Status}
use Rattle.just_exec_work.specs.declared.work.Command.{Command}
use Rattle.just_exec_work.specs.declared.work.Work.{Work}
use Rattle.just_sched_history.specs.declared.event.Event.{Event}
use Rattle.just_sched_history.specs.declared.plan_node.PlanNode.{PlanNode}
use Rattle.just_sched_history.specs.Nodes.{work_in}
use Rattle.just_sched_history.specs.State.{statuses, next_step}
use Rattle.just_exec_work.specs.Steps.{after, step_behind, commands_of, start_or_well}

-- the last item by its place
pub last_or-cons : {A : Type 0} (x : A) (xs : List A) → last_or (Some x) xs ≡ slice_get (x ∷ xs) (length xs)
last_or-cons x [] = refl
last_or-cons x (y ∷ ys) = last_or-cons y ys

-- with no command at a place, and at no status, the body goes on at that place
judged-none : (w : Work) (n : ℕ) (c : Option Command) → step_behind w n c None ≡ start_or_well w n
judged-none w n (Some c) = refl
judged-none w n None = refl

-- the step behind some statuses is that by their number and the last of them
pub after_judged : (w : Work) (ss : List Status) → step_behind w (length ss) (slice_get (commands_of w) (length ss - 1)) (last_or None ss) ≡ after w ss
after_judged w [] = judged-none w 0 (slice_get (commands_of w) 0)
after_judged w (s ∷ ss) =
    ap (λ o. step_behind w (suc (length ss)) (slice_get (commands_of w) (suc (length ss) - 1)) o) (last_or-cons s ss ∙ ap (λ n. slice_get (s ∷ ss) n) (sym (sub-one (suc (length ss)))))

-- the step of a node, from the count of its statuses, the last of them and its work
pub judged_is : (w : Work) (ss : List Status) (n : ℕ) (last : Option Status) → n ≡ length ss → last ≡ last_or None ss → step_behind w n (slice_get (commands_of w) (n - 1)) last ≡ after w ss
judged_is w ss n last e f = rw (e, f) (after_judged w ss)

-- the step of a node, by what its row says
pub judged_node :
    (nodes : List PlanNode) (h : List Event) (n count : ℕ) (last : Option Status) (x : PlanNode)
    → count ≡ length (statuses h n)
    → last ≡ last_or None (statuses h n)
    → slice_get nodes n ≡ Some x
    → step_behind x.work count (slice_get (commands_of x.work) (count - 1)) last ≡ next_step nodes h n
judged_node nodes h n count last x number last_is found =
    judged_is x.work (statuses h n) count last number last_is ∙ ap (λ o. after (work_in o) (statuses h n)) (sym found)
