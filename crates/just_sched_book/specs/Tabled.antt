-- What the tables of a book tell: of each node what its states are, and what is left of the lists that it stands in front of.
use Rattle.std.specs.Prelude.{ℕ, ◌+◌, ◌-◌, ◌==◌, ◌≡◌, ◌<◌, ◌&&◌, not, Bool, true, false, if◌then◌else◌, List, [], ◌∷◌, length, slice_get, slice_index_or}
use Rattle.just_exec_work.specs.declared.work.Step.{Step}
use Rattle.just_exec_work.specs.Steps.{commands_of, step_behind}
use Rattle.just_sched_history.specs.declared.event.Event.{Event}
use Rattle.just_sched_history.specs.declared.plan_node.PlanNode.{PlanNode}
use Rattle.just_sched_history.specs.declared.row.Row.{Row}
use Rattle.just_sched_history.specs.declared.tables.Tables.{Tables}
use Rattle.just_sched_history.specs.Classes.{AreClasses, AreOpen}
use Rattle.just_sched_history.specs.Nodes.{priors_at, subsequents_at, work_at}
use Rattle.just_sched_history.specs.Rows.{IsTable}
use Rattle.just_sched_history.specs.State.{is_over_well, is_confirmed, next_step, IsFinished, IsWanted, IsDueNext}
use Rattle.just_sched_history.specs.Tables.{flag, FlagsAre, FlagsMean}

-- of so many members of a list it doesn't hold
pub data IsLacking (P : ℕ → Type 0) : List ℕ → ℕ → Type 0 where
  none : IsLacking P [] 0
  holds : (n : ℕ) (xs : List ℕ) (count : ℕ) → P n → IsLacking P xs count → IsLacking P (n ∷ xs) count
  lacks : (n : ℕ) (xs : List ℕ) (count : ℕ) → (P n → ⊥) → IsLacking P xs count → IsLacking P (n ∷ xs) (1 + count)

-- how many members of a list aren't flagged
abbrev pub down_among : List Bool → List ℕ → ℕ
down_among flags [] = 0
down_among flags (n ∷ xs) = if flag flags n then down_among flags xs else 1 + down_among flags xs

-- how many of a node's priors aren't finished by the flags, and how many of its subsequents
abbrev pub priors_left : List PlanNode → Tables → ℕ → ℕ
priors_left nodes t n = down_among t.progress.finished.items (priors_at nodes n)

abbrev pub subsequents_left : List PlanNode → Tables → ℕ → ℕ
subsequents_left nodes t n = down_among t.progress.finished.items (subsequents_at nodes n)

-- what a node of that row does next: by how many of its commands have ended, and how the last of these did
abbrev pub next_of : List PlanNode → ℕ → Row → Step
next_of nodes n r = step_behind (work_at nodes n) r.ended (slice_get (commands_of (work_at nodes n)) (r.ended - 1)) r.last

-- whether a node of that row goes on, by the flags: it is wanted and isn't done; and it isn't confirmed, or it took no job and no prior is left
abbrev pub goes_on : List PlanNode → Tables → ℕ → Row → Bool
goes_on nodes t n r =
    flag t.progress.wanted.items n && (not r.done && (if flag t.progress.confirmed.items n then not r.taken && (priors_left nodes t n == 0) else true))

-- whether it stands among the nodes that may be due, and goes on
abbrev pub is_due : List PlanNode → Tables → ℕ → Row → Bool
is_due nodes t n r = flag t.due.flags.items n && goes_on nodes t n r

-- The tables have a row and a flag for each node, and tell what plan and history say: each row, and what its node does next; which nodes are over well, confirmed, finished and wanted; the nodes that are ready or to be
-- asked, as a set in the order of their numbers, and none stands outside it; how many priors and subsequents of a node aren't finished; the classes, and which of
-- them have an open body.
pub record TablesTell (nodes : List PlanNode) (invocations : List ℕ) (h : List Event) (t : Tables) : Type 0 where
  pub size : t.size ≡ length nodes
  pub rows : IsTable h t.rows.items
  pub next : (n : ℕ) (d : Row) → n < length nodes → next_of nodes n (slice_index_or t.rows.items n d) ≡ next_step nodes h n
  pub over : FlagsAre t.progress.over.items (is_over_well h)
  pub confirmed : FlagsAre t.progress.confirmed.items (is_confirmed nodes h)
  pub finished : FlagsMean t.progress.finished.items (IsFinished nodes h)
  pub wanted : FlagsMean t.progress.wanted.items (IsWanted nodes invocations h)
  pub due : (n : ℕ) (d : Row) → is_due nodes t n (slice_index_or t.rows.items n d) ≡ true → IsDueNext nodes invocations h n
  pub due_alone : (n : ℕ) (d : Row) → is_due nodes t n (slice_index_or t.rows.items n d) ≡ false → IsDueNext nodes invocations h n → ⊥
  pub priors : (n : ℕ) → IsLacking (IsFinished nodes h) (priors_at nodes n) (priors_left nodes t n)
  pub subsequents : (n : ℕ) → IsLacking (IsFinished nodes h) (subsequents_at nodes n) (subsequents_left nodes t n)
  pub classes : AreClasses nodes t.classes.items
  pub opened : AreOpen nodes h t.classes.items t.opened.items
