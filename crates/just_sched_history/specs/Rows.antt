-- What a book's table says of each node.
use Rattle.std.specs.Prelude.{ℕ, ◌≡◌, ◌+◌, ◌<◌, ◌||◌, true, cond, List, [], length, slice_get, slice_index_or, is_some, option_map, Option, Some, None}
use Rattle.std.specs.List.{last_or}
use Rattle.just_host_record.specs.declared.entry.Look.{Look}
use Rattle.just_sched_history.specs.declared.event.Event.{Event}
use Rattle.just_sched_history.specs.declared.event.Event.TheVariants as event
use Rattle.just_sched_history.specs.declared.plan_node.PlanNode.{PlanNode}
use Rattle.just_sched_history.specs.declared.row.Row.{Row}
use Rattle.just_sched_history.specs.declared.tables.Tables.{Tables}
use Rattle.just_sched_history.specs.Cached.{saves, look_of, is_saved, seen_at}
use Rattle.just_sched_history.specs.Classes.{AreClasses, AreOpen}
use Rattle.just_sched_history.specs.Nodes.{prompt_at}
use Rattle.just_sched_history.specs.Progress.{IsPlaced, IsClosedBut, IsTold}
use Rattle.just_sched_history.specs.Covered.{AreCoveredBy}
use Rattle.just_sched_history.specs.State.{takes, gives, begins, skips, starts, start_count, concludes, concludes_well, status_of, start_of, reason_in, has_taken, has_given, is_begun, is_skipped, is_done, is_over_well, is_confirmed, statuses, last_start, reason_of}
use Rattle.just_sched_history.specs.Tables.{flag, or_first}

-- where in the history the node's look is told; none where its entry wasn't looked at
abbrev pub IsLookRow : List Event → ℕ → Option ℕ → Type 0
IsLookRow h n None = seen_at h n ≡ None
IsLookRow h n (Some place) = (seen : List (List ℕ) × Look) × (seen_at h n ≡ Some seen) × (slice_get h place ≡ Some (event.Looked n seen.0 seen.1))

-- the row says of the node what the history says
pub record IsRow (h : List Event) (n : ℕ) (r : Row) : Type 0 where
  pub taken : r.taken ≡ has_taken h n
  pub given : r.given ≡ has_given h n
  pub begun : r.begun ≡ is_begun h n
  pub skipped : r.skipped ≡ is_skipped h n
  pub done : r.done ≡ is_done h n
  pub well : r.well ≡ is_over_well h n
  pub starts : r.starts ≡ start_count h n
  pub started : r.started ≡ last_start h n
  pub ended : r.ended ≡ length (statuses h n)
  pub last : r.last ≡ last_or None (statuses h n)
  pub reason : r.reason ≡ reason_of h n
  pub look : IsLookRow h n r.look
  pub saved : r.saved ≡ is_saved h n

-- each row says of its node what the history says
abbrev pub IsTable : List Event → List Row → Type 0
IsTable h rows = (n : ℕ) (d : Row) → n < length rows → IsRow h n (slice_index_or rows n d)

-- what an event that is told at a place changes in the row of its node
pub record IsTurned (n place : ℕ) (e : Event) (old new : Row) : Type 0 where
  pub taken : new.taken ≡ (old.taken || takes n e)
  pub given : new.given ≡ (old.given || gives n e)
  pub begun : new.begun ≡ (old.begun || begins n e)
  pub skipped : new.skipped ≡ (old.skipped || skips n e)
  pub done : new.done ≡ (old.done || concludes n e)
  pub well : new.well ≡ (old.well || (skips n e || concludes_well n e))
  pub starts : new.starts ≡ old.starts + cond (starts n e) 1 0
  pub started : new.started ≡ or_first (start_of n e) old.started
  pub ended : new.ended ≡ old.ended + cond (is_some (status_of n e)) 1 0
  pub last : new.last ≡ or_first (status_of n e) old.last
  pub reason : new.reason ≡ or_first old.reason (reason_in n e)
  pub look : new.look ≡ or_first old.look (option_map (λ seen. place) (look_of n e))
  pub saved : new.saved ≡ (old.saved || saves n e)

-- The tables of a book say of each node what the history says: its row, and how far the run has come; of what is to be
-- flagged nothing is left. Each node before the first that is left took a job or is done.
pub record IsNoted (nodes : List PlanNode) (invocations : List ℕ) (h : List Event) (t : Tables) : Type 0 where
  pub rows : IsTable h t.rows.items
  pub placed : IsPlaced nodes invocations t.progress
  pub closed : IsClosedBut nodes invocations t.progress None
  pub none : t.progress.pending.items ≡ []
  pub told : IsTold nodes invocations h t.progress
  -- who is confirmed is flagged so
  pub heard : (k : ℕ) → k < length t.progress.confirmed.items → is_confirmed nodes h k ≡ true → flag t.progress.confirmed.items k ≡ true
  -- each wanted node that took no job and isn't done stands in the set of those that may be ready or to be asked, or is held up
  pub covered : AreCoveredBy nodes (λ m. has_taken h m || is_done h m) t.due.flags.items t.progress
  -- who has a prompt stands in the set of those
  pub prompted : (m : ℕ) → m < length nodes → is_some (prompt_at nodes m) ≡ true → flag t.prompted.flags.items m ≡ true
  pub left : (m : ℕ) → m < t.left → (has_taken h m || is_done h m) ≡ true
  pub classes : AreClasses nodes t.classes.items
  pub opened : AreOpen nodes h t.classes.items t.opened.items
