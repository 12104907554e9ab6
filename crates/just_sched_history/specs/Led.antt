-- Going along lists of nodes, each member of which has its turn once those before it are finished.
use Rattle.std.specs.Prelude.{ℕ, ◌+◌, ◌≡◌, ◌<◌, ◌≤◌, ◌⊎◌, not, Bool, true, List, length, count_by, slice_index, slice_index_or, Contains}
use Rattle.just_sched_history.specs.declared.event.Event.{Event}
use Rattle.just_sched_history.specs.declared.plan_node.PlanNode.{PlanNode}
use Rattle.just_sched_history.specs.State.{is_confirmed, IsFinished, IsWanted, MayComeNext}
use Rattle.just_sched_history.specs.Tables.{flag}

-- how many flags are down
abbrev pub down_count : List Bool → ℕ
down_count flags = count_by not flags

-- flags that were raised, where each new one was added to a list
pub record IsRaised (old new : List Bool) (before after : List ℕ) : Type 0 where
  pub sized : length new ≡ length old
  pub keeps : (k : ℕ) → flag old k ≡ true → flag new k ≡ true
  pub listed : (k : ℕ) → Contains before k → Contains after k
  pub noted : (k : ℕ) → flag new k ≡ true → (flag old k ≡ true) ⊎ Contains after k
  pub up : (k : ℕ) → Contains after k → Contains before k ⊎ (flag new k ≡ true)
  pub counted : length after + down_count new ≡ length before + down_count old

-- those before a place of the list are finished and wanted
abbrev pub IsBefore : List Bool → List Bool → List ℕ → ℕ → Type 0
IsBefore finished wanted xs place = (place ≤ length xs) × ((j : ℕ) → j < place → (flag finished (slice_index xs j) ≡ true) × (flag wanted (slice_index xs j) ≡ true))

-- the flags let a member of the list come next
abbrev pub MayFollow : List Bool → Bool → List ℕ → ℕ → Type 0
MayFollow finished together xs n = MayComeNext (λ q. flag finished q ≡ true) together xs n

-- each member of the list that may come next is wanted
abbrev pub IsLed : List Bool → List Bool → Bool → List ℕ → Type 0
IsLed finished wanted together xs = (k : ℕ) → MayFollow finished together xs k → flag wanted k ≡ true

-- the priors of each node that is wanted and confirmed are led, or the node is one of those that are still to be gone to
abbrev pub ArePriorsLed : (ℕ → Bool) → (ℕ → List ℕ) → List Bool → List Bool → List Bool → List ℕ → Type 0
ArePriorsLed together priors finished confirmed wanted pending =
    (m : ℕ) → flag wanted m ≡ true → flag confirmed m ≡ true → Contains pending m ⊎ IsLed finished wanted (together m) (priors m)

-- each node of the list is flagged
abbrev pub AreUp : List Bool → List ℕ → Type 0
AreUp flags xs = (k : ℕ) → Contains xs k → flag flags k ≡ true

-- the place of a node in one of its lists; 0 past the last one
abbrev pub place_of : List ℕ → ℕ → ℕ
place_of places n = slice_index_or places n 0

-- for each node, those before its place in its list are finished and wanted
abbrev pub AreBefore : (ℕ → List ℕ) → List Bool → List Bool → List ℕ → Type 0
AreBefore xs finished wanted places = (m : ℕ) → IsBefore finished wanted (xs m) (place_of places m)

-- the flags say of no node that it is finished which isn't
abbrev pub AllFinished : List PlanNode → List Event → List Bool → Type 0
AllFinished nodes h finished = (k : ℕ) → flag finished k ≡ true → IsFinished nodes h k

-- nor that it is confirmed
abbrev pub AllConfirmed : List PlanNode → List Event → List Bool → Type 0
AllConfirmed nodes h confirmed = (k : ℕ) → flag confirmed k ≡ true → is_confirmed nodes h k ≡ true

-- nor that it is wanted
abbrev pub AllWanted : List PlanNode → List ℕ → List Event → List Bool → Type 0
AllWanted nodes invocations h wanted = (k : ℕ) → flag wanted k ≡ true → IsWanted nodes invocations h k

-- no node was flagged as wanted that isn't, by any history in which those are finished and confirmed that are said to be
abbrev pub KeepsWanted : List PlanNode → List ℕ → List Bool → List Bool → List Bool → List Bool → Type 0
KeepsWanted nodes invocations finished confirmed old new =
    (h : List Event) → AllFinished nodes h finished → AllConfirmed nodes h confirmed → AllWanted nodes invocations h old → AllWanted nodes invocations h new
