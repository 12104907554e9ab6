-- Numbers of the classes of nodes, and which classes have an open body.
use Rattle.std.specs.Prelude.{ℕ, ◌≡◌, ◌==◌, ◌<◌, ◌&&◌, ◌||◌, true, false, Bool, if◌then◌else◌, List, Option, Some, None, MatchBool, bytes_eq, length, slice_index_or}
use Rattle.std.specs.HashMap.{HashMap, get_by}
use denote.Ref.{Bor}
use Rattle.std.specs.List.{list_any, range_with_len}
use Rattle.just_sched_history.specs.declared.event.Event.{Event}
use Rattle.just_sched_history.specs.declared.event.Event.TheVariants as event
use Rattle.just_sched_history.specs.declared.plan_node.PlanNode.{PlanNode}
use Rattle.just_sched_history.specs.Cached.{are_one_class}
use Rattle.just_sched_history.specs.State.{takes, gives, has_given, is_open}
use Rattle.just_sched_history.specs.Tables.{flag}

-- the class number of a node; 0 past the last one
abbrev pub class_of : List ℕ → ℕ → ℕ
class_of classes n = slice_index_or classes n 0

-- Each node has the number of a node. Nodes of one class have one number, and other nodes have others; a node without a cache is in a class
-- by itself.
pub record AreClasses (nodes : List PlanNode) (classes : List ℕ) : Type 0 where
  pub within : (n : ℕ) → n < length nodes → class_of classes n < length nodes
  pub alike : (m n : ℕ) → m < length nodes → n < length nodes → are_one_class nodes m n ≡ true → class_of classes m ≡ class_of classes n
  pub apart : (m n : ℕ) → m < length nodes → n < length nodes → class_of classes m ≡ class_of classes n → (m == n || are_one_class nodes m n) ≡ true

-- a class is flagged exactly where some body of it is open
pub record AreOpen (nodes : List PlanNode) (h : List Event) (classes : List ℕ) (flags : List Bool) : Type 0 where
  pub opened : (n : ℕ) → n < length nodes → is_open h n ≡ true → flag flags (class_of classes n) ≡ true
  pub only : (k : ℕ) → flag flags k ≡ true → list_any (λ n. is_open h n && (class_of classes n == k)) (range_with_len 0 (length nodes)) ≡ true

-- what is there, or another
abbrev pub some_or : Option ℕ → ℕ → ℕ
some_or (Some x) other = x
some_or None other = other

-- the number that a table has for a class
abbrev pub number_in : {S : Type 0} → HashMap (Bor (List ℕ)) ℕ S → List ℕ → Option ℕ
number_in numbers class = get_by (λ k. bytes_eq class k.now) numbers

-- a class has the number that it had, else the next, and no other class another
abbrev pub Numbers : {S : Type 0} → List ℕ → ℕ → ℕ → HashMap (Bor (List ℕ)) ℕ S → HashMap (Bor (List ℕ)) ℕ S → Type 0
Numbers class next number old new = (number ≡ some_or (number_in old class) next) × ((name : List ℕ) → number_in new name ≡ (if bytes_eq class name then Some number else number_in old name))

-- the node whose body takes a job by the event, or gives it back, and which of the two; none where it does neither
abbrev pub IsShift : Option (ℕ × Bool) → Event → Type 0
IsShift (Some x) e = MatchBool x.1 (e ≡ event.Took x.0) (e ≡ event.Gave x.0)
IsShift None e = (n : ℕ) → (takes n e ≡ false) × (gives n e ≡ false)

-- an event by which flags of classes go on: a body takes a job that gave none back before; or gives its job back, and no other open body
-- is of its class
abbrev pub KeepsClasses : List PlanNode → List Event → Event → Type 0
KeepsClasses nodes h (event.Took n) = has_given h n ≡ false
KeepsClasses nodes h (event.Gave n) = (m : ℕ) → (m ≡ n → ⊥) → is_open h m ≡ true → are_one_class nodes m n ≡ false
KeepsClasses nodes h (event.Asked m y) = Unit {0}
KeepsClasses nodes h (event.Looked m sums seen) = Unit {0}
KeepsClasses nodes h (event.Skipped m) = Unit {0}
KeepsClasses nodes h (event.Begun m) = Unit {0}
KeepsClasses nodes h (event.Started m i c) = Unit {0}
KeepsClasses nodes h (event.Ended m i c s) = Unit {0}
KeepsClasses nodes h (event.Saved m) = Unit {0}
KeepsClasses nodes h (event.Done m o) = Unit {0}
KeepsClasses nodes h (event.Caught s) = Unit {0}
