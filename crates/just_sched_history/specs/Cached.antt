-- What a history says of the caches of nodes: what was seen of an entry, what was saved, and which nodes are of one class.
use Rattle.std.specs.Prelude.{ℕ, ◌==◌, ◌&&◌, ◌||◌, not, Bool, true, false, if◌then◌else◌, List, [], zip, map, Option, Some, None, is_some, filter_map, length, bytes_eq}
use Rattle.std.specs.List.{list_any, range_with_len}
use Rattle.hex.specs.Hex.{encode_lower}
use Rattle.just_cache.specs.Places.{entry_path}
use Rattle.just_cache.specs.Keys.{key_text, entry_text}
use Rattle.just_host_record.specs.declared.entry.Look.{Look}
use Rattle.just_host_record.specs.declared.entry.Look.TheVariants as look
use Rattle.just_sched_history.specs.declared.cache_plan.CachePlan.{CachePlan}
use Rattle.just_sched_history.specs.declared.event.Event.{Event}
use Rattle.just_sched_history.specs.declared.event.Event.TheVariants as event
use Rattle.just_sched_history.specs.declared.plan_node.PlanNode.{PlanNode}
use Rattle.just_sched_history.specs.Nodes.{cache_at}
use Rattle.just_sched_history.specs.State.{first, is_open}

-- ---- tests of one event, for the node n

abbrev pub looks : ℕ → Event → Bool
looks n (event.Looked m sums seen) = m == n
looks n (event.Asked m y) = false
looks n (event.Took m) = false
looks n (event.Skipped m) = false
looks n (event.Begun m) = false
looks n (event.Started m i c) = false
looks n (event.Ended m i c s) = false
looks n (event.Saved m) = false
looks n (event.Done m o) = false
looks n (event.Gave m) = false
looks n (event.Caught s) = false

abbrev pub saves : ℕ → Event → Bool
saves n (event.Saved m) = m == n
saves n (event.Asked m y) = false
saves n (event.Took m) = false
saves n (event.Looked m sums seen) = false
saves n (event.Skipped m) = false
saves n (event.Begun m) = false
saves n (event.Started m i c) = false
saves n (event.Ended m i c s) = false
saves n (event.Done m o) = false
saves n (event.Gave m) = false
saves n (event.Caught s) = false

-- the sums and the look of a Looked event of the node
abbrev pub look_of : ℕ → Event → Option (List (List ℕ) × Look)
look_of n (event.Looked m sums seen) = if m == n then Some (sums, seen) else None
look_of n (event.Asked m y) = None
look_of n (event.Took m) = None
look_of n (event.Skipped m) = None
look_of n (event.Begun m) = None
look_of n (event.Started m i c) = None
look_of n (event.Ended m i c s) = None
look_of n (event.Saved m) = None
look_of n (event.Done m o) = None
look_of n (event.Gave m) = None
look_of n (event.Caught s) = None

-- the sums and the look of an event that is a look, of whichever node
abbrev pub look_in : Event → Option (List (List ℕ) × Look)
look_in (event.Looked m sums seen) = Some (sums, seen)
look_in (event.Asked m y) = None
look_in (event.Took m) = None
look_in (event.Skipped m) = None
look_in (event.Begun m) = None
look_in (event.Started m i c) = None
look_in (event.Ended m i c s) = None
look_in (event.Saved m) = None
look_in (event.Done m o) = None
look_in (event.Gave m) = None
look_in (event.Caught s) = None

-- the sums of a look that may be there
abbrev pub sums_in : Option (List (List ℕ) × Look) → List (List ℕ)
sums_in (Some seen) = seen.0
sums_in None = []

-- ---- the states

-- the entry of its key was looked at
abbrev pub is_looked_at : List Event → ℕ → Bool
is_looked_at h n = list_any (looks n) h

abbrev pub is_saved : List Event → ℕ → Bool
is_saved h n = list_any (saves n) h

-- the sums of its inputs, and what was seen of its entry
abbrev pub seen_at : List Event → ℕ → Option (List (List ℕ) × Look)
seen_at h n = first (filter_map (look_of n) h)

abbrev pub is_full : Look → Bool
is_full look.Full = true
is_full look.Empty = false
is_full (look.OutputMissing j) = false

-- what was seen lets the node's body be skipped: its entry wasn't empty, and each of its outputs was there
abbrev pub full_in : List PlanNode → ℕ → Option (List (List ℕ) × Look) → Bool
full_in nodes n (Some seen) = is_full seen.1
full_in nodes n None = false

-- so it was as its entry was looked at
abbrev pub saw_full : List PlanNode → List Event → ℕ → Bool
saw_full nodes h n = full_in nodes n (seen_at h n)

abbrev pub is_cached : List PlanNode → ℕ → Bool
is_cached nodes n = is_some (cache_at nodes n)

-- no cache keeps its body from being begun: it has none, or was looked at with a look that isn't full
abbrev pub may_begin : List PlanNode → List Event → ℕ → Bool
may_begin nodes h n = not (is_cached nodes n) || (is_looked_at h n && not (saw_full nodes h n))

-- what a body that ended well owes its cache is done
abbrev pub owes_nothing : List PlanNode → List Event → ℕ → Bool
owes_nothing nodes h n = not (is_cached nodes n) || is_saved h n

-- ---- keys

-- the text of a cache's key with the digests of its inputs, each under its name
abbrev pub key_with : CachePlan → List (List ℕ) → List ℕ
key_with c sums = key_text (record c.key { inputs = Some (zip c.inputs (map encode_lower sums)) })

-- the entry of that key
unfoldable pub entry_of : CachePlan → List (List ℕ) → List ℕ
entry_of c sums = entry_path c.folder (key_with c sums)

-- what an entry holds that is saved
unfoldable pub saved_text : CachePlan → List ℕ
saved_text c = entry_text (record { recipe = c.key.recipe })

-- ---- classes

abbrev pub same_class : Option CachePlan → Option CachePlan → Bool
same_class (Some c) (Some d) = bytes_eq c.class d.class
same_class _ _ = false

-- both nodes are cached, and the texts of their keys without inputs are equal
abbrev pub are_one_class : List PlanNode → ℕ → ℕ → Bool
are_one_class nodes m n = same_class (cache_at nodes m) (cache_at nodes n)

-- some open body is of the node's class
abbrev pub class_is_open : List PlanNode → List Event → ℕ → Bool
class_is_open nodes h n = list_any (λ m. is_open h m && are_one_class nodes m n) (range_with_len 0 (length nodes))
