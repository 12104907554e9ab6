-- What a run that starts no child makes of a told world: entries of its caches are made, empty, and saved.
use Rattle.std.specs.Prelude.{ℕ, ◌≡◌, ◌⊎◌, List, Option, Some, None, Result, Ok, MatchOption}
use Rattle.just_path.specs.declared.host.Miss.{Miss}
use Rattle.just_host_record.specs.Changes.{with_tree, with_cache_entry, written, place_written, IsOfEntry, DiffersAt}
use Rattle.just_host_record.specs.Sights.{Tree}
use Rattle.just_host_record.specs.World.{World}
use Rattle.just_sched_history.specs.declared.cache_plan.CachePlan.{CachePlan}
use Rattle.just_sched_history.specs.declared.plan_node.PlanNode.{PlanNode}
use Rattle.just_sched_history.specs.Cached.{entry_of, saved_text}
use Rattle.just_sched_history.specs.Nodes.{cache_at}

-- the worlds that looks at entries of the nodes' caches, and their saves, lead to
pub data Touches (nodes : List PlanNode) (w : World) : World → Type 0 where
  same : Touches nodes w w
  looked : (v : World) (n : ℕ) (c : CachePlan) (sums : List (List ℕ)) (tree : Tree) → Touches nodes w v → cache_at nodes n ≡ Some c → with_cache_entry v (entry_of c sums) ≡ Ok tree → Touches nodes w (with_tree v tree)
  saved : (v : World) (n : ℕ) (c : CachePlan) (sums : List (List ℕ)) (tree : Tree) → Touches nodes w v → cache_at nodes n ≡ Some c → written v (entry_of c sums) (saved_text c) ≡ Ok tree → Touches nodes w (with_tree v tree)

-- a told world behind a call that makes these files of it; a world that isn't told stays so
abbrev pub IsChangedBy : (World → Result Tree Miss) → Option World → Option World → Type 0
IsChangedBy change None new = new ≡ None
IsChangedBy change (Some w) new = (tree : Tree) × (change w ≡ Ok tree) × (new ≡ Some (with_tree w tree))

-- a look at an entry made it, empty, where it lacked
abbrev pub IsLooked : List ℕ → Option World → Option World → Type 0
IsLooked path told new = IsChangedBy (λ w. with_cache_entry w path) told new

-- an entry was made to hold this text
abbrev pub IsWritten : List ℕ → List ℕ → Option World → Option World → Type 0
IsWritten path text told new = IsChangedBy (λ w. written w path text) told new

-- a world that isn't told stays so
abbrev pub IsTouched : List PlanNode → Option World → Option World → Type 0
IsTouched nodes None new = new ≡ None
IsTouched nodes (Some w) new = MatchOption new ⊥ (λ v. Touches nodes w v)

-- a place is that of an entry of a cache of these nodes, or that of its folder; or the one that the entry was written at, where a link stood
-- in its place
abbrev pub IsCachePlace : List PlanNode → World → List ℕ → Type 0
IsCachePlace nodes w place =
    (n : ℕ) × (c : CachePlan) × (sums : List (List ℕ)) × (cache_at nodes n ≡ Some c)
    × (IsOfEntry w (entry_of c sums) place ⊎ ((v : World) × Touches nodes w v × (place_written v (entry_of c sums) ≡ Ok place)))

-- a told world differs at such places alone
abbrev pub IsTouchedAt : List PlanNode → Option World → Option World → Type 0
IsTouchedAt nodes None new = new ≡ None
IsTouchedAt nodes (Some w) new = MatchOption new ⊥ (λ v. DiffersAt (IsCachePlace nodes w) w v)
