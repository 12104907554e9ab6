-- What temporary folders and caches make of a told world.
use Rattle.std.specs.Prelude.{ℕ, ◌≡◌, List, [], ◌∷◌, Option, Some, None, Ok, MatchOption}
use Rattle.std.specs.FinMap.{get}
use Rattle.std.specs.List.{Contains}
use Rattle.just_host_record.specs.declared.tree.Thing.TheVariants as thing
use Rattle.just_host_record.specs.Changes.{place_written, DiffersAt}
use Rattle.just_host_record.specs.Folders.{removed_place}
use Rattle.just_host_record.specs.Sights.{Tree}
use Rattle.just_host_record.specs.World.{World}
use Rattle.just_sched_history.specs.declared.plan_node.PlanNode.{PlanNode}
use Rattle.just_sched_history.specs.Touched.{Touches, IsTouched}
use Rattle.just_search.specs.Removals.{IsWithin}

-- where a path leads in a world: a folder is made at the path itself, a file is written there, and what stands there is removed
pub data LeadsTo (w : World) (path place : List ℕ) : Type 0 where
  made : place ≡ path → LeadsTo w path place
  written : place_written w path ≡ Ok place → LeadsTo w path place
  removed : removed_place w path ≡ Ok place → LeadsTo w path place

-- a path at or below one of these folders leads to that place
abbrev pub IsLedTo : List (List ℕ) → World → List ℕ → Type 0
IsLedTo folders w place = (folder : List ℕ) × (path : List ℕ) × Contains folders folder × IsWithin folder path × LeadsTo w path place

-- no link is put anywhere: so no later change goes through one that wasn't there
abbrev pub PutsNoLink : Tree → Tree → Type 0
PutsNoLink old new = (place target : List ℕ) → get new place ≡ Some (thing.Link target) → get old place ≡ Some (thing.Link target)

-- the worlds that changes where paths at or below these folders lead, none of which puts a link, and looks at entries of the nodes' caches and their saves, lead to
pub data Alters (folders : List (List ℕ)) (nodes : List PlanNode) (w : World) : World → Type 0 where
  same : Alters folders nodes w w
  within : (u v : World) → Alters folders nodes w u → DiffersAt (IsLedTo folders u) u v → PutsNoLink u.tree v.tree → Alters folders nodes w v
  cached : (u v : World) → Alters folders nodes w u → Touches nodes u v → Alters folders nodes w v

-- a world that isn't told stays so
abbrev pub IsAltered : List (List ℕ) → List PlanNode → Option World → Option World → Type 0
IsAltered folders nodes None after = after ≡ None
IsAltered folders nodes (Some w) after = MatchOption after ⊥ (λ v. Alters folders nodes w v)

-- A told world ends as it was but for entries of the nodes' caches, and but for paths at or below temporary folders, where some were made.
abbrev pub EndsAsItWas : List (List ℕ) → List PlanNode → Option World → Option World → Type 0
EndsAsItWas [] nodes told after = IsTouched nodes told after
EndsAsItWas (folder ∷ folders) nodes told after = IsAltered (folder ∷ folders) nodes told after

-- the same where no plan was made
abbrev pub StaysAsItWas : List (List ℕ) → Option World → Option World → Type 0
StaysAsItWas [] told after = after ≡ told
StaysAsItWas (folder ∷ folders) told after = IsAltered (folder ∷ folders) [] told after
