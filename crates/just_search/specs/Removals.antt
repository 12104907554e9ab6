-- The removal of temporary folders, with what stands in them.
use Rattle.std.specs.Prelude.{ℕ, ◌≡◌, ◌&&◌, not, Bool, true, false, if◌then◌else◌, List, [], ◌∷◌, ◌++◌, Option, Some, None, Result, Ok, Err, MatchOption}
use Rattle.std.specs.Str.{bytes_eq}
use Rattle.just_path.specs.Comps.{dot, dots}
use Rattle.just_path.specs.Path.{pushed}
use Rattle.just_path.specs.View.{is_name, is_folder}
use Rattle.just_path.specs.declared.meta.Item.{Item}
use Rattle.just_host_record.specs.declared.entry.Call.TheVariants as call
use Rattle.just_host_record.specs.declared.entry.Entry.{Entry}
use Rattle.just_host_record.specs.declared.entry.HostFault.{HostFault}
use Rattle.just_host_record.specs.declared.entry.HostFault.TheVariants as fault
use Rattle.just_host_record.specs.Record.{refused, gained, IsOwn, IsOwnFault}
use Rattle.just_host_record.specs.World.{Moment, view_of}
use Rattle.just_host_record.specs.Folders.{Removes}
use Rattle.just_search.specs.Listing.{AreIn, ListFaultFits}

-- whether an item of a folder may be removed by that name, which leads nowhere else
abbrev pub is_plain : List ℕ → Bool
is_plain name = is_name name && (not (bytes_eq name dot) && not (bytes_eq name dots))

-- a path is that of a folder, of an item in it, or of an item in such an item
pub data IsWithin (folder : List ℕ) : List ℕ → Type 0 where
  itself : IsWithin folder folder
  item : (path name : List ℕ) → IsWithin folder path → is_plain name ≡ true → IsWithin folder (pushed path name)

-- a call is answered; want of memory is no answer
abbrev pub IsAnswered : {A : Type 0} → Result A HostFault → Type 0
IsAnswered (Ok x) = Unit {0}
IsAnswered (Err (fault.Missed m)) = Unit {0}
IsAnswered (Err (fault.Failed c)) = Unit {0}
IsAnswered (Err fault.NoMemory) = ⊥

-- what is told where the record has further entries
abbrev pub with_entries : Moment → List Entry → Moment
with_entries told more = record { entries = told.entries ++ more; world = told.world }

-- to remove what stands at a path is tried: what that makes of what is told
pub record IsTried (path : List ℕ) (before after : Moment) : Type 0 where
  pub result : Result (Unit {0}) HostFault
  pub answered : IsAnswered result
  pub own : IsOwn call.Remove result
  pub removes : Removes before.world after.world path result
  pub leaves : after.entries ≡ before.entries ++ gained path (λ _. []) result

-- To remove what stands within a folder is tried, path by path, and folders are listed for that: what all this makes of what is told. What can't be
-- removed stays, and so does what stands elsewhere.
pub data Clears (folder : List ℕ) (before : Moment) : Moment → Type 0 where
  nothing : Clears folder before before
  a_listing : (between : Moment) (path : List ℕ) (io : HostFault) → Clears folder before between
      → IsOwnFault call.List io → Clears folder before (with_entries between (refused path io))
  a_removal : (between after : Moment) (path : List ℕ) → Clears folder before between
      → IsWithin folder path → IsTried path between after → Clears folder before after

-- something is done to each of some things, one behind the other
pub data InTurn {A : Type 0} (does : A → Moment → Moment → Type 0) (before : Moment) : List A → Moment → Type 0 where
  none : InTurn does before [] before
  another : (xs : List A) (x : A) (between after : Moment) → InTurn does before xs between
      → does x between after → InTurn does before (xs ++ x ∷ []) after

-- the items that stand in a folder, where a world is told; or its listing is refused, which leaves an entry, and there are none
pub data ListsFor (folder : List ℕ) (before : Moment) : List Item → Moment → Type 0 where
  listed : (items : List Item) → MatchOption before.world (Unit {0}) (λ w. AreIn (view_of w) folder items)
      → ListsFor folder before items before
  unlisted : (io : HostFault) → ListFaultFits before.world folder io
      → ListsFor folder before [] (with_entries before (refused folder io))

-- the path of an item of a folder, where it may be removed by its name
abbrev pub removed_path : List ℕ → List ℕ → Option (List ℕ)
removed_path folder name = if is_plain name then Some (pushed folder name) else None

-- to remove an item of a folder is tried, where it may be
pub data TriesItem (folder : List ℕ) (item : Item) (before after : Moment) : Type 0 where
  passed : removed_path folder item.name ≡ None → after ≡ before → TriesItem folder item before after
  tried : (path : List ℕ) → removed_path folder item.name ≡ Some path
      → IsTried path before after → TriesItem folder item before after

-- a folder is listed, and to remove each of its items is tried, in their order
abbrev pub TriesItems : List ℕ → Moment → Moment → Type 0
TriesItems folder before after =
    (items : List Item) × (between : Moment) × ListsFor folder before items between × InTurn (TriesItem folder) between items after

-- the same, and behind it the folder
abbrev pub TriesWithItems : List ℕ → Moment → Moment → Type 0
TriesWithItems folder before after = (between : Moment) × TriesItems folder before between × IsTried folder between after

-- the same of an item, one that is a folder with its own items before it
pub data TriesNested (folder : List ℕ) (item : Item) (before after : Moment) : Type 0 where
  passed : removed_path folder item.name ≡ None → after ≡ before → TriesNested folder item before after
  tried : (path : List ℕ) → removed_path folder item.name ≡ Some path → is_folder item.kind ≡ false
      → IsTried path before after → TriesNested folder item before after
  emptied : (path : List ℕ) → removed_path folder item.name ≡ Some path → is_folder item.kind ≡ true
      → TriesWithItems path before after → TriesNested folder item before after

-- a folder is emptied so
abbrev pub Empties : List ℕ → Moment → Moment → Type 0
Empties folder before after =
    (items : List Item) × (between : Moment) × ListsFor folder before items between × InTurn (TriesNested folder) between items after

-- and removed behind that: to remove each of its items is tried, with the items of those that are folders, and at last the folder
abbrev pub TriesFolder : List ℕ → Moment → Moment → Type 0
TriesFolder folder before after = (between : Moment) × Empties folder before between × IsTried folder between after

-- to remove a folder is tried, behind what stands in it
abbrev pub RemovesFolder : List ℕ → Moment → Moment → Type 0
RemovesFolder folder before after = (between : Moment) × Clears folder before between × IsTried folder between after

-- to remove each of some folders is
pub data RemovesAll (before : Moment) : List (List ℕ) → Moment → Type 0 where
  none : RemovesAll before [] before
  another : (folders : List (List ℕ)) (folder : List ℕ) (between after : Moment) → RemovesAll before folders between
      → RemovesFolder folder between after → RemovesAll before (folders ++ folder ∷ []) after

-- to remove the first of some folders is, each with what stands in it, and what stands within the next one may be gone
pub record RemovesSome (before : Moment) (folders : List (List ℕ)) (after : Moment) : Type 0 where
  pub first : List (List ℕ)
  pub next : List ℕ
  pub others : List (List ℕ)
  pub all : folders ≡ first ++ next ∷ others
  pub between : Moment
  pub removed : RemovesAll before first between
  pub tried : InTurn TriesFolder before first between
  pub cleared : Clears next between after
