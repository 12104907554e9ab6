-- What the calls of a host on files answer, where it tells a world and where it tells none.
use Rattle.std.specs.Prelude.{ℕ, ◌≡◌, Bool, true, false, List, [], map, Option, Result, Ok, Err, MatchOption}
use Rattle.just_path.specs.declared.host.Miss.{Miss}
use Rattle.just_path.specs.declared.meta.Item.{Item}
use Rattle.just_path.specs.declared.meta.Meta.{Meta}
use Rattle.just_path.specs.View.{View, is_file, meta_told, folder_told, AreInOrder, AreItemsOf}
use Rattle.just_host_record.specs.declared.entry.Call.TheVariants as call
use Rattle.just_host_record.specs.declared.entry.HostFault.{HostFault}
use Rattle.just_host_record.specs.declared.entry.HostFault.TheVariants as fault
use Rattle.just_host_record.specs.World.{World, view_of, told_read}
use Rattle.just_env.specs.declared.search_error.SearchError.{SearchError}
use Rattle.just_env.specs.declared.search_error.SearchError.TheVariants as error
use Rattle.just_env.specs.Answers.{Fails}

-- whether it is a file that a world shows
abbrev pub shows_file : Result Meta Miss → Bool
shows_file (Ok m) = is_file m.kind
shows_file (Err m) = false

-- whether a file stands where a path leads; over a host that tells no world either may be answered
abbrev pub SeesFile : Option World → List ℕ → Result Bool SearchError → Type 0
SeesFile told path (Ok b) = MatchOption told (Unit {0}) (λ w. b ≡ shows_file (meta_told path true (view_of w)))
SeesFile told path (Err e) = Fails call.Meta path e

-- the names are those of what stands in a folder, by rising names; where there is no folder there is none
pub data AreNamesIn (v : View) (path : List ℕ) : List (List ℕ) → Type 0 where
  folder : (place : List ℕ) (items : List Item) → folder_told path v ≡ Ok place → AreInOrder items → AreItemsOf place v.tree items → AreNamesIn v path (map (λ (i : Item). i.name) items)
  no_folder : (m : Miss) → folder_told path v ≡ Err m → AreNamesIn v path []

abbrev pub ListsNames : Option World → List ℕ → Result (List (List ℕ)) SearchError → Type 0
ListsNames told path (Ok names) = MatchOption told (Unit {0}) (λ w. AreNamesIn (view_of w) path names)
ListsNames told path (Err e) = Fails call.List path e

-- a fault is the call's own, and a miss is the one that the world shows, where one is told
abbrev pub ReadFaultFits : Option World → List ℕ → HostFault → Type 0
ReadFaultFits told path (fault.Missed m) = MatchOption told (Unit {0}) (λ w. told_read w path ≡ Err m)
ReadFaultFits told path (fault.Failed c) = c ≡ call.Read
ReadFaultFits told path fault.NoMemory = ⊥

-- the text of a source
abbrev pub ReadsText : Option World → List ℕ → Result (List ℕ) SearchError → Type 0
ReadsText told path (Ok text) = MatchOption told (Unit {0}) (λ w. told_read w path ≡ Ok text)
ReadsText told path (Err e) = (f : HostFault) × (e ≡ error.Load path f) × ReadFaultFits told path f
