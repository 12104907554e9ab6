-- What a host answers where a folder is listed.
use Rattle.std.specs.Prelude.{ℕ, ◌≡◌, Bool, true, false, List, ◌++◌, map, Option, Result, Ok, Err, MatchOption}
use Rattle.std.specs.List.{AllByRecursion}
use Rattle.just_path.specs.declared.host.PathFault.{PathFault}
use Rattle.just_path.specs.declared.host.PathFault.TheVariants as path_fault
use Rattle.just_path.specs.declared.meta.Item.{Item}
use Rattle.just_path.specs.View.{View, folder_told, AreInOrder, AreItemsOf}
use Rattle.just_host_record.specs.declared.entry.Call.TheVariants as call
use Rattle.just_host_record.specs.declared.entry.Call.{Call}
use Rattle.just_host_record.specs.declared.entry.Entry.{Entry}
use Rattle.just_host_record.specs.declared.entry.Entry.TheVariants as entry
use Rattle.just_host_record.specs.declared.entry.HostFault.{HostFault}
use Rattle.just_host_record.specs.declared.entry.HostFault.TheVariants as fault
use Rattle.just_host_record.specs.World.{World, view_of}
use Rattle.just_env.specs.declared.search_error.SearchError.{SearchError}
use Rattle.just_env.specs.declared.search_error.SearchError.TheVariants as error

-- the things are those that stand in the folder where a path leads
abbrev pub AreIn : View → List ℕ → List Item → Type 0
AreIn v path items = (place : List ℕ) × (folder_told path v ≡ Ok place) × AreItemsOf place v.tree items

-- names in the order of their bytes; where a world is told, they are the names of what stands in the folder where a path leads
abbrev pub AreNamesIn : Option World → List ℕ → List (List ℕ) → Type 0
AreNamesIn told path names = (items : List Item) × AreInOrder items × (names ≡ map (λ (i : Item). i.name) items) × MatchOption told (Unit {0}) (λ w. AreIn (view_of w) path items)

-- a fault is the call's own, and a miss is the one that the world shows, where one is told
abbrev pub ListFaultFits : Option World → List ℕ → HostFault → Type 0
ListFaultFits told path (fault.Missed m) = MatchOption told (Unit {0}) (λ w. folder_told path (view_of w) ≡ Err m)
ListFaultFits told path (fault.Failed c) = c ≡ call.List
ListFaultFits told path fault.NoMemory = ⊥

-- the names of what stands in a folder, or why it can't be listed
abbrev pub ListsFolder : Option World → List ℕ → Result (List (List ℕ)) SearchError → Type 0
ListsFolder told path (Ok names) = AreNamesIn told path names
ListsFolder told path (Err e) = (f : HostFault) × (e ≡ error.FilesystemIo path f) × ListFaultFits told path f

-- the error of a listing that a host refused so
abbrev pub listing_error : List ℕ → PathFault → SearchError
listing_error path (path_fault.Missed m) = error.FilesystemIo path (fault.Missed m)
listing_error path path_fault.Failed = error.FilesystemIo path (fault.Failed call.List)
listing_error path path_fault.NoMemory = error.NoMemory

-- ---- the record

abbrev pub is_list : Call → Bool
is_list call.List = true
is_list call.Meta = false
is_list call.Canonical = false
is_list call.Link = false
is_list call.Current = false
is_list call.Read = false
is_list call.Input = false
is_list call.Ask = false
is_list call.Environ = false
is_list call.Write = false
is_list call.MakeFolder = false
is_list call.Temp = false
is_list call.Remove = false
is_list call.Print = false
is_list call.Sum = false
is_list call.Probe = false
is_list call.Check = false
is_list call.Save = false
is_list call.Start = false
is_list call.Wait = false
is_list call.Capture = false

-- whether an entry is that of a listing that was refused
abbrev pub is_refused_listing : Entry → Bool
is_refused_listing (entry.Missed path m) = true
is_refused_listing (entry.Failed c) = is_list c
is_refused_listing (entry.Asked a b) = false
is_refused_listing (entry.Summed a b) = false
is_refused_listing (entry.Probed a b c) = false
is_refused_listing (entry.Checked a b) = false
is_refused_listing (entry.Saved a) = false
is_refused_listing (entry.Started a b) = false
is_refused_listing (entry.Ended a b) = false
is_refused_listing (entry.Captured a b c d) = false
is_refused_listing (entry.Strayed a b) = false
is_refused_listing (entry.Signalled a) = false
is_refused_listing (entry.Printed a b) = false
is_refused_listing (entry.Made a) = false

-- a record that gained the entries of refused listings alone
abbrev pub GainsListings : List Entry → List Entry → Type 0
GainsListings old new = (more : List Entry) × (new ≡ old ++ more) × AllByRecursion (λ e. is_refused_listing e ≡ true) more
