-- What a host answers where a cache is cleaned.
use Rattle.std.specs.Prelude.{◌≡◌, ℕ, List, [], ◌++◌, option_map, Result, IfOk}
use Rattle.std.specs.declared.alloc.Global.{Global}
use Rattle.std.specs.declared.string.String.{String}
use Rattle.just_path.specs.declared.host.PathCall.TheVariants as path_call
use Rattle.just_path.specs.declared.host.PathFault.{PathFault}
use Rattle.just_path.specs.declared.host.PathFault.TheVariants as path_fault
use Rattle.just_path.specs.Host.{note_of}
use Rattle.just_path.specs.View.{AreNamesInOrder, TellsNames}
use Rattle.just_host_record.specs.declared.entry.Call.TheVariants as call
use Rattle.just_host_record.specs.declared.entry.HostFault.{HostFault}
use Rattle.just_host_record.specs.declared.entry.HostFault.TheVariants as fault
use Rattle.just_host_record.specs.Folders.{Removes}
use Rattle.just_host_record.specs.Record.{gained, noted, IsOwn}
use Rattle.just_host_record.specs.World.{Moment, view_of, ReadTells}
use Rattle.just_cache.specs.declared.cache_error.CacheError.{CacheError}
use Rattle.just_cache.specs.declared.cache_error.CacheError.TheVariants as error

-- the names of what stands in a folder, in the order of their bytes, as the host answered
pub record IsListed (folder : List ℕ) (before after : Moment) (answer : Result (List (List ℕ)) PathFault) : Type 0 where
  pub entries : after.entries ≡ before.entries ++ noted (note_of path_call.List folder answer)
  pub order : IfOk answer AreNamesInOrder
  pub told : TellsNames (option_map view_of before.world) folder answer
  pub world : after.world ≡ before.world

-- the text of a file, as the host answered
pub record IsRead (path : List ℕ) (before after : Moment) (answer : Result (String Global) HostFault) : Type 0 where
  pub entries : after.entries ≡ before.entries ++ gained path (λ s. []) answer
  pub own : IsOwn call.Read answer
  pub told : ReadTells before.world path answer
  pub world : after.world ≡ before.world

-- a file or a folder is removed, as the host answered
pub record IsRemoved (path : List ℕ) (before after : Moment) (answer : Result (Unit {0}) HostFault) : Type 0 where
  pub entries : after.entries ≡ before.entries ++ gained path (λ u. []) answer
  pub own : IsOwn call.Remove answer
  pub world : Removes before.world after.world path answer

-- the error of a folder that can't be listed
abbrev pub listing_error : List ℕ → PathFault → CacheError
listing_error folder (path_fault.Missed m) = error.Io (fault.Missed m) folder
listing_error folder path_fault.Failed = error.Io (fault.Failed call.List) folder
listing_error folder path_fault.NoMemory = error.NoMemory
