-- How a cache is cleaned.
use Rattle.std.specs.Prelude.{◌<◌, ℕ, List, length, Option, Result, Ok, Err}
use Rattle.just_path.specs.declared.host.Miss.TheVariants as miss
use Rattle.just_path.specs.declared.host.PathFault.{PathFault}
use Rattle.just_path.specs.declared.host.PathFault.TheVariants as path_fault
use Rattle.just_host_record.specs.declared.entry.HostFault.{HostFault}
use Rattle.just_host_record.specs.World.{Moment}
use Rattle.just_lang_types.specs.declared.recipe.Modulepath.{Modulepath}
use Rattle.just_cache.specs.Errors.{entry_error}
use Rattle.just_cache.specs.declared.cache_error.CacheError.{CacheError}
use Rattle.just_cache.specs.declared.cache_error.CacheError.TheVariants as error
use Rattle.just_cache_clean.specs.declared.cleaned.Cleaned.{Cleaned}
use Rattle.just_cache_clean.specs.declared.cleaned.Cleaned.TheVariants as cleaned
use Rattle.just_cache_clean.specs.Told.{IsListed, IsRemoved, listing_error}
use Rattle.just_cache_clean.specs.Sweeps.{Sweeps}

-- what is told where a folder can't be listed: one that isn't there is no cache
abbrev pub unlisted : List ℕ → PathFault → Result Cleaned CacheError
unlisted folder (path_fault.Missed miss.NotFound) = Ok cleaned.NotFound
unlisted folder (path_fault.Missed miss.NotFolder) = Err (listing_error folder (path_fault.Missed miss.NotFolder))
unlisted folder (path_fault.Missed miss.IsFolder) = Err (listing_error folder (path_fault.Missed miss.IsFolder))
unlisted folder (path_fault.Missed miss.NotUtf8) = Err (listing_error folder (path_fault.Missed miss.NotUtf8))
unlisted folder (path_fault.Missed miss.NotEmpty) = Err (listing_error folder (path_fault.Missed miss.NotEmpty))
unlisted folder (path_fault.Missed miss.TooLarge) = Err (listing_error folder (path_fault.Missed miss.TooLarge))
unlisted folder path_fault.Failed = Err (listing_error folder path_fault.Failed)
unlisted folder path_fault.NoMemory = Err (listing_error folder path_fault.NoMemory)

-- what is told of so many entries behind the removal of the folder
abbrev pub closed : List ℕ → ℕ → Result (Unit {0}) HostFault → Result Cleaned CacheError
closed folder count (Ok done) = Ok (cleaned.Removed count)
closed folder count (Err f) = Err (entry_error folder f)

-- The entries that go among the files of these names in a folder are removed, in that order, and then the folder, where nothing is left in it.
pub data CleansListed (folder : List ℕ) (prefix : Option Modulepath) (names : List (List ℕ)) : Moment → Moment → Result Cleaned CacheError → Type 0 where
  stopped : (m n : Moment) (e : CacheError) → Sweeps folder prefix names m n (Err e) → CleansListed folder prefix names m n (Err e)
  remains : (m n : Moment) (count : ℕ) → Sweeps folder prefix names m n (Ok count) → count < length names → CleansListed folder prefix names m n (Ok (cleaned.Removed count))
  closes : (m l n : Moment) (answer : Result (Unit {0}) HostFault) → Sweeps folder prefix names m l (Ok (length names)) → IsRemoved folder l n answer → CleansListed folder prefix names m n (closed folder (length names) answer)

-- A cache in a folder is cleaned so, in the order of the names.
pub data Cleans (folder : List ℕ) (prefix : Option Modulepath) : Moment → Moment → Result Cleaned CacheError → Type 0 where
  refused : (m n : Moment) (f : PathFault) → IsListed folder m n (Err f) → Cleans folder prefix m n (unlisted folder f)
  listed : (m l n : Moment) (names : List (List ℕ)) (r : Result Cleaned CacheError) → IsListed folder m l (Ok names) → CleansListed folder prefix names l n r → Cleans folder prefix m n r
  want : (m : Moment) → Cleans folder prefix m m (Err error.NoMemory)
