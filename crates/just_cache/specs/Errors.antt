-- The errors of the cache, by the refusals of the host.
use Rattle.std.specs.Prelude.{ℕ, List}
use Rattle.just_path.specs.declared.host.Miss.{Miss}
use Rattle.just_path.specs.declared.host.Miss.TheVariants as miss
use Rattle.just_host_record.specs.declared.entry.HostFault.{HostFault}
use Rattle.just_host_record.specs.declared.entry.HostFault.TheVariants as fault
use Rattle.just_cache.specs.declared.cache_error.CacheError.{CacheError}
use Rattle.just_cache.specs.declared.cache_error.CacheError.TheVariants as error

abbrev pub missed_input : List ℕ → Miss → CacheError
missed_input path miss.NotFound = error.InputMissing path
missed_input path miss.IsFolder = error.InputDirectory path
missed_input path miss.NotFolder = error.Io (fault.Missed miss.NotFolder) path
missed_input path miss.NotUtf8 = error.Io (fault.Missed miss.NotUtf8) path
missed_input path miss.NotEmpty = error.Io (fault.Missed miss.NotEmpty) path
missed_input path miss.TooLarge = error.Io (fault.Missed miss.TooLarge) path

-- the error of an input whose sum was refused
abbrev pub input_error : List ℕ → HostFault → CacheError
input_error path (fault.Missed m) = missed_input path m
input_error path (fault.Failed c) = error.Io (fault.Failed c) path
input_error path fault.NoMemory = error.NoMemory

-- the error of an entry that couldn't be looked at or saved
abbrev pub entry_error : List ℕ → HostFault → CacheError
entry_error path (fault.Missed m) = error.Io (fault.Missed m) path
entry_error path (fault.Failed c) = error.Io (fault.Failed c) path
entry_error path fault.NoMemory = error.NoMemory
