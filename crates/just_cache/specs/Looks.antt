-- The status of a key by a look at its entry and outputs, and what is saved.
use Rattle.std.specs.Prelude.{ℕ, ◌≡◌, List, [], ◌∷◌, ◌++◌, Option, Result, Ok, Err, MatchOption}
use Rattle.just_lang_types.specs.declared.recipe.Modulepath.{Modulepath}
use Rattle.just_host_record.specs.declared.entry.Call.TheVariants as call
use Rattle.just_host_record.specs.declared.entry.Entry.TheVariants as entry
use Rattle.just_host_record.specs.declared.entry.HostFault.{HostFault}
use Rattle.just_host_record.specs.declared.entry.Look.{Look}
use Rattle.just_host_record.specs.declared.entry.Look.TheVariants as look
use Rattle.just_host_record.specs.Changes.{Changes, IsOfEntry, with_cache_entry, place_written, written}
use Rattle.just_host_record.specs.Looks.{LookTells, look_at, told_bytes}
use Rattle.just_host_record.specs.Record.{gained, IsOwn}
use Rattle.just_host_record.specs.World.{Moment, World, view_of}
use Rattle.just_cache.specs.declared.cache_error.CacheError.{CacheError}
use Rattle.just_cache.specs.declared.status.CacheStatus.{CacheStatus}
use Rattle.just_cache.specs.declared.status.CacheStatus.TheVariants as status
use Rattle.just_cache.specs.Errors.{entry_error}

-- ---- the status

-- a look at an entry and outputs, as the host answered: the record gained it or its refusal, a told world shows it, and nothing of
-- that world is changed but that the entry and its folder are there
pub record IsProbed (before after : Moment) (path : List ℕ) (outputs : List (List ℕ)) (answer : Result Look HostFault) : Type 0 where
  pub entries : after.entries ≡ before.entries ++ gained path (λ l. entry.Probed path outputs l ∷ []) answer
  pub own : IsOwn call.Probe answer
  pub shown : LookTells before.world path outputs answer
  pub world : Changes (λ w. with_cache_entry w path) (λ w place. IsOfEntry w path place) before.world after.world answer

-- a hit exactly where the entry isn't empty and each output is there; else the lock of that entry for that recipe
abbrev pub status_of : List ℕ → Modulepath → Look → CacheStatus
status_of path recipe look.Full = status.Hit
status_of path recipe look.Empty = status.Miss (record { path = path; recipe = recipe })
status_of path recipe (look.OutputMissing n) = status.Miss (record { path = path; recipe = recipe })

abbrev pub status_told : List ℕ → Modulepath → Result Look HostFault → Result CacheStatus CacheError
status_told path recipe (Ok l) = Ok (status_of path recipe l)
status_told path recipe (Err f) = Err (entry_error path f)

-- the status of an entry by one look
pub record GivesStatus (before after : Moment) (path : List ℕ) (outputs : List (List ℕ)) (recipe : Modulepath) (result : Result CacheStatus CacheError) : Type 0 where
  pub answer : Result Look HostFault
  pub probed : IsProbed before after path outputs answer
  pub status : result ≡ status_told path recipe answer

-- over a told world the status is the one by the bytes of the entry and the outputs
abbrev pub ShowsStatus : Option World → List ℕ → List (List ℕ) → Modulepath → Result CacheStatus CacheError → Type 0
ShowsStatus told path outputs recipe (Ok s) = MatchOption told (Unit {0}) (λ w. s ≡ status_of path recipe (look_at (view_of w) outputs (told_bytes w path)))
ShowsStatus told path outputs recipe (Err e) = Unit {0}

-- ---- what is saved

-- an entry that is to hold these bytes, as the host answered: the record gained it or its refusal, and nothing of a told world is
-- changed but that entry
pub record IsSaved (before after : Moment) (path bytes : List ℕ) (answer : Result (Unit {0}) HostFault) : Type 0 where
  pub entries : after.entries ≡ before.entries ++ gained path (λ _. entry.Saved path ∷ []) answer
  pub own : IsOwn call.Save answer
  pub world : Changes (λ w. written w path bytes) (λ w place. place_written w path ≡ Ok place) before.world after.world answer

abbrev pub saved_told : List ℕ → Result (Unit {0}) HostFault → Result (Unit {0}) CacheError
saved_told path (Ok done) = Ok done
saved_told path (Err f) = Err (entry_error path f)

pub record Saves (before after : Moment) (path bytes : List ℕ) (result : Result (Unit {0}) CacheError) : Type 0 where
  pub answer : Result (Unit {0}) HostFault
  pub saved : IsSaved before after path bytes answer
  pub result_is : result ≡ saved_told path answer
