-- Entries are removed, one after the other.
use Rattle.std.specs.Prelude.{◌≡◌, ℕ, suc, Bool, true, false, List, [], ◌∷◌, Option, Some, None, Result, Ok, Err, string_bytes}
use Rattle.std.specs.declared.alloc.Global.{Global}
use Rattle.std.specs.declared.string.String.{String}
use Rattle.just_path.specs.Path.{pushed}
use Rattle.just_path.specs.declared.host.Miss.TheVariants as miss
use Rattle.just_host_record.specs.declared.entry.HostFault.{HostFault}
use Rattle.just_host_record.specs.declared.entry.HostFault.TheVariants as fault
use Rattle.just_host_record.specs.World.{Moment}
use Rattle.just_lang_types.specs.declared.recipe.Modulepath.{Modulepath}
use Rattle.just_cache.specs.Errors.{entry_error}
use Rattle.just_cache.specs.declared.cache_error.CacheError.{CacheError}
use Rattle.just_cache.specs.declared.cache_error.CacheError.TheVariants as error
use Rattle.just_cache_clean.specs.EntryTexts.{IsEntryName, Stays}
use Rattle.just_cache_clean.specs.Told.{IsRead, IsRemoved}

-- whether the file of such an answer can't be an entry, whatever its path: its bytes are no text, or too many
abbrev pub is_no_text : HostFault → Bool
is_no_text (fault.Missed miss.NotUtf8) = true
is_no_text (fault.Missed miss.TooLarge) = true
is_no_text (fault.Missed miss.NotFound) = false
is_no_text (fault.Missed miss.NotFolder) = false
is_no_text (fault.Missed miss.IsFolder) = false
is_no_text (fault.Missed miss.NotEmpty) = false
is_no_text (fault.Failed c) = false
is_no_text fault.NoMemory = false

-- an entry goes, by what was read of it, or stays
abbrev pub IsJudged : List (List ℕ) → List ℕ → Result (String Global) HostFault → Bool → Type 0
IsJudged prefix digest (Ok s) true = Stays prefix digest (string_bytes s) → ⊥
IsJudged prefix digest (Ok s) false = Stays prefix digest (string_bytes s)
IsJudged prefix digest (Err f) goes = (is_no_text f ≡ true) × (goes ≡ true)

-- an entry is looked at where a path is given, and goes or stays
abbrev pub Judges : Option Modulepath → List ℕ → List ℕ → Moment → Moment → Bool → Type 0
Judges None digest path before after goes = (after ≡ before) × (goes ≡ true)
Judges (Some prefix) digest path before after goes = (answer : Result (String Global) HostFault) × IsRead path before after answer × IsJudged prefix.components digest answer goes

-- one more was removed
abbrev pub one_more : Result ℕ CacheError → Result ℕ CacheError
one_more (Ok n) = Ok (suc n)
one_more (Err e) = Err e

-- Of the files of these names in a folder the entries that go are removed, in that order: so many of them, or up to a refusal.
pub data Sweeps (folder : List ℕ) (prefix : Option Modulepath) : List (List ℕ) → Moment → Moment → Result ℕ CacheError → Type 0 where
  nothing : (m : Moment) → Sweeps folder prefix [] m m (Ok 0)
  other : (name : List ℕ) (names : List (List ℕ)) (m n : Moment) (r : Result ℕ CacheError) → ((digest : List ℕ) → IsEntryName digest name → ⊥) → Sweeps folder prefix names m n r → Sweeps folder prefix (name ∷ names) m n r
  stays : (name digest : List ℕ) (names : List (List ℕ)) (m l n : Moment) (r : Result ℕ CacheError) → IsEntryName digest name → Judges prefix digest (pushed folder name) m l false → Sweeps folder prefix names l n r
      → Sweeps folder prefix (name ∷ names) m n r
  goes : (name digest : List ℕ) (names : List (List ℕ)) (m l k n : Moment) (r : Result ℕ CacheError) → IsEntryName digest name → Judges prefix digest (pushed folder name) m l true
      → IsRemoved (pushed folder name) l k (Ok tt) → Sweeps folder prefix names k n r → Sweeps folder prefix (name ∷ names) m n (one_more r)
  unread : (name digest : List ℕ) (names : List (List ℕ)) (m n : Moment) (f : HostFault) → IsEntryName digest name → IsRead (pushed folder name) m n (Err f) → is_no_text f ≡ false
      → Sweeps folder prefix (name ∷ names) m n (Err (entry_error (pushed folder name) f))
  left : (name digest : List ℕ) (names : List (List ℕ)) (m l n : Moment) (f : HostFault) → IsEntryName digest name → Judges prefix digest (pushed folder name) m l true
      → IsRemoved (pushed folder name) l n (Err f) → Sweeps folder prefix (name ∷ names) m n (Err (entry_error (pushed folder name) f))
  want : (names : List (List ℕ)) (m : Moment) → Sweeps folder prefix names m m (Err error.NoMemory)
