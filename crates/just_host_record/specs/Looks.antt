-- What the calls that look at files, outputs and standard input tell of a world.
use Rattle.std.specs.Prelude.{ℕ, ◌≡◌, nat_lt, if◌then◌else◌, Bool, true, List, [], ◌∷◌, ◌++◌, length, slice_index_or, is_err, Option, Some, None, Result, Ok, Err, codes}
use Rattle.std.specs.List.{Contains, position_from}
use Rattle.std.specs.FinMap as map
use Rattle.sha2.specs.Sha256.{sha256}
use Rattle.just_path.specs.Comps.{is_empty}
use Rattle.just_path.specs.View.{View, canonical_told, meta_told}
use Rattle.just_path.specs.declared.host.Miss.{Miss}
use Rattle.just_path.specs.declared.host.Miss.TheVariants as miss
use Rattle.just_path.specs.declared.meta.Meta.{Meta}
use Rattle.just_host_record.specs.declared.entry.Entry.{Entry}
use Rattle.just_host_record.specs.declared.entry.Entry.TheVariants as entry
use Rattle.just_host_record.specs.declared.entry.HostFault.{HostFault}
use Rattle.just_host_record.specs.declared.entry.HostFault.TheVariants as fault
use Rattle.just_host_record.specs.declared.entry.Look.{Look}
use Rattle.just_host_record.specs.declared.entry.Look.TheVariants as look
use Rattle.just_host_record.specs.declared.outside.TheConstants.{MAX_SUMMED}
use Rattle.just_host_record.specs.declared.tree.Thing.{Thing}
use Rattle.just_host_record.specs.declared.tree.Thing.TheVariants as thing
use Rattle.just_host_record.specs.Sights.{Tree}
use Rattle.just_host_record.specs.World.{World, view_of, text_in}
use Rattle.just_host_record.specs.Changes.{is_not_found}

-- the path that a refusal of standard input names
abbrev pub dash : List ℕ
dash = codes "-"

abbrev pub ShowsMiss : {B : Type 0} → Result B Miss → HostFault → Type 0
ShowsMiss told (fault.Missed m) = told ≡ Err m
ShowsMiss told (fault.Failed c) = Unit {0}
ShowsMiss told fault.NoMemory = Unit {0}

-- over a told world an answer, seen so, is the one that is told, and a miss is one that the world shows
abbrev pub TellsAnswer : {A B : Type 0} → (A → B) → (World → Result B Miss) → Option World → Result A HostFault → Type 0
TellsAnswer see told None result = Unit {0}
TellsAnswer see told (Some w) (Ok x) = told w ≡ Ok (see x)
TellsAnswer see told (Some w) (Err e) = ShowsMiss (told w) e

-- the text that standard input is, or why it is none that can be read
abbrev pub told_input : World → Result (List ℕ) Miss
told_input w = text_in w.input

-- the SHA-256 of these bytes, within the limit of a sum
abbrev pub sum_of_bytes : List ℕ → Result (List ℕ) Miss
sum_of_bytes bytes = if nat_lt MAX_SUMMED (length bytes) then Err miss.TooLarge else Ok (sha256 bytes)

abbrev pub sum_of_thing : Option Thing → Result (List ℕ) Miss
sum_of_thing (Some (thing.File bytes executable)) = sum_of_bytes bytes
sum_of_thing (Some thing.Folder) = Err miss.IsFolder
sum_of_thing (Some (thing.Link target)) = Err miss.NotFound
sum_of_thing None = Err miss.NotFound

abbrev pub sum_at : Tree → Result (List ℕ) Miss → Result (List ℕ) Miss
sum_at tree (Ok place) = sum_of_thing (map.get tree place)
sum_at tree (Err m) = Err m

-- the SHA-256 of the file where a path leads, or the miss that the world shows
abbrev pub told_sum : World → List ℕ → Result (List ℕ) Miss
told_sum w path = sum_at w.tree (canonical_told path (view_of w))

-- whether nothing is found where a path leads
abbrev pub is_missing : View → List ℕ → Bool
is_missing v path = is_err (meta_told path true v)

-- the number of the first output that isn't found
abbrev pub first_missing : View → List (List ℕ) → Option ℕ
first_missing v outputs = position_from (λ o. is_missing v o) 0 outputs

abbrev pub missing_look : Option ℕ → Look
missing_look (Some i) = look.OutputMissing i
missing_look None = look.Full

-- the look at an entry that holds these bytes
abbrev pub look_at : View → List (List ℕ) → List ℕ → Look
look_at v outputs bytes = if is_empty bytes then look.Empty else missing_look (first_missing v outputs)

abbrev pub bytes_of_thing : Option Thing → List ℕ
bytes_of_thing (Some (thing.File bytes executable)) = bytes
bytes_of_thing (Some thing.Folder) = []
bytes_of_thing (Some (thing.Link target)) = []
bytes_of_thing None = []

abbrev pub bytes_at : Tree → Result (List ℕ) Miss → List ℕ
bytes_at tree (Ok place) = bytes_of_thing (map.get tree place)
bytes_at tree (Err m) = []

-- the bytes of the file where a path leads; none where no file is found
abbrev pub told_bytes : World → List ℕ → List ℕ
told_bytes w path = bytes_at w.tree (canonical_told path (view_of w))

-- over a told world, the look at an entry and outputs
abbrev pub LookTells : Option World → List ℕ → List (List ℕ) → Result Look HostFault → Type 0
LookTells None path outputs result = Unit {0}
LookTells (Some w) path outputs (Ok x) = x ≡ look_at (view_of w) outputs (told_bytes w path)
LookTells (Some w) path outputs (Err e) = Unit {0}

abbrev pub absent_or : ℕ → Result Meta Miss → Result (Option ℕ) Miss
absent_or i (Ok m) = Ok None
absent_or i (Err m) = if is_not_found m then Ok (Some i) else Err m

abbrev pub absent_at : View → List (List ℕ) → Option ℕ → Result (Option ℕ) Miss
absent_at v outputs None = Ok None
absent_at v outputs (Some i) = absent_or i (meta_told (slice_index_or outputs i []) true v)

-- the number of the first output that isn't found, if it isn't there at all; else its miss
abbrev pub told_check : World → List (List ℕ) → Result (Option ℕ) Miss
told_check w outputs = absent_at (view_of w) outputs (first_missing (view_of w) outputs)

-- what a check appends: a miss names an output
abbrev pub ChecksTo : List Entry → List Entry → List (List ℕ) → Result (Option ℕ) HostFault → Type 0
ChecksTo old new outputs (Err (fault.Missed m)) = (path : List ℕ) × Contains outputs path × (new ≡ old ++ entry.Missed path m ∷ [])
ChecksTo old new outputs (Ok o) = new ≡ old ++ entry.Checked outputs o ∷ []
ChecksTo old new outputs (Err (fault.Failed c)) = new ≡ old ++ entry.Failed c ∷ []
ChecksTo old new outputs (Err fault.NoMemory) = new ≡ old
