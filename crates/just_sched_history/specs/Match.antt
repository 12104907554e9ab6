-- When a history matches a stretch of a host's record: the stretch is the entries of the events, one behind the other.
use Rattle.std.specs.Prelude.{ℕ, ◌≡◌, ◌≢◌, ◌<◌, ◌||◌, ◌⊎◌, Bool, true, List, [], ◌∷◌, ◌++◌, length, map, zip, slice_index_or, Contains, Some, None, MatchOption, bytes_eq, codes}
use Rattle.std.specs.Str.{trim, str_to_ascii_lowercase}
use Rattle.just_path.specs.declared.host.Miss.{Miss}
use Rattle.just_host_record.specs.declared.entry.Call.{Call}
use Rattle.just_host_record.specs.declared.entry.Call.TheVariants as call
use Rattle.just_host_record.specs.declared.entry.Entry.{Entry}
use Rattle.just_host_record.specs.declared.entry.Entry.TheVariants as entry
use Rattle.just_host_record.specs.declared.entry.Look.{Look}
use Rattle.just_host_record.specs.declared.entry.Stream.TheVariants as stream
use Rattle.just_host_record.specs.Record.{script_folder}
use Rattle.just_sched_history.specs.declared.event.Event.{Event}
use Rattle.just_sched_history.specs.declared.event.Event.TheVariants as event
use Rattle.just_sched_history.specs.declared.event.Outcome.TheVariants as outcome
use Rattle.just_sched_history.specs.declared.event.Reason.{Reason}
use Rattle.just_sched_history.specs.declared.event.Reason.TheVariants as reason
use Rattle.just_exec_work.specs.declared.work.Command.{Command}
use Rattle.just_sched_history.specs.declared.cache_plan.CachePlan.{CachePlan}
use Rattle.just_sched_history.specs.Cached.{entry_of, seen_at}
use Rattle.just_sched_history.specs.Nodes.{cache_at, prompt_at, banner_at, command_at}
use Rattle.just_sched_history.specs.State.{is_running, last_start}
use Rattle.just_sched_history.specs.Legal.{Run, Due, Asked, Looked, Begun, Started, Ended, Saved, IsDue}

-- the entry of a text that is printed to standard error; none for the empty text
abbrev pub printed_entries : List ℕ → List Entry
printed_entries [] = []
printed_entries (b ∷ bs) = entry.Printed stream.Err (b ∷ bs) ∷ []

-- whether an answer confirms: trimmed, and in ASCII lower case, it is `y` or `yes`
abbrev pub is_yes : List ℕ → Bool
is_yes answer = bytes_eq (str_to_ascii_lowercase (trim answer)) (codes "y") || bytes_eq (str_to_ascii_lowercase (trim answer)) (codes "yes")

-- the echo of a command as an entry, and then the start of its child
abbrev pub started_entries : ℕ → Command → List Entry
started_entries child c = printed_entries c.echo ++ entry.Started child c.spec ∷ []

-- the entries of the sums of files at these paths, one for each sum
abbrev pub summed_entries : List (List ℕ) → List (List ℕ) → List Entry
summed_entries paths sums = map (λ p. entry.Summed p.0 p.1) (zip paths sums)

-- the entries of a look at a cache: the sums of the inputs, and then the look at the entry of the key that they give
abbrev pub looked_entries : CachePlan → List (List ℕ) → Look → List Entry
looked_entries c sums seen = summed_entries c.paths sums ++ entry.Probed (entry_of c sums) c.outputs seen ∷ []

-- the entries of an entry that is saved: the outputs were there, and the entry of the key holds its text
abbrev pub saved_entries : CachePlan → List (List ℕ) → List Entry
saved_entries c sums = entry.Checked c.outputs None ∷ entry.Saved (entry_of c sums) ∷ []

-- the entries of what a cache does as a body begins, before its banner, with the sums of its look: it does nothing
abbrev pub begun_entries : CachePlan → List (List ℕ) → List Entry
begun_entries c sums = []

-- a fact of the cache of a node
abbrev pub OfCache : Run → ℕ → (CachePlan → Type 0) → Type 0
OfCache s n fact = MatchOption (cache_at s.nodes n) ⊥ fact

-- a fact of it and of the sums of its look
abbrev pub OfSums : Run → List Event → ℕ → (CachePlan → List (List ℕ) → Type 0) → Type 0
OfSums s h n fact = OfCache s n (λ c. MatchOption (seen_at h n) ⊥ (λ seen. fact c seen.0))

-- a fact of what a node's cache makes as the body begins; a node without a cache makes nothing
abbrev pub OfBegun : Run → List Event → ℕ → (List Entry → Type 0) → Type 0
OfBegun s h n fact =
    MatchOption (cache_at s.nodes n) (fact []) (λ c. MatchOption (seen_at h n) ⊥ (λ seen. fact (begun_entries c seen.0)))

-- the entries of a body that begins: what its cache makes, and its banner
abbrev pub BeginsBy : Run → List Event → ℕ → List Entry → Type 0
BeginsBy s h n es = OfBegun s h n (λ made. es ≡ made ++ printed_entries (banner_at s.nodes n))

-- so many sums, of the first of a cache's inputs, and what they make
abbrev pub SumsFirst : CachePlan → (ℕ → Type 0) → (List (List ℕ) → List Entry) → List Entry → Type 0
SumsFirst c many made es = (sums : List (List ℕ)) × many (length sums) × (es ≡ summed_entries c.paths sums ++ made sums)

-- the entries that an event which is due will stand for
abbrev pub DueEntries : Run → List Event → ℕ → Due → List Entry → Type 0
DueEntries s h n Asked es = MatchOption (prompt_at s.nodes n) ⊥ (λ p. (answer : List ℕ) × (es ≡ entry.Asked p answer ∷ []))
DueEntries s h n Looked es = OfCache s n (λ c. (sums : List (List ℕ)) × (seen : Look) × (length sums ≡ length c.paths) × (es ≡ looked_entries c sums seen))
DueEntries s h n Begun es = BeginsBy s h n es
DueEntries s h n (Started i) es = MatchOption (command_at s.nodes n i) ⊥ (λ c. (child : ℕ) × (es ≡ started_entries child c))
DueEntries s h n Ended es = ⊥
DueEntries s h n Saved es = OfSums s h n (λ c sums. es ≡ saved_entries c sums)

-- no node runs with that child
abbrev pub IsStranger : List Event → ℕ → Type 0
IsStranger h child = (n i : ℕ) → is_running h n ≡ true → last_start h n ≡ Some (i, child) → ⊥

-- a command that is due to start, whose echo was printed before these entries
abbrev pub BehindEcho : Run → List Event → ℕ → (Command → List Entry) → List Entry → Type 0
BehindEcho s h n made es = (i : ℕ) × IsDue s h n (Started i) × MatchOption (command_at s.nodes n i) ⊥ (λ c. es ≡ printed_entries c.echo ++ made c)

-- the banner failed to be printed, behind what the cache had made as the body began
abbrev pub BannerFails : Run → List Event → ℕ → List Entry → Type 0
BannerFails s h n es =
    IsDue s h n Begun
    × (printed_entries (banner_at s.nodes n) ≢ [])
    × OfBegun s h n (λ made. es ≡ made ++ entry.Failed call.Print ∷ [])

-- the echo of a command failed to be printed
abbrev pub EchoFails : Run → List Event → ℕ → List Entry → Type 0
EchoFails s h n es =
    (i : ℕ)
    × IsDue s h n (Started i)
    × MatchOption (command_at s.nodes n i) ⊥ (λ c. printed_entries c.echo ≢ [])
    × (es ≡ entry.Failed call.Print ∷ [])

-- the entries of a body that a failed call ended: what its due event had made before, and then the failure
abbrev pub FaultStandsFor : Run → List Event → ℕ → Call → List Entry → Type 0
FaultStandsFor s h n call.Ask es = es ≡ entry.Failed call.Ask ∷ []
FaultStandsFor s h n call.Print es = BannerFails s h n es ⊎ EchoFails s h n es
FaultStandsFor s h n call.Temp es = BehindEcho s h n (λ c. entry.Failed call.Temp ∷ []) es
FaultStandsFor s h n call.Start es = BehindEcho s h n (λ c. entry.Failed call.Start ∷ []) es
FaultStandsFor s h n call.Wait es =
    (es ≡ entry.Failed call.Wait ∷ [])
    ⊎ ((i child other : ℕ) × (last_start h n ≡ Some (i, child)) × IsStranger h other × (es ≡ entry.Strayed child other ∷ []))
FaultStandsFor s h n call.Sum es = OfCache s n (λ c. SumsFirst c (λ many. many < length c.paths) (λ sums. entry.Failed call.Sum ∷ []) es)
FaultStandsFor s h n call.Probe es = OfCache s n (λ c. SumsFirst c (λ many. many ≡ length c.paths) (λ sums. entry.Failed call.Probe ∷ []) es)
FaultStandsFor s h n call.Check es = es ≡ entry.Failed call.Check ∷ []
FaultStandsFor s h n call.Save es = OfCache s n (λ c. es ≡ entry.Checked c.outputs None ∷ entry.Failed call.Save ∷ [])
FaultStandsFor s h n call.Meta es = ⊥
FaultStandsFor s h n call.List es = ⊥
FaultStandsFor s h n call.Canonical es = ⊥
FaultStandsFor s h n call.Link es = ⊥
FaultStandsFor s h n call.Current es = ⊥
FaultStandsFor s h n call.Read es = ⊥
FaultStandsFor s h n call.Input es = ⊥
FaultStandsFor s h n call.Environ es = ⊥
FaultStandsFor s h n call.Write es = ⊥
FaultStandsFor s h n call.MakeFolder es = ⊥
FaultStandsFor s h n call.Remove es = ⊥
FaultStandsFor s h n call.Capture es = ⊥

-- the same for a miss, with the path that the call was made on
abbrev pub MissStandsFor : Run → List Event → ℕ → Call → Miss → List Entry → Type 0
MissStandsFor s h n call.Ask m es = es ≡ entry.Missed (codes "-") m ∷ []
MissStandsFor s h n call.Temp m es = BehindEcho s h n (λ c. entry.Missed (script_folder c.spec) m ∷ []) es
MissStandsFor s h n call.Probe m es = OfCache s n (λ c. SumsFirst c (λ many. many ≡ length c.paths) (λ sums. entry.Missed (entry_of c sums) m ∷ []) es)
MissStandsFor s h n call.Check m es = OfCache s n (λ c. (path : List ℕ) × Contains c.outputs path × (es ≡ entry.Missed path m ∷ []))
MissStandsFor s h n call.Save m es = OfSums s h n (λ c sums. es ≡ entry.Checked c.outputs None ∷ entry.Missed (entry_of c sums) m ∷ [])
MissStandsFor s h n call.Meta m es = ⊥
MissStandsFor s h n call.List m es = ⊥
MissStandsFor s h n call.Canonical m es = ⊥
MissStandsFor s h n call.Link m es = ⊥
MissStandsFor s h n call.Current m es = ⊥
MissStandsFor s h n call.Read m es = ⊥
MissStandsFor s h n call.Input m es = ⊥
MissStandsFor s h n call.Environ m es = ⊥
MissStandsFor s h n call.Write m es = ⊥
MissStandsFor s h n call.MakeFolder m es = ⊥
MissStandsFor s h n call.Remove m es = ⊥
MissStandsFor s h n call.Print m es = ⊥
MissStandsFor s h n call.Sum m es = ⊥
MissStandsFor s h n call.Start m es = ⊥
MissStandsFor s h n call.Wait m es = ⊥
MissStandsFor s h n call.Capture m es = ⊥

-- the entries of a body that failed for that reason
abbrev pub FailureStandsFor : Run → List Event → ℕ → Reason → List Entry → Type 0
FailureStandsFor s h n reason.Status es = es ≡ []
FailureStandsFor s h n reason.NotConfirmed es = es ≡ []
FailureStandsFor s h n (reason.Input j m) es = OfCache s n (λ c. SumsFirst c (λ many. many ≡ j) (λ sums. entry.Missed (slice_index_or c.paths j []) m ∷ []) es)
FailureStandsFor s h n (reason.Output j) es = OfCache s n (λ c. es ≡ entry.Checked c.outputs (Some j) ∷ [])
FailureStandsFor s h n (reason.Place c m) es = MissStandsFor s h n c m es
FailureStandsFor s h n (reason.Fault c) es = FaultStandsFor s h n c es
FailureStandsFor s h n reason.Interrupted es = es ≡ []
FailureStandsFor s h n reason.NoMemory es = (d : Due) × (rest all : List Entry) × IsDue s h n d × DueEntries s h n d all × (all ≡ es ++ rest) × (rest ≢ [])

-- the entries that an event stands for, behind the history h
abbrev pub StandsFor : Run → List Event → Event → List Entry → Type 0
StandsFor s h (event.Asked n y) es = MatchOption (prompt_at s.nodes n) ⊥ (λ p. (answer : List ℕ) × (is_yes answer ≡ y) × (es ≡ entry.Asked p answer ∷ []))
StandsFor s h (event.Took n) es = es ≡ []
StandsFor s h (event.Looked n sums seen) es = OfCache s n (λ c. es ≡ looked_entries c sums seen)
StandsFor s h (event.Skipped n) es = es ≡ []
StandsFor s h (event.Begun n) es = BeginsBy s h n es
StandsFor s h (event.Started n i child) es = MatchOption (command_at s.nodes n i) ⊥ (λ c. es ≡ started_entries child c)
StandsFor s h (event.Ended n i child status) es = es ≡ entry.Ended child status ∷ []
StandsFor s h (event.Saved n) es = OfSums s h n (λ c sums. es ≡ saved_entries c sums)
StandsFor s h (event.Done n outcome.Well) es = es ≡ []
StandsFor s h (event.Done n (outcome.Failed r)) es = FailureStandsFor s h n r es
StandsFor s h (event.Gave n) es = es ≡ []
StandsFor s h (event.Caught signal) es = es ≡ entry.Signalled signal ∷ []

abbrev pub MatchesFrom : Run → List Event → List Event → List Entry → Type 0
MatchesFrom s before [] es = es ≡ []
MatchesFrom s before (e ∷ later) es = (first rest : List Entry) × (es ≡ first ++ rest) × StandsFor s before e first × MatchesFrom s (before ++ e ∷ []) later rest

-- these entries are the entries of the history's events, one behind the other
abbrev pub Matches : Run → List Event → List Entry → Type 0
Matches s h es = MatchesFrom s [] h es
