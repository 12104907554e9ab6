-- A text is written to the file in a temporary folder: what is answered, and what that leaves.
use Rattle.std.proofs.Common.{◌≡◌, ◌⊎◌, inl, inr, ℕ, List, [], ◌∷◌, ◌++◌, Option, Some, None, refl, ap, sym, ◌∙◌, subst, append_assoc}
use Rattle.std.specs.Prelude.{Result, Ok, Err, IsErrAnd}
use Rattle.std.proofs.lemmas.List.{append-nil}
use Rattle.just_host_record.specs.declared.entry.Call.TheVariants as call
use Rattle.just_host_record.specs.declared.entry.Entry.TheVariants as entry
use Rattle.just_host_record.specs.declared.entry.HostFault.{HostFault}
use Rattle.just_host_record.specs.declared.entry.HostFault.TheVariants as fault
use Rattle.just_host_record.specs.Record.{refused, text_or_empty}
use Rattle.just_host_record.specs.World.{World, Moment}
use Rattle.just_config.specs.declared.config.Config.{Config}
use Rattle.just_env.specs.declared.search_error.SearchError.{SearchError}
use Rattle.just_env.specs.declared.search_error.SearchError.TheVariants as error
use Rattle.just_search.specs.declared.search_result.Search.{Search}
use Rattle.just_search.specs.declared.location.Location.{Location}
use Rattle.just_search.specs.Inits.{search_at}
use Rattle.just_search.specs.declared.location.Origin.{Origin}
use Rattle.just_search.specs.declared.location.Origin.TheVariants as origin
use Rattle.just_search.specs.Calls.{IsRefusal, entries_of, told_entries, left_entries}
use Rattle.just_search.specs.Files.{parent_of, Makes, WritesAt, WritesFile, WritesText, TextBecomesFile, Materializes, file_in, search_in}
use Rattle.just_search.specs.Searches.{BecomesFile}
use Rattle.just_search.specs.Texts.{GivesText}

-- ---- the file

pub write_stays : (A : Type 0) (told after : Option World) (path text : List ℕ) → WritesAt {A = A} told after path text (Err fault.NoMemory) → after ≡ told
write_stays A None after path text is = is
write_stays A (Some w) after path text is = is

-- the answer of a call that writes says nothing more
pub done_as : {A : Type 0} (told after : Option World) (path text : List ℕ) (x : A) → WritesAt {A = A} told after path text (Ok x) → WritesAt {A = Unit {0}} told after path text (Ok tt)
done_as None after path text x is = is
done_as (Some w) after path text x is = is

pub error_as : (A : Type 0) (told after : Option World) (path text : List ℕ) (io : HostFault) → WritesAt {A = A} told after path text (Err io) → WritesAt {A = Unit {0}} told after path text (Err io)
error_as A None after path text io is = is
error_as A (Some w) after path text io is = is

pub temp_stays : (told after : Option World) (parent : Option (List ℕ)) → Makes told after parent (Err fault.NoMemory) → after ≡ told
temp_stays None after parent is = is
temp_stays (Some w) after parent is = is

pub write_done : (told after : Option World) (folder text working path : List ℕ) (s : Search) → path ≡ file_in folder → s ≡ search_in folder working → WritesAt {A = Unit {0}} told after path text (Ok tt)
    → WritesFile told after folder text working (Ok s)
write_done told after folder text working path s at is writes = (is, subst (λ p. WritesAt {A = Unit {0}} told after p text (Ok tt)) at writes)

pub write_refused : (told after : Option World) (folder text working path : List ℕ) (io : HostFault) (e : SearchError) → path ≡ file_in folder → e ≡ error.FilesystemIo path io → IsRefusal call.Write io
    → WritesAt {A = Unit {0}} told after path text (Err io) → WritesFile told after folder text working (Err e)
write_refused told after folder text working path io e at is refuses writes =
    inr (io, is ∙ ap (λ p. error.FilesystemIo p io) at, refuses, subst (λ p. WritesAt {A = Unit {0}} told after p text (Err io)) at writes)

-- ---- the folder

same_refused : (parent : Option (List ℕ)) (told after : Option World) (folder text working : List ℕ) (r : Result Search SearchError) → WritesFile told after folder text working r → told_entries None r ≡ told_entries parent r
same_refused parent told after folder text working (Ok s) is = refl
same_refused parent told after folder text working (Err e) (inl is) = ap (λ x. told_entries {A = Search} None (Err x)) is.0 ∙ sym (ap (λ x. told_entries {A = Search} parent (Err x)) is.0)
same_refused parent told after folder text working (Err e) (inr is) = ap (λ x. told_entries {A = Search} None (Err x)) is.1 ∙ sym (ap (λ x. told_entries {A = Search} parent (Err x)) is.1)

pub written_entries : (parent : Option (List ℕ)) (before between after : Moment) (folder text working : List ℕ) (r : Result Search SearchError) → WritesFile between.world after.world folder text working r
    → between.entries ≡ before.entries ++ entry.Made folder ∷ [] → after.entries ≡ between.entries ++ told_entries None r → after.entries ≡ before.entries ++ left_entries parent (folder ∷ []) r
written_entries parent before between after folder text working r writes made told_new =
    told_new
    ∙ ap (λ l. between.entries ++ l) (same_refused parent between.world after.world folder text working r writes)
    ∙ ap (λ l. l ++ told_entries parent r) made
    ∙ append_assoc before.entries (entry.Made folder ∷ []) (told_entries parent r)

pub text_written : (told between after : Option World) (parent : Option (List ℕ)) (folder text working : List ℕ) (r : Result Search SearchError) → Makes told between parent (Ok folder)
    → WritesFile between after folder text working r → WritesText told after parent text working (folder ∷ []) r
text_written told between after parent folder text working (Ok s) makes is =
    subst (λ x. WritesText told after parent text working (folder ∷ []) (Ok x)) (sym is.0) (WritesText.a_file between folder makes is.1)
text_written told between after parent folder text working (Err e) makes (inl is) =
    subst (λ x. WritesText told after parent text working (folder ∷ []) (Err x)) (sym is.0) (WritesText.no_memory_behind folder (subst (λ w. Makes told w parent (Ok folder)) (sym is.1) makes))
text_written told between after parent folder text working (Err e) makes (inr is) =
    subst (λ x. WritesText told after parent text working (folder ∷ []) (Err x)) (sym is.1) (WritesText.unwritten between folder is.0 makes is.2 is.3)

-- nothing is made, for want of memory
pub nothing_written : (before after : Moment) (parent : Option (List ℕ)) (text working : List ℕ) (kept keeps : List (List ℕ)) (r : Result Search SearchError) → after.world ≡ before.world → keeps ≡ kept
    → after.entries ≡ before.entries → IsErrAnd r (λ e. e ≡ error.NoMemory) → TextBecomesFile before after parent text working kept keeps r
nothing_written before after parent text working kept keeps (Ok s) world all entries memory = absurd memory
nothing_written before after parent text working kept keeps (Err e) world all entries memory = (
  [],
  all ∙ sym (append-nil kept),
  entries ∙ sym (append-nil before.entries) ∙ ap (λ x. before.entries ++ told_entries {A = Search} parent (Err x)) (sym memory),
  subst (λ x. WritesText before.world after.world parent text working [] (Err x)) (sym memory) (WritesText.no_memory world),
)

-- the folder can't be made
pub no_folder_made : (before after : Moment) (parent : Option (List ℕ)) (text working : List ℕ) (kept keeps : List (List ℕ)) (io : HostFault) (e : SearchError) → Makes before.world after.world parent (Err io)
    → IsRefusal call.Temp io → keeps ≡ kept → after.entries ≡ before.entries ++ refused (text_or_empty parent) io → e ≡ error.TempdirIo io → TextBecomesFile before after parent text working kept keeps (Err e)
no_folder_made before after parent text working kept keeps io e makes refuses all entries is =
    subst (λ x. TextBecomesFile before after parent text working kept keeps (Err x)) (sym is) ([], all ∙ sym (append-nil kept), entries, WritesText.no_folder io refuses makes)

pub all_written : (before between after : Moment) (parent : Option (List ℕ)) (folder text working : List ℕ) (kept keeps : List (List ℕ)) (r : Result Search SearchError) → Makes before.world between.world parent (Ok folder)
    → between.entries ≡ before.entries ++ entry.Made folder ∷ [] → keeps ≡ kept ++ folder ∷ [] → WritesFile between.world after.world folder text working r → after.entries ≡ between.entries ++ told_entries None r
    → TextBecomesFile before after parent text working kept keeps r
all_written before between after parent folder text working kept keeps r makes made all writes entries = (
  folder ∷ [],
  all,
  written_entries parent before between after folder text working r writes made entries,
  text_written before.world between.world after.world parent folder text working r makes writes,
)

-- ---- the place

module _ (before : Moment) (config : Config) (from : Origin) (working : List ℕ) (kept : List (List ℕ)) where
  -- its text is read, and written
  pub reads : (between after : Moment) (text : List ℕ) (keeps : List (List ℕ)) (r : Result Search SearchError) → between.world ≡ before.world → between.entries ≡ before.entries ++ [] → GivesText before.world from (Ok text)
      → TextBecomesFile between after (parent_of config) text working kept keeps r → BecomesFile before after config (record { origin = from; working_directory = working }) kept keeps r
  reads between after text keeps r same gained gives (folders, all, entries, writes) = (
    folders,
    all,
    entries ∙ ap (λ l. l ++ left_entries (parent_of config) folders r) (gained ∙ append-nil before.entries),
    Materializes.read text folders r gives (subst (λ w. WritesText w after.world (parent_of config) text working folders r) same writes),
  )

  -- it can't be read
  unreadable : (after : Moment) (keeps : List (List ℕ)) (e : SearchError) → after.world ≡ before.world → keeps ≡ kept → (e ≡ error.NoMemory) ⊎ GivesText before.world from (Err e)
      → after.entries ≡ before.entries ++ entries_of None e → entries_of None e ≡ entries_of (parent_of config) e
      → BecomesFile before after config (record { origin = from; working_directory = working }) kept keeps (Err e)
  unreadable after keeps e world all (inl memory) entries same = (
    [],
    all ∙ sym (append-nil kept),
    entries ∙ ap (λ l. before.entries ++ l) same,
    subst (λ x. Materializes before.world after.world (parent_of config) (record { origin = from; working_directory = working }) [] (Err x)) (sym memory) (Materializes.no_memory world),
  )
  unreadable after keeps e world all (inr gives) entries same =
      ([], all ∙ sym (append-nil kept), entries ∙ ap (λ l. before.entries ++ l) same, Materializes.unread e gives world)

-- what a refused read tells has its own path
same_entries : (told : Option World) (parent : Option (List ℕ)) (from : Origin) (e : SearchError) → (e ≡ error.NoMemory) ⊎ GivesText told from (Err e) → entries_of None e ≡ entries_of parent e
same_entries told parent from e (inl memory) = ap (entries_of None) memory ∙ sym (ap (entries_of parent) memory)
same_entries told parent (origin.File path) e (inr gives) = absurd gives
same_entries told parent (origin.Markdown path) e (inr gives) = ap (entries_of None) gives.1 ∙ sym (ap (entries_of parent) gives.1)
same_entries told parent origin.StandardInput e (inr gives) = ap (entries_of None) gives.1 ∙ sym (ap (entries_of parent) gives.1)

pub unread : (before after : Moment) (config : Config) (from : Origin) (working : List ℕ) (kept keeps : List (List ℕ)) (e : SearchError) → after.world ≡ before.world → keeps ≡ kept
    → (e ≡ error.NoMemory) ⊎ GivesText before.world from (Err e) → after.entries ≡ before.entries ++ entries_of None e
    → BecomesFile before after config (record { origin = from; working_directory = working }) kept keeps (Err e)
unread before after config from working kept keeps e world all gives entries =
    unreadable before config from working kept after keeps e world all gives entries (same_entries before.world (parent_of config) from e gives)

pub file_itself : (told : Moment) (config : Config) (place : Location) (path : List ℕ) (kept : List (List ℕ)) (s : Search) → place.origin ≡ origin.File path → s ≡ search_at path place.working_directory
    → BecomesFile told told config place kept kept (Ok s)
file_itself told config place path kept s from is = (
  [],
  sym (append-nil kept),
  sym (append-nil told.entries),
  subst (λ x. Materializes told.world told.world (parent_of config) place [] (Ok x)) (sym is) (Materializes.file path from refl),
)
