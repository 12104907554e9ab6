-- The justfile in a place as a part of a preparation, from what making it a file answers and leaves.
use Rattle.std.proofs.Common.{◌≡◌, ◌⊎◌, ◌++◌, inl, inr, ℕ, false, true≢false, List, [], ◌∷◌, map, Option, Result, Ok, Err, refl, sym, ◌∙◌, ap, subst, append-nil}
use Rattle.std.specs.Prelude.{◌≢◌}
use Rattle.std.specs.List.{list_any}
use Rattle.just_host_record.specs.World.{World, Moment}
use Rattle.just_host_record.specs.Looks.{dash}
use Rattle.just_host_record.specs.Record.{is_failed, text_or_empty}
use Rattle.just_host_record.specs.declared.entry.Entry.{Entry}
use Rattle.just_host_record.specs.declared.entry.HostFault.TheVariants as fault
use Rattle.just_config.specs.declared.config.Config.{Config}
use Rattle.just_env.specs.declared.search_error.SearchError.{SearchError}
use Rattle.just_env.specs.declared.search_error.SearchError.TheVariants as search
use Rattle.just_search.specs.declared.search_result.Search.{Search}
use Rattle.just_search.specs.declared.location.Location.{Location}
use Rattle.just_search.specs.declared.location.Origin.{Origin}
use Rattle.just_search.specs.declared.location.Origin.TheVariants as origin
use Rattle.just_search.specs.Calls.{made_entries, left_entries, entries_of as search_entries}
use Rattle.just_search.specs.Files.{parent_of, WritesText, MakesFolders, Materializes}
use Rattle.just_search.specs.Texts.{GivesText}
use Rattle.just_exec.specs.Refusals.{error_of_search}
use Rattle.just_exec.specs.declared.error.Error.{Error}
use Rattle.just_exec.specs.declared.error.Error.TheVariants as error
use Rattle.just_cli_plan.specs.Own.{OrMemory}
use Rattle.just_cli_plan.specs.declared.wanted.Wanted.{Wanted}
use Rattle.just_sched_history.specs.declared.plan_node.PlanNode.{PlanNode}
use Rattle.just_cli.specs.Acts.{Act, folders_in, uncaptured_in, AreActs}
use Rattle.just_cli.specs.Altered.{IsAltered}
use Rattle.just_cli_plan.specs.Pairs.{entries_of as entries_in}
use Rattle.just_cli_children.specs.Configs.{cache_beside, wanted_of}
use Rattle.just_cli.specs.Preparing.{Performs}
use Rattle.just_cli.specs.Taken.{TakesWanted}
use Rattle.just_cli.specs.Words.{LocatedRequest, JustfileRequest, TakesFile, BeginsIn}
use Rattle.just_cli.proofs.Altering.{altered_same, altered_then, altered_made, altered_written, unmade, unwritten_same}

-- ---- folders as acts

folders_of : (folders : List (List ℕ)) → folders_in (map Act.made folders) ≡ folders
folders_of [] = refl
folders_of (folder ∷ folders) = ap (λ (fs : List (List ℕ)). folder ∷ fs) (folders_of folders)

no_folders : (folders : List (List ℕ)) → map Act.made folders ≡ [] → folders ≡ []
no_folders [] is = refl
no_folders (folder ∷ folders) is = absurd (let no : ⊥ = cc in no)

-- no child is among them
all_run : (folders : List (List ℕ)) → uncaptured_in (map Act.made folders) ≡ []
all_run [] = refl
all_run (folder ∷ folders) = all_run folders

made_acts : (folders : List (List ℕ)) → AreActs (map Act.made folders) (made_entries folders)
made_acts [] = AreActs.none
made_acts (folder ∷ folders) = AreActs.an_act (Act.made folder) (map Act.made folders) (made_entries folders) (made_acts folders)

-- ---- the world

module _ (nodes : List PlanNode) (told : Option World) (parent : Option (List ℕ)) (text working : List ℕ) where
  -- where no call failed, the world is as it was but below the folders
  text_alters : (after : Option World) (folders : List (List ℕ)) (r : Result Search SearchError) → WritesText told after parent text working folders r → list_any is_failed (left_entries parent folders r) ≡ false → IsAltered folders nodes told after
  text_alters after folders r (WritesText.a_file between folder makes writes) quiet = altered_then (folder ∷ []) nodes told between after (altered_made nodes told between parent folder makes) (altered_written nodes between after folder text writes)
  text_alters after folders r (WritesText.no_folder io refuses makes) quiet = altered_same [] nodes told after (unmade told after parent io makes)
  text_alters after folders r (WritesText.unwritten between folder (fault.Missed m) makes refuses writes) quiet =
      altered_then (folder ∷ []) nodes told between after (altered_made nodes told between parent folder makes) (altered_same (folder ∷ []) nodes between after (unwritten_same between after folder text m writes))
  text_alters after folders r (WritesText.unwritten between folder (fault.Failed c) makes refuses writes) quiet = absurd (true≢false quiet)
  text_alters after folders r (WritesText.unwritten between folder fault.NoMemory makes refuses writes) quiet = absurd refuses
  text_alters after folders r (WritesText.no_memory is) quiet = altered_same [] nodes told after is
  text_alters after folders r (WritesText.no_memory_behind folder makes) quiet = altered_made nodes told after parent folder makes

text_still : (told after : Option World) (parent : Option (List ℕ)) (text working : List ℕ) (folders : List (List ℕ)) (r : Result Search SearchError) → WritesText told after parent text working folders r → folders ≡ [] → after ≡ told
text_still told after parent text working folders r (WritesText.a_file between folder makes writes) none = absurd (let no : ⊥ = cc in no)
text_still told after parent text working folders r (WritesText.no_folder io refuses makes) none = unmade told after parent io makes
text_still told after parent text working folders r (WritesText.unwritten between folder io makes refuses writes) none = absurd (let no : ⊥ = cc in no)
text_still told after parent text working folders r (WritesText.no_memory is) none = is
text_still told after parent text working folders r (WritesText.no_memory_behind folder makes) none = absurd (let no : ⊥ = cc in no)

module _ (told after : Option World) (parent : Option (List ℕ)) (place : Location) where
  file_alters : (nodes : List PlanNode) (folders : List (List ℕ)) (r : Result Search SearchError) → Materializes told after parent place folders r → list_any is_failed (left_entries parent folders r) ≡ false → IsAltered folders nodes told after
  file_alters nodes folders r (Materializes.file path from is) quiet = altered_same [] nodes told after is
  file_alters nodes folders r (Materializes.unread e gives is) quiet = altered_same [] nodes told after is
  file_alters nodes folders r (Materializes.read text some x gives writes) quiet = text_alters nodes told parent text place.working_directory after some x writes quiet
  file_alters nodes folders r (Materializes.no_memory is) quiet = altered_same [] nodes told after is

  file_still : (folders : List (List ℕ)) (r : Result Search SearchError) → Materializes told after parent place folders r → folders ≡ [] → after ≡ told
  file_still folders r (Materializes.file path from is) none = is
  file_still folders r (Materializes.unread e gives is) none = is
  file_still folders r (Materializes.read text some x gives writes) none = text_still told after parent text place.working_directory some x writes none
  file_still folders r (Materializes.no_memory is) none = is

  -- ---- the record

  -- the entries of an answer, and those of the error that a refusal is told as
  abbrev path_of : SearchError → List ℕ
  path_of (search.StdinIo io) = dash
  path_of _ = text_or_empty parent

  abbrev told_as : Result Search SearchError → List Entry
  told_as (Ok s) = []
  told_as (Err e) = entries_in (path_of e) (error_of_search e)

  unread_entries : (from : Origin) (e : SearchError) → GivesText told from (Err e) → search_entries parent e ≡ entries_in (path_of e) (error_of_search e)
  unread_entries (origin.File path) e gives = absurd gives
  unread_entries (origin.Markdown path) e (io, is, refuses) = ap (λ x. search_entries parent x) is ∙ ap (λ x. entries_in (path_of x) (error_of_search x)) (sym is)
  unread_entries origin.StandardInput e (io, is, refuses) = ap (λ x. search_entries parent x) is ∙ ap (λ x. entries_in (path_of x) (error_of_search x)) (sym is)

  text_entries : (text working : List ℕ) (folders : List (List ℕ)) (r : Result Search SearchError) → WritesText told after parent text working folders r → left_entries parent folders r ≡ made_entries folders ++ told_as r
  text_entries text working folders r (WritesText.a_file between folder makes writes) = refl
  text_entries text working folders r (WritesText.no_folder io refuses makes) = refl
  text_entries text working folders r (WritesText.unwritten between folder io makes refuses writes) = refl
  text_entries text working folders r (WritesText.no_memory is) = refl
  text_entries text working folders r (WritesText.no_memory_behind folder makes) = refl

  file_entries : (folders : List (List ℕ)) (r : Result Search SearchError) → Materializes told after parent place folders r → left_entries parent folders r ≡ made_entries folders ++ told_as r
  file_entries folders r (Materializes.file path from is) = refl
  file_entries folders r (Materializes.unread e gives is) = unread_entries place.origin e gives
  file_entries folders r (Materializes.read text some x gives writes) = text_entries text place.working_directory some x writes
  file_entries folders r (Materializes.no_memory is) = refl

-- ---- the part

wants_or_not : (f : SearchError) → (f ≡ search.NoMemory) ⊎ (f ≢ search.NoMemory)
wants_or_not search.NoMemory = inl refl
wants_or_not _ = inr (λ is. let no : ⊥ = cc in no)

module _ (config : Config) (place location : Location) (is_place : place ≡ location) (before after : Moment) (kept keeps : List (List ℕ)) where
  abbrev IsMaterialized : Result Search SearchError → Type 0
  IsMaterialized r = MakesFolders (Materializes before.world after.world (parent_of config) place) (parent_of config) kept keeps before.entries after.entries r

  abbrev Taken : Result (Wanted × List ℕ) Error → Type 0
  Taken r = Performs {A = Wanted × List ℕ} (TakesWanted config location before.world) (BeginsIn config location before.world) before after kept keeps r

  at_location : (folders : List (List ℕ)) (r : Result Search SearchError) → Materializes before.world after.world (parent_of config) place folders r → Materializes before.world after.world (parent_of config) location folders r
  at_location folders r m = subst (λ (l : Location). Materializes before.world after.world (parent_of config) l folders r) is_place m

  -- what it makes of a told world
  still_so : (folders : List (List ℕ)) (r : Result Search SearchError) → Materializes before.world after.world (parent_of config) place folders r → folders_in (map Act.made folders) ≡ [] → after.world ≡ before.world
  still_so folders r m none = file_still before.world after.world (parent_of config) place folders r m (sym (folders_of folders) ∙ none)

  alters_so : (nodes : List PlanNode) (folders : List (List ℕ)) (r : Result Search SearchError) → Materializes before.world after.world (parent_of config) place folders r → list_any is_failed (left_entries (parent_of config) folders r) ≡ false
      → IsAltered (folders_in (map Act.made folders)) nodes before.world after.world
  alters_so nodes folders r m quiet =
      subst (λ (fs : List (List ℕ)). IsAltered fs nodes before.world after.world) (sym (folders_of folders)) (file_alters before.world after.world (parent_of config) place nodes folders r m quiet)

  pub taken_well : (s : Search) (j : Wanted × List ℕ) → IsMaterialized (Ok s) → j.0 ≡ wanted_of config s.working_directory (cache_beside s.justfile) → j.1 ≡ s.justfile → Taken (Ok j)
  taken_well s j (folders, keep, grew, m) wanted path = record {
    acts = map Act.made folders;
    entries = made_entries folders ++ [];
    grew = grew;
    leaves = (made_entries folders, made_acts folders, append-nil (made_entries folders), all_run folders);
    folders = keep ∙ ap (λ (fs : List (List ℕ)). kept ++ fs) (sym (folders_of folders));
    answers = λ environ. (folders, s, refl, at_location folders (Ok s) m, path, wanted, refl);
    begun = (folders, Ok s, refl, at_location folders (Ok s) m);
    still = λ none alone quiet. still_so folders (Ok s) m none;
    alters = λ nodes alone quiet. alters_so nodes folders (Ok s) m quiet;
  }

  -- memory is wanting behind it
  pub taken_short : (s : Search) → IsMaterialized (Ok s) → Taken (Err error.NoMemory)
  taken_short s (folders, keep, grew, m) = record {
    acts = map Act.made folders;
    entries = made_entries folders ++ [];
    grew = grew;
    leaves = (made_entries folders, [], made_acts folders, refl, inl (all_run folders));
    folders = keep ∙ ap (λ (fs : List (List ℕ)). kept ++ fs) (sym (folders_of folders));
    answers = inl refl;
    begun = λ captured. (folders, Ok s, refl, at_location folders (Ok s) m);
    still = λ none alone quiet. still_so folders (Ok s) m none;
    alters = λ nodes alone quiet. alters_so nodes folders (Ok s) m quiet;
  }

  why : (folders : List (List ℕ)) (f : SearchError) (e : Error) → Materializes before.world after.world (parent_of config) place folders (Err f) → e ≡ error_of_search f → (f ≡ search.NoMemory) ⊎ (f ≢ search.NoMemory)
      → OrMemory (λ x. TakesWanted config location before.world (map Act.made folders) after.world (Err x)) e
  why folders f e m is (inl wants) = inl (is ∙ ap (λ g. error_of_search g) wants)
  why folders f e m is (inr not) = inr (λ environ. (folders, f, refl, at_location folders (Err f) m, not, is))

  pub taken_refused : (f : SearchError) (e : Error) → IsMaterialized (Err f) → e ≡ error_of_search f → Taken (Err e)
  taken_refused f e (folders, keep, grew, m) is =
      let path = path_of before.world after.world (parent_of config) place f in
      record {
        acts = map Act.made folders;
        entries = left_entries {A = Search} (parent_of config) folders (Err f);
        grew = grew;
        leaves = (made_entries folders, path, made_acts folders, file_entries before.world after.world (parent_of config) place folders (Err f) m ∙ ap (λ x. made_entries folders ++ entries_in path x) (sym is), inl (all_run folders));
        folders = keep ∙ ap (λ (fs : List (List ℕ)). kept ++ fs) (sym (folders_of folders));
        answers = why folders f e m is (wants_or_not f);
        begun = λ captured. (folders, Err f, refl, at_location folders (Err f) m);
        still = λ none alone quiet. still_so folders (Err f) m none;
        alters = λ nodes alone quiet. alters_so nodes folders (Err f) m quiet;
      }

-- where no act is taken, the world stays
pub takes_still : (told after : Option World) (acts : List Act) (q : LocatedRequest) (r : Result JustfileRequest Error) → TakesFile told acts after q r → acts ≡ [] → after ≡ told
takes_still told after acts q (Ok j) (folders, s, is, m, path, wanted, environ) none = file_still told after (parent_of q.config) q.location folders (Ok s) m (no_folders folders (sym is ∙ none))
takes_still told after acts q (Err e) (folders, f, is, m, never, from) none = file_still told after (parent_of q.config) q.location folders (Err f) m (no_folders folders (sym is ∙ none))

-- memory is wanting before
pub taken_nothing : (config : Config) (location : Location) (told : Moment) (kept : List (List ℕ)) → Performs {A = Wanted × List ℕ} (TakesWanted config location told.world) (BeginsIn config location told.world) told told kept kept (Err error.NoMemory)
taken_nothing config location told kept = record {
  acts = [];
  entries = [];
  grew = sym (append-nil told.entries);
  leaves = ([], [], AreActs.none, refl, inl refl);
  folders = sym (append-nil kept);
  answers = inl refl;
  begun = λ captured. ([], Err search.NoMemory, refl, Materializes.no_memory refl);
  still = λ none alone quiet. refl;
  alters = λ nodes alone quiet. altered_same [] nodes told.world told.world refl;
}
