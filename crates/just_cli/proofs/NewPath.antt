-- Where a new justfile is written, from what the calls answered.
use Rattle.std.proofs.Common.{◌≡◌, ◌++◌, ◌⊎◌, inl, inr, ℕ, Bool, true, false, List, [], ◌∷◌, Option, Some, None, option_map, Ok, Err, refl, sym, ap, ◌∙◌, subst}
use Rattle.just_path.specs.View.{View, Tells, meta_told}
use Rattle.just_path.specs.declared.host.Miss.{Miss}
use Rattle.just_path.specs.declared.host.PathFault.TheVariants as path_fault
use Rattle.just_path.specs.declared.meta.Meta.{Meta}
use Rattle.just_host_record.specs.declared.entry.Entry.{Entry}
use Rattle.just_host_record.specs.declared.entry.Entry.TheVariants as entry
use Rattle.just_host_record.specs.World.{World, view_of}
use Rattle.just_config.specs.declared.config.Config.{Config}
use Rattle.just_env.specs.declared.search_error.SearchError.{SearchError}
use Rattle.just_env.specs.declared.search_error.SearchError.TheVariants as search_error
use Rattle.just_env.specs.Answers.{entries_of as search_entries}
use Rattle.just_search.specs.declared.search_result.Search.{Search}
use Rattle.just_search.specs.Inits.{Inits}
use Rattle.just_exec.specs.Refusals.{error_of_search}
use Rattle.just_exec.specs.declared.error.Error.{Error}
use Rattle.just_cli_plan.specs.Own.{OrMemory}
use Rattle.just_cli_plan.specs.Steps.{stops, goes_on}
use Rattle.just_cli_children.specs.Faults.{entries_of}
use Rattle.just_cli.specs.NewPath.{is_written_to, is_file_found, ShowsFile, FindsPath, IsFree, FindsFree}
use Rattle.just_cli.specs.Preparing.{AreMisses, EndsWith}
use Rattle.just_cli.proofs.Loading.{same_entries}
use Rattle.just_cli.proofs.PlainSearch.{init_error}

-- ---- the path

module _ (told : Option World) (config : Config) where
  pub path_found : (s : Search) (path : List ℕ) → Inits told config (Ok s) → path ≡ s.justfile → FindsPath told config (Ok path)
  path_found s path inits is = (s, inits, is)

  pub path_refused : (f : SearchError) (e : Error) → (f ≡ search_error.NoMemory) ⊎ Inits told config (Err f) → e ≡ error_of_search f → OrMemory (λ x. FindsPath told config (Err x)) e
  path_refused f e (inl wants) is = inl (is ∙ ap (λ g. error_of_search g) wants)
  path_refused f e (inr inits) is = inr (f, inits, is)

-- the error of a refused search has the entry of its call
pub path_entries : (told : Option World) (config : Config) (old new : List Entry) (f : SearchError) (e : Error) → (f ≡ search_error.NoMemory) ⊎ Inits told config (Err f) → new ≡ old ++ search_entries f → e ≡ error_of_search f → new ≡ old ++ entries_of e
path_entries told config old new f e why grew is = grew ∙ ap (λ es. old ++ es) (sym (ap (λ x. entries_of x) is ∙ same_entries f (init_error told config f why)))

-- ---- what stands there

-- what is found
pub shows_found : (told : Option World) (v : Option View) (path : List ℕ) (m : Meta) (b : Bool) → v ≡ option_map view_of told → Tells v (meta_told path true) (Ok m) → b ≡ is_written_to m.kind → ShowsFile told path b
shows_found None v path m b is tells so = tt
shows_found (Some w) v path m b is tells so =
    let shown : meta_told path true (view_of w) ≡ Ok m = subst (λ o. Tells o (meta_told path true) (Ok m)) is tells in
    ap is_file_found shown ∙ sym so

-- a miss is no file
pub shows_missed : (told : Option World) (v : Option View) (path : List ℕ) (m : Miss) → v ≡ option_map view_of told → Tells {A = Meta} v (meta_told path true) (Err (path_fault.Missed m)) → ShowsFile told path false
shows_missed None v path m is tells = tt
shows_missed (Some w) v path m is tells =
    let shown : meta_told path true (view_of w) ≡ Err m = subst (λ o. Tells {A = Meta} o (meta_told path true) (Err (path_fault.Missed m))) is tells in
    ap is_file_found shown

-- ---- the record

-- a look that leaves nothing
pub leaves_nothing : (old new : List Entry) → new ≡ old ++ [] → (es : List Entry) × (new ≡ old ++ es) × AreMisses es
leaves_nothing old new grew = ([], grew, tt)

pub leaves_miss : (old new : List Entry) (path : List ℕ) (m : Miss) → new ≡ old ++ entry.Missed path m ∷ [] → (es : List Entry) × (new ≡ old ++ es) × AreMisses es
leaves_miss old new path m grew = (entry.Missed path m ∷ [], grew, (refl, tt))

pub leaves_refusal : (old new es : List Entry) (e : Error) → new ≡ old ++ es → es ≡ entries_of e → (es : List Entry) × (new ≡ old ++ es) × EndsWith [] e es
leaves_refusal old new es e grew is = (es, grew, ([], tt, is))

-- behind a call that left nothing
pub behind_nothing : (P : List Entry → Type 0) (old middle new : List Entry) → middle ≡ old → (es : List Entry) × (new ≡ middle ++ es) × P es → (es : List Entry) × (new ≡ old ++ es) × P es
behind_nothing P old middle new same gains = (gains.0, gains.1 ∙ ap (λ xs. xs ++ gains.0) same, gains.2)

-- ---- both steps

module _ (told : Option World) (config : Config) where
  pub no_path : (e : Error) → OrMemory (λ x. FindsPath told config (Err x)) e → OrMemory (λ x. FindsFree told config (Err x)) e
  no_path e (inl wants) = inl wants
  no_path e (inr lost) = inr (stops e lost refl)

  module _ (path : List ℕ) (finds : FindsPath told config (Ok path)) (seen : Option World) (same : seen ≡ told) where
    pub is_free : (free : List ℕ) → IsFree seen path (Ok free) → FindsFree told config (Ok free)
    is_free free is = goes_on path finds (subst (λ t. IsFree t path (Ok free)) same is)

    pub is_taken : (e : Error) → OrMemory (λ x. IsFree seen path (Err x)) e → OrMemory (λ x. FindsFree told config (Err x)) e
    is_taken e (inl wants) = inl wants
    is_taken e (inr why) = inr (goes_on path finds (subst (λ t. IsFree t path (Err e)) same why))
