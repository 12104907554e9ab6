-- The sources that are loaded, one after the other.
use Rattle.std.specs.Prelude.{ℕ, ◌≡◌, ◌⊎◌, Bool, List, [], ◌∷◌, ◌++◌, reverse, Option, Some, None, is_some, unwrap_or, Result, Ok, Err}
use Rattle.just_path_text.specs.declared.environ.Environ.{Environ}
use Rattle.just_path.specs.Parts.{parent_of}
use Rattle.just_lang_types.specs.declared.source.Source.{Source}
use Rattle.just_lang_layout.specs.Paths.{Pairs}
use Rattle.just_host_record.specs.World.{World}
use Rattle.just_env.specs.declared.search_error.SearchError.{SearchError}
use Rattle.just_env.specs.declared.search_error.SearchError.TheVariants as error
use Rattle.just_env.specs.Answers.{GivesEnviron}
use Rattle.just_search_load.specs.Named.{SourceNames}
use Rattle.just_search_load.specs.Numbers.{number_of}
use Rattle.just_search_load.specs.Shown.{ReadsText}

-- the source of a path with that text: its root is the path's parent, the path itself where it has none
abbrev pub source_at : List ℕ → List ℕ → Source
source_at path text = record { path = path; root = unwrap_or (parent_of path) path; text = text }

-- one path is loaded: its source stands behind the others, unless it was loaded before
pub data LoadsOne (told : Option World) (before : List Source) (path : List ℕ) : List Source → Type 0 where
  loaded_before : (n : ℕ) → number_of before path ≡ Some n → LoadsOne told before path before
  loaded_now : (text : List ℕ) → number_of before path ≡ None → ReadsText told path (Ok text) → LoadsOne told before path (before ++ source_at path text ∷ [])

-- Some paths are loaded, one after the other, behind sources that were loaded before: behind each source all that it names comes before the next
-- path. What is answered are the sources, in the order of their loading, or the first refusal.
pub data Loads (told : Option World) (environ : Pairs) : List Source → List (List ℕ) → Result (List Source) SearchError → Type 0 where
  nothing_left : (before : List Source) → Loads told environ before [] (Ok before)
  loaded_before : (before : List Source) (path : List ℕ) (paths : List (List ℕ)) (n : ℕ) (r : Result (List Source) SearchError)
      → number_of before path ≡ Some n → Loads told environ before paths r → Loads told environ before (path ∷ paths) r
  loaded_now : (before : List Source) (path : List ℕ) (paths : List (List ℕ)) (text : List ℕ) (named : List (List ℕ)) (r : Result (List Source) SearchError)
      → number_of before path ≡ None → ReadsText told path (Ok text) → SourceNames told environ (source_at path text) (Ok named)
      → Loads told environ (before ++ source_at path text ∷ []) (named ++ paths) r → Loads told environ before (path ∷ paths) r
  unread : (before : List Source) (path : List ℕ) (paths : List (List ℕ)) (e : SearchError)
      → number_of before path ≡ None → ReadsText told path (Err e) → Loads told environ before (path ∷ paths) (Err e)
  unseen : (before : List Source) (path : List ℕ) (paths : List (List ℕ)) (text : List ℕ) (e : SearchError)
      → number_of before path ≡ None → ReadsText told path (Ok text) → SourceNames told environ (source_at path text) (Err e)
      → Loads told environ before (path ∷ paths) (Err e)

-- the sources that are loaded then, or a refusal; want of memory may come in its place
abbrev pub Ends : {A : Type 0} → (Result (List Source) SearchError → Type 0) → List Source → Result A SearchError → Type 0
Ends P new (Ok x) = P (Ok new)
Ends P new (Err e) = (e ≡ error.NoMemory) ⊎ P (Err e)

-- further sources stand behind those that were there
pub record IsGrown (old new : List Source) : Type 0 where
  pub more : List Source
  pub behind : new ≡ old ++ more

-- whether a path was loaded
abbrev pub is_loaded : List Source → List ℕ → Bool
is_loaded sources path = is_some (number_of sources path)

-- the paths that are still to be loaded, of a stack: the last one first
abbrev pub to_load : List (List ℕ) → List (List ℕ)
to_load pending = reverse pending

-- A root is loaded and all that it leads to, over the environment that the host gives; or the first refusal, which may be that of the environment.
pub data LoadsAll (told : Option World) (before : List Source) (root : List ℕ) (r : Result (List Source) SearchError) : Type 0 where
  over_environ : (environ : Environ) → GivesEnviron told (Ok environ) → Loads told environ.pairs before (root ∷ []) r → LoadsAll told before root r
  no_environ : (e : SearchError) → GivesEnviron told (Err e) → r ≡ Err e → LoadsAll told before root r
