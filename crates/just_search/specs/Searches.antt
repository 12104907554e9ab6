-- The search for a justfile, and for the one above it, each as a file that can be loaded.
use Rattle.std.specs.Prelude.{ℕ, ◌≡◌, List, ◌++◌, Option, Some, None, Result, Ok, Err}
use Rattle.just_host_record.specs.World.{Moment}
use Rattle.just_config.specs.declared.config.Config.{Config}
use Rattle.just_env.specs.declared.search_error.SearchError.{SearchError}
use Rattle.just_env.specs.declared.search_error.SearchError.TheVariants as error
use Rattle.just_env.specs.Answers.{Answers, told_entries}
use Rattle.just_search.specs.declared.search_result.Search.{Search}
use Rattle.just_search.specs.declared.location.Location.{Location}
use Rattle.just_search.specs.Finding.{Finds}
use Rattle.just_search.specs.Record.{FindGains}
use Rattle.just_search.specs.Fallback.{FallsBack}
use Rattle.just_search.specs.Files.{parent_of, MakesFolders, Materializes}

-- The justfile in a place becomes a file that can be loaded: what that makes of what is told, and which temporary folders are kept behind others; or why
-- it doesn't.
abbrev pub BecomesFile : Moment → Moment → Config → Location → List (List ℕ) → List (List ℕ) → Result Search SearchError → Type 0
BecomesFile before after config place kept keeps r =
    MakesFolders (Materializes before.world after.world (parent_of config) place) (parent_of config) kept keeps before.entries after.entries r

-- the place of the justfile of a configuration, or why there is none: all stays but for the record
abbrev pub FindsPlace : Moment → Moment → Config → Result Location SearchError → Type 0
FindsPlace before after config r =
    Answers (Finds before after config) r × FindGains config.search_config before.entries after.entries r × (after.world ≡ before.world)

-- the place above a folder, if there is one, or why it can't be found: all stays but for the record
abbrev pub FindsNext : Moment → Moment → Config → List ℕ → Result (Option Location) SearchError → Type 0
FindsNext before after config folder r =
    Answers (FallsBack before.world config folder) r × (after.entries ≡ before.entries ++ told_entries r) × (after.world ≡ before.world)

-- The search for the justfile of a configuration: it is found, and becomes a file that can be loaded; or it isn't found, and all stays but for the record.
pub data Searches (before after : Moment) (config : Config) (kept keeps : List (List ℕ)) : Result Search SearchError → Type 0 where
  found : (place : Location) (between : Moment) (r : Result Search SearchError) → FindsPlace before between config (Ok place)
      → BecomesFile between after config place kept keeps r → Searches before after config kept keeps r
  unfound : (e : SearchError) → FindsPlace before after config (Err e) → keeps ≡ kept → Searches before after config kept keeps (Err e)

-- The search for the justfile above a folder, which is the one that is tried behind a justfile in that folder: it becomes a file that can be loaded. Where
-- none is tried, none is found; where that can't be told, the search is refused; then all stays but for the record.
pub data SearchesAbove (before after : Moment) (config : Config) (folder : List ℕ) (kept keeps : List (List ℕ)) : Result Search SearchError → Type 0 where
  above : (place : Location) (between : Moment) (r : Result Search SearchError) → FindsNext before between config folder (Ok (Some place))
      → BecomesFile between after config place kept keeps r → SearchesAbove before after config folder kept keeps r
  nowhere : FindsNext before after config folder (Ok None) → keeps ≡ kept → SearchesAbove before after config folder kept keeps (Err error.NotFound)
  refused : (e : SearchError) → FindsNext before after config folder (Err e) → keeps ≡ kept → SearchesAbove before after config folder kept keeps (Err e)
