-- A search and what is made of its place, as one step.
use Rattle.std.proofs.Common.{◌≡◌, ◌<◌, ℕ, List, [], ◌++◌, length, Option, Some, None, refl, sym, subst}
use Rattle.std.specs.Prelude.{Result, Ok, Err, IfOk}
use Rattle.just_host_record.specs.World.{World, Moment}
use Rattle.just_config.specs.declared.config.Config.{Config}
use Rattle.just_env.specs.declared.search_error.SearchError.{SearchError}
use Rattle.just_env.specs.declared.search_error.SearchError.TheVariants as error
use Rattle.just_env.specs.Answers.{Answers, entries_of}
use Rattle.just_search.specs.declared.search_result.Search.{Search}
use Rattle.just_search.specs.declared.location.Location.{Location}
use Rattle.just_search.specs.Finding.{Finds}
use Rattle.just_search.specs.Record.{FindGains}
use Rattle.just_search.specs.Fallback.{FallsBack}
use Rattle.just_search.specs.Files.{WritesText, Materializes}
use Rattle.just_search.specs.Searches.{BecomesFile, Searches, SearchesAbove}

-- ---- of a configuration

pub is_found : (before between after : Moment) (config : Config) (kept keeps : List (List ℕ)) (place : Location) (r : Result Search SearchError) → Finds before between config (Ok place)
    → FindGains {A = Location} config.search_config before.entries between.entries (Ok place) → between.world ≡ before.world → BecomesFile between after config place kept keeps r
    → Searches before after config kept keeps r
is_found before between after config kept keeps place r finds gains same takes = Searches.found place between r (finds, gains, same) takes

pub is_unfound : (before after : Moment) (config : Config) (kept keeps : List (List ℕ)) (e : SearchError) → after.world ≡ before.world → keeps ≡ kept → Answers (Finds before after config) (Err e)
    → FindGains {A = Location} config.search_config before.entries after.entries (Err e) → Searches before after config kept keeps (Err e)
is_unfound before after config kept keeps e world all finds gains = Searches.unfound e (finds, gains, world) all

-- ---- above a folder

pub is_above : (before between after : Moment) (config : Config) (here folder : List ℕ) (kept keeps : List (List ℕ)) (place : Location) (r : Result Search SearchError) → between.world ≡ before.world → here ≡ folder
    → FallsBack before.world config here (Ok (Some place)) → between.entries ≡ before.entries ++ [] → BecomesFile between after config place kept keeps r → SearchesAbove before after config folder kept keeps r
is_above before between after config here folder kept keeps place r same is falls gains takes =
    SearchesAbove.above place between r (subst (λ f. FallsBack before.world config f (Ok (Some place))) is falls, gains, same) takes

pub is_nowhere : (before after : Moment) (config : Config) (here folder : List ℕ) (kept : List (List ℕ)) → after.world ≡ before.world → here ≡ folder → FallsBack before.world config here (Ok None)
    → after.entries ≡ before.entries ++ [] → SearchesAbove before after config folder kept kept (Err error.NotFound)
is_nowhere before after config here folder kept same is falls gains = SearchesAbove.nowhere (subst (λ f. FallsBack before.world config f (Ok None)) is falls, gains, same) refl

pub is_refused : (before after : Moment) (config : Config) (here folder : List ℕ) (kept : List (List ℕ)) (e : SearchError) → after.world ≡ before.world → here ≡ folder → Answers (FallsBack before.world config here) (Err e)
    → after.entries ≡ before.entries ++ entries_of e → SearchesAbove before after config folder kept kept (Err e)
is_refused before after config here folder kept e same is falls gains = SearchesAbove.refused e (subst (λ f. Answers (FallsBack before.world config f) (Err e)) is falls, gains, same) refl

-- ---- its working folder is that of the place

written_in : (told after : Option World) (parent : Option (List ℕ)) (text working : List ℕ) (folders : List (List ℕ)) (s : Search) → WritesText told after parent text working folders (Ok s) → s.working_directory ≡ working
written_in told after parent text working folders s (WritesText.a_file between folder makes writes) = refl

run_in : (told after : Option World) (parent : Option (List ℕ)) (place : Location) (folders : List (List ℕ)) (s : Search) → Materializes told after parent place folders (Ok s) → s.working_directory ≡ place.working_directory
run_in told after parent place folders s (Materializes.file path from world) = refl
run_in told after parent place folders s (Materializes.read text made r gives writes) = written_in told after parent text place.working_directory made s writes

pub is_higher : (before after : Moment) (config : Config) (here folder : List ℕ) (kept keeps : List (List ℕ)) (place : Location) (r : Result Search SearchError) → here ≡ folder
    → BecomesFile before after config place kept keeps r → length place.working_directory < length here → IfOk r (λ s. length s.working_directory < length folder)
is_higher before after config here folder kept keeps place (Ok s) is (folders, all, entries, materializes) higher =
    subst (λ f. length s.working_directory < length f) is
    (subst (λ w. length w < length here) (sym (run_in before.world after.world _ place folders s materializes)) higher)
is_higher before after config here folder kept keeps place (Err e) is takes higher = tt
