-- The stack of paths that are still to be loaded, and what one turn of the loading makes of it.
use Rattle.std.specs.Prelude.{ℕ, ◌≡◌, ◌⊎◌, true, List, [], ◌∷◌, ◌++◌, Option, Some, None, Result, Ok, Err}
use Rattle.std.specs.List.{AllByRecursion}
use Rattle.just_path.specs.Clean.{cleaned}
use Rattle.just_lang_types.specs.declared.source.Source.{Source}
use Rattle.just_lang_layout.specs.Paths.{Pairs}
use Rattle.just_host_record.specs.World.{World}
use Rattle.just_env.specs.declared.search_error.SearchError.{SearchError}
use Rattle.just_env.specs.declared.search_error.SearchError.TheVariants as error
use Rattle.just_search_load.specs.Loads.{Loads, is_loaded, to_load}
use Rattle.just_search_load.specs.Numbers.{number_at}

-- a stack without the loaded paths on top
pub record Skips (sources : List Source) (old left : List (List ℕ)) : Type 0 where
  pub skipped : List (List ℕ)
  pub front : to_load old ≡ skipped ++ left
  pub loaded : AllByRecursion (λ path. is_loaded sources path ≡ true) skipped

-- the next path on a stack that wasn't loaded, with its clean form; none where there is no such path
abbrev pub Nexts : List Source → List (List ℕ) → List (List ℕ) → Option (List ℕ × List ℕ) → Type 0
Nexts sources old new None = Skips sources old []
Nexts sources old new (Some x) = (x.1 ≡ cleaned x.0) × (number_at sources x.1 ≡ None) × Skips sources old (x.0 ∷ to_load new)

-- names stand before what was to be loaded, or they are refused; want of memory may come in its place
abbrev pub AddsNames : (Result (List (List ℕ)) SearchError → Type 0) → List (List ℕ) → List (List ℕ) → Result (Unit {0}) SearchError → Type 0
AddsNames P old new (Ok x) = (named : List (List ℕ)) × P (Ok named) × (new ≡ named ++ old)
AddsNames P old new (Err e) = (e ≡ error.NoMemory) ⊎ P (Err e)

-- whatever the paths that are left come to behind the sources that are loaded now, the first paths come to behind the first sources
pub record Continues (told : Option World) (environ : Pairs) (before : List Source) (first : List (List ℕ)) (now : List Source) (left : List (List ℕ)) : Type 0 where
  pub so : (r : Result (List Source) SearchError) → Loads told environ now left r → Loads told environ before first r

-- a path is loaded, and the paths that are left are those that its source names, before the others; or it is refused
abbrev pub Turns : Option World → Pairs → List Source → List ℕ → List (List ℕ) → List Source → List (List ℕ) → Result (Unit {0}) SearchError → Type 0
Turns told environ before path paths now left (Ok x) = Continues told environ before (path ∷ paths) now left
Turns told environ before path paths now left (Err e) = (e ≡ error.NoMemory) ⊎ Loads told environ before (path ∷ paths) (Err e)
