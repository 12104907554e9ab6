-- The answer of the whole list of justfiles, as far as it goes by `fallback` alone.
use Rattle.std.specs.Prelude.{◌≡◌, ◌++◌, ◌⊎◌, Bool, true, false, List, [], ◌∷◌, Option, Some, Result, Ok, Err}
use Rattle.std.specs.List.{AllByRecursion}
use Rattle.just_host_record.specs.World.{World}
use Rattle.just_env.specs.declared.search_error.SearchError.{SearchError}
use Rattle.just_search.specs.declared.location.Location.{Location}
use Rattle.just_search.specs.Fallback.{AreTried}
use Rattle.just_lang_types.specs.Modules.{settings_of}
use Rattle.just_exec.specs.declared.error.Error.{Error}
use Rattle.just_exec.specs.Refusals.{error_of_search}
use Rattle.just_cli_plan.specs.Own.{is_fault, IsOwn}
use Rattle.just_cli_texts.specs.Laid.{LaidRequest}
use Rattle.just_cli.specs.Replies.{Reply}
use Rattle.just_cli.specs.Options.{is_lacking, lacks, allowed}
use Rattle.just_cli.specs.Words.{ConfigRequest, LocatedRequest}
use Rattle.just_cli.specs.Request.{FindsProjectAt, AnswersAt, at_place, Tries}

-- whether the justfile in a place sets fallback, which takes no act; one whose project is refused sets none
pub data SetsFallback (told : Option World) (c : ConfigRequest) (location : Location) (fallback : Bool) : Type 0 where
  of_project : (p : LaidRequest) → FindsProjectAt told [] told (at_place c location) (Ok p) → fallback ≡ (settings_of p.laid.justfile).fallback → SetsFallback told c location fallback
  no_project : (e : Error) → FindsProjectAt told [] told (at_place c location) (Err e) → IsOwn {A = LaidRequest} (Err e) → fallback ≡ false → SetsFallback told c location fallback

-- the answer of one that is tried, which takes no act: that of the justfile there, or the refusal of the search
abbrev pub AnswersItem : Option World → ConfigRequest → Result Location SearchError → Result Reply Error → Type 0
AnswersItem told c (Ok location) r = (fallback : Bool) × AnswersAt told [] told (at_place c location) r fallback
AnswersItem told c (Err e) r = r ≡ Err (error_of_search e)

-- one that is tried lacks what is asked for
abbrev pub Lacks : Option World → ConfigRequest → Result Location SearchError → Type 0
Lacks told c item = (e : Error) × AnswersItem told c item (Err e) × (is_lacking e ≡ true)

-- the answer of the first of some that doesn't lack it, or of the last where there is no such
pub data AnswersFirst (told : Option World) (c : ConfigRequest) (items : List (Result Location SearchError)) (r : Result Reply Error) : Type 0 where
  answers : (before behind : List (Result Location SearchError)) (item : Result Location SearchError) → items ≡ before ++ item ∷ behind → AllByRecursion (Lacks told c) before → AnswersItem told c item r → (lacks r ≡ false) ⊎ (behind ≡ [])
      → AnswersFirst told c items r

-- no failed call of the host is among them
abbrev pub IsFound : Result Location SearchError → Type 0
IsFound (Ok location) = Unit {0}
IsFound (Err e) = is_fault (error_of_search e) ≡ false

-- over a told world, where no temporary folder is made, the answer to the words is that of the first in the whole list, which the words may allow
abbrev pub FirstAnswers : Type 0
FirstAnswers = (w : World) (q : LocatedRequest) (items : List (Result Location SearchError)) (r : Result Reply Error) → AreTried (Some w) q.config (SetsFallback (Some w) (record { config = q.config; environ = q.environ })) q.location items
    → AllByRecursion IsFound items → Tries (Some w) [] (Some w) q r → IsOwn r → (x : Result Reply Error) × AnswersFirst (Some w) (record { config = q.config; environ = q.environ }) items x × (r ≡ allowed q.config x)
