-- What is asked of a host, and the answer that was found to it.
use Rattle.std.specs.Prelude.{ℕ, ◌≡◌, ◌⊎◌, Bool, true, List, Option, Result, Ok, Err, IfErr, MatchOption}
use Rattle.just_host_record.specs.declared.entry.Entry.{Entry}
use Rattle.just_host_record.specs.World.{World, Moment}
use Rattle.just_exec.specs.declared.error.Error.{Error}
use Rattle.just_exec.specs.declared.error.Error.TheVariants as error
use Rattle.just_cli_plan.specs.Own.{is_fault, is_too_big, is_uncaptured, IsOwn}
use Rattle.just_cli.specs.declared.ended.Failure.{Failure}
use Rattle.just_cli.specs.declared.ended.Report.{Report}
use Rattle.just_cli.specs.Acts.{Act, AreToldBehind}
use Rattle.just_cli.specs.Asked.{Asked, Asks, AsksGlobal, Begins}
use Rattle.just_cli.specs.Quiet.{AsksQuiet, AskQuiet}
use Rattle.just_cli.specs.Record.{Hindered}
use Rattle.just_cli.specs.Request.{ArePassed, NoneFailed}

-- What is asked of a host that tells one world, if it tells any.
pub record Asking : Type 1 where
  -- that is asked for, or refused so, over listings that were passed over, with these acts, in the world that is told behind them
  pub asks : List Entry → List Act → Option World → Result Asked Error → Type 0
  -- so much of it was begun
  pub begins : List Entry → List Act → Option World → Type 0
  -- the user's own justfile is looked for
  pub global : Type 0
  -- quiet is asked for, or isn't; and so, where it is refused by that error
  pub quiet : Bool → Type 0
  pub quiet_at : Bool → Error → Type 0

-- it is asked by words
abbrev pub asked_by : List (List ℕ) → Option World → Asking
asked_by words told = record { asks = Asks words told; begins = Begins words told; global = AsksGlobal words told; quiet = AsksQuiet words told; quiet_at = AskQuiet words told }

-- with these acts that is asked for, behind each of whose children a world is told, where no listing failed
abbrev pub AsksIn : Asking → List Act → Result Asked Error → Type 0
AsksIn q acts r = (listings : List Entry) × (after : Option World) × AreToldBehind acts × NoneFailed listings × q.asks listings acts after r

-- ---- what was found to be asked for

-- why it is refused: what is asked, or a call of the host that it needs, is refused so; or memory is wanting, and these acts were taken for it so far
abbrev pub RefusedFor : Asking → List Entry → List Act → Option World → Error → Type 0
RefusedFor q listings acts after e = q.asks listings acts after (Err e) ⊎ ((e ≡ error.NoMemory) × q.begins listings acts after)

abbrev pub AsksFor : Asking → List Entry → List Act → Option World → Result Asked Error → Type 0
AsksFor q listings acts after (Ok x) = q.asks listings acts after (Ok x)
AsksFor q listings acts after (Err e) = RefusedFor q listings acts after e

-- it is refused since a pattern of the project is too big for the library
abbrev pub IsTooBig : Asking → List Entry → List Act → Option World → Error → Type 0
IsTooBig q listings acts after e = (is_too_big e ≡ true) × q.asks listings acts after (Err e)

-- An error that what is asked and the world don't determine: a call of the host failed, a child couldn't be run to its end, a pattern is too big for the
-- library, or memory is wanting.
pub data IsBeside (q : Asking) (listings : List Entry) (acts : List Act) (after : Option World) (e : Error) : Type 0 where
  call_failed : is_fault e ≡ true → q.asks listings acts after (Err e) → IsBeside q listings acts after e
  uncaptured : is_uncaptured e ≡ true → q.asks listings acts after (Err e) → IsBeside q listings acts after e
  too_big : IsTooBig q listings acts after e → IsBeside q listings acts after e
  no_memory : e ≡ error.NoMemory → IsBeside q listings acts after e

-- what was found is what is asked for; an error that isn't determined may come in its place
abbrev pub Fits : Asking → List Entry → List Act → Option World → Result Asked Error → Result Asked Error → Type 0
Fits q listings acts after (Ok x) asked = asked ≡ Ok x
Fits q listings acts after (Err e) asked = (asked ≡ Err e) ⊎ IsBeside q listings acts after e

-- it fits whatever is asked for in the told world with these acts, where no listing for the user's own justfile failed
abbrev pub IsAnswered : Asking → Option World → List Entry → List Act → Option World → Result Asked Error → Type 0
IsAnswered q told listings acts after found =
    MatchOption told (Unit {0}) (λ w. NoneFailed listings → (asked : Result Asked Error) → AsksIn q acts asked → IsOwn asked → Fits q listings acts after found asked)

-- That was found to be asked for, over these listings, which were passed over, with these acts, in the world that is told behind them.
pub record IsFound (q : Asking) (told : Option World) (listings : List Entry) (acts : List Act) (after : Option World) (found : Result Asked Error) : Type 0 where
  pub passed : ArePassed q.global listings
  pub asked : AsksFor q listings acts after found
  pub answered : IsAnswered q told listings acts after found

-- ---- how it is served

-- what stood against it between these moments, whose preparation ended at the second: memory is wanting, a pattern is too big, or the record shows it
abbrev pub StoodAgainst : Asking → List Entry → List Act → Option ℕ → Moment → Moment → Moment → Failure → Type 0
StoodAgainst q listings acts jobs before between after f =
    (f.error ≡ error.NoMemory) ⊎ (IsTooBig q listings acts between.world f.error ⊎ Hindered listings acts f jobs before.entries after.entries)

-- Over a told world what is asked for with these acts ends well, where no listing for the user's own justfile failed, unless something stood against it.
abbrev pub IsServed : Asking → List Entry → List Act → Option ℕ → Moment → Moment → Moment → Result Report Failure → Type 0
IsServed q listings acts jobs before between after result =
    MatchOption before.world (Unit {0}) (λ w.
    NoneFailed listings → (x : Asked) → AsksIn q acts (Ok x) → IfErr result (λ f. ∥ StoodAgainst q listings acts jobs before between after f ∥₁))
