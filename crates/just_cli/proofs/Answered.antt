-- What was found to be asked for is what is asked for.
use Rattle.std.proofs.Common.{◌≡◌, ◌⊎◌, inl, inr, ℕ, Bool, true, false, List, Option, Some, None, Result, Ok, Err, MatchOption, refl}
use Rattle.just_host_record.specs.World.{World}
use Rattle.just_host_record.specs.declared.entry.Entry.{Entry}
use Rattle.just_exec.specs.declared.error.Error.{Error}
use Rattle.just_cli_plan.specs.Own.{is_fault, is_too_big, is_uncaptured, IsOwn}
use Rattle.just_cli.specs.Acts.{Act, AreToldBehind}
use Rattle.just_cli.specs.Answered.{Asking, asked_by, IsBeside, call_failed, uncaptured, too_big, no_memory, AsksFor, Fits, IsAnswered, IsFound}
use Rattle.just_cli.specs.Asked.{Asked}
use Rattle.just_cli.specs.Request.{ArePassed, NoneFailed}
use Rattle.just_cli.proofs.Requests.{one_answer}

-- with the same acts one thing is asked for, or refused with one error, where no listing failed
abbrev pub AsksOne : Asking → Type 0
AsksOne q =
    (acts : List Act) → AreToldBehind acts → (ls ms : List Entry) (after later : Option World) (r s : Result Asked Error) → NoneFailed ls → NoneFailed ms → q.asks ls acts after r → IsOwn r → q.asks ms acts later s → IsOwn s → r ≡ s

-- so it is over a told world
abbrev pub AsksOneIn : Asking → Option World → Type 0
AsksOneIn q told = MatchOption told (Unit {0}) (λ w. AsksOne q)

pub words_ask_one : (words : List (List ℕ)) (told : Option World) → AsksOneIn (asked_by words told) told
words_ask_one words None = tt
words_ask_one words (Some w) = λ acts told ls ms after later r s none never p m q n. one_answer words w acts told ls ms after later r s none never p m q n

module _ (q : Asking) (listings : List Entry) (acts : List Act) (between : Option World) where
  -- a refusal is beside what is asked, or its own
  beside_or_own : (e : Error) (fault big lost : Bool) → is_fault e ≡ fault → is_too_big e ≡ big → is_uncaptured e ≡ lost → q.asks listings acts between (Err e) → IsBeside q listings acts between e ⊎ IsOwn {A = Asked} (Err e)
  beside_or_own e true big lost f b u asks = inl (call_failed f asks)
  beside_or_own e false true lost f b u asks = inl (too_big (b, asks))
  beside_or_own e false false true f b u asks = inl (uncaptured u asks)
  beside_or_own e false false false f b u asks = inr (f, b, u)

  module _ (one : AsksOne q) (none : NoneFailed listings) (told : AreToldBehind acts) (own_listings : List Entry) (never : NoneFailed own_listings) (own_between : Option World) (asked : Result Asked Error) (asks : q.asks own_listings acts own_between asked) (own : IsOwn asked) where
    fits_refusal : (e : Error) → q.asks listings acts between (Err e) → IsBeside q listings acts between e ⊎ IsOwn {A = Asked} (Err e) → Fits q listings acts between (Err e) asked
    fits_refusal e refuses (inl b) = inr b
    fits_refusal e refuses (inr other) = inl (one acts told own_listings listings own_between between asked (Err e) never none asks own refuses other)

    fits : (found : Result Asked Error) → AsksFor q listings acts between found → Fits q listings acts between found asked
    fits (Ok x) so = one acts told own_listings listings own_between between asked (Ok x) never none asks own so tt
    fits (Err e) (inl refuses) = fits_refusal e refuses (beside_or_own e (is_fault e) (is_too_big e) (is_uncaptured e) refl refl refl refuses)
    fits (Err e) (inr wants) = inr (no_memory wants.0)

answered : (q : Asking) (told : Option World) → AsksOneIn q told → (listings : List Entry) (acts : List Act) (between : Option World) (found : Result Asked Error) → AsksFor q listings acts between found → IsAnswered q told listings acts between found
answered q None one listings acts between found so = tt
answered q (Some w) one listings acts between found so = λ none r asks own. fits q listings acts between one none asks.2 asks.0 asks.3 asks.1 r asks.4 own found so

pub is_found : (q : Asking) (told : Option World) → AsksOneIn q told → (listings : List Entry) → ArePassed q.global listings → (acts : List Act) (between : Option World) (found : Result Asked Error) → AsksFor q listings acts between found
    → IsFound q told listings acts between found
is_found q told one listings passed acts between found so = record { passed = passed; asked = so; answered = answered q told one listings acts between found so }
