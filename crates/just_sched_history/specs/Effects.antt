-- What the events of a run make of a told world, where no child was started and no call failed.
use Rattle.std.specs.Prelude.{◌≡◌, List, [], ◌∷◌, ◌++◌, Option}
use Rattle.just_host_record.specs.World.{World}
use Rattle.just_sched_history.specs.declared.event.Event.{Event}
use Rattle.just_sched_history.specs.declared.event.Event.TheVariants as event
use Rattle.just_sched_history.specs.Cached.{entry_of, saved_text}
use Rattle.just_sched_history.specs.Legal.{Run}
use Rattle.just_sched_history.specs.Match.{OfCache, OfSums}
use Rattle.just_sched_history.specs.Touched.{IsLooked, IsWritten}

-- What one event makes of it, behind the history h: a look makes the entry of its sums, empty, where it lacked, and a save makes the entry of the
-- sums of the look hold its text. Each other event leaves all as it was, a look or a save that was refused too.
abbrev pub Makes : Run → List Event → Event → Option World → Option World → Type 0
Makes s h (event.Looked n sums seen) old new = OfCache s n (λ c. IsLooked (entry_of c sums) old new)
Makes s h (event.Saved n) old new = OfSums s h n (λ c sums. IsWritten (entry_of c sums) (saved_text c) old new)
Makes s h (event.Asked n y) old new = new ≡ old
Makes s h (event.Took n) old new = new ≡ old
Makes s h (event.Skipped n) old new = new ≡ old
Makes s h (event.Begun n) old new = new ≡ old
Makes s h (event.Started n i child) old new = new ≡ old
Makes s h (event.Ended n i child status) old new = new ≡ old
Makes s h (event.Done n outcome) old new = new ≡ old
Makes s h (event.Gave n) old new = new ≡ old
Makes s h (event.Caught signal) old new = new ≡ old

abbrev pub MakesFrom : Run → List Event → List Event → Option World → Option World → Type 0
MakesFrom s before [] old new = new ≡ old
MakesFrom s before (e ∷ later) old new =
    (mid : Option World) × Makes s before e old mid × MakesFrom s (before ++ e ∷ []) later mid new

-- the second world is what the history's events make of the first, one behind the other
abbrev pub IsMadeBy : Run → List Event → Option World → Option World → Type 0
IsMadeBy s h old new = MakesFrom s [] h old new
