-- Children that are run to their end for what they print.
use Rattle.std.specs.Prelude.{ℕ, List, [], ◌∷◌, ◌++◌, Option, Some, None, MatchOption}
use Rattle.just_path.specs.declared.host.Miss.{Miss}
use Rattle.just_host_record.specs.declared.entry.Entry.{Entry}
use Rattle.just_host_record.specs.declared.entry.Entry.TheVariants as entry
use Rattle.just_host_record.specs.declared.entry.Spec.{Spec}
use Rattle.just_host_record.specs.declared.entry.Status.{Status}
use Rattle.just_host_record.specs.declared.signal.Signal.{Signal}
use Rattle.just_host_record.specs.World.{World, Touched, LeftAlone}

-- A child that was run to its end: what it was asked for by, what it was fed, how it ended, what it
-- printed, the signal that its host told behind it, if it told one, and the world that it told then.
pub record Capture : Type 0 where
  pub spec : Spec
  pub input : List ℕ
  pub status : Status
  pub output : List ℕ
  pub signal : Option Signal
  pub after : Option World

-- the entry of a signal that was told, if one was
abbrev pub entries_of_signal : Option Signal → List Entry
entries_of_signal (Some signal) = entry.Signalled signal ∷ []
entries_of_signal None = []

-- its entries in the record: its own, and directly behind it that of the signal
abbrev pub entries_of_capture : Capture → List Entry
entries_of_capture c = entry.Captured c.spec c.input c.status c.output ∷ entries_of_signal c.signal

-- What such a child leaves of the world that was told before it: all but the files and the disk; and all of it, where the host tells of it that it
-- leaves the files alone.
abbrev pub LeavesWorld : Option World → Capture → Type 0
LeavesWorld told c = Touched told c.after × LeftAlone told c.after c.spec

-- the world that is told behind some children
abbrev pub told_behind : Option World → List Capture → Option World
told_behind told [] = told
told_behind told (c ∷ cs) = told_behind c.after cs

-- behind each of them a world is told
abbrev pub AreTold : List Capture → Type 0
AreTold [] = Unit {0}
AreTold (c ∷ cs) = MatchOption c.after ⊥ (λ w. Unit {0}) × AreTold cs

-- entries are those of some children in their order, and misses among them
pub data AreAmongMisses : List Capture → List Entry → Type 0 where
  none : AreAmongMisses [] []
  a_miss : (path : List ℕ) (m : Miss) (cs : List Capture) (es : List Entry) → AreAmongMisses cs es → AreAmongMisses cs (entry.Missed path m ∷ es)
  a_child : (c : Capture) (cs : List Capture) (es : List Entry) → AreAmongMisses cs es → AreAmongMisses (c ∷ cs) (entries_of_capture c ++ es)
