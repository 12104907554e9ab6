-- What a host does for a request beside what it looks at, before the book is opened; and steps that take such acts.
use Rattle.std.specs.Prelude.{ℕ, ◌≡◌, List, [], ◌∷◌, ◌++◌, Option, Result, Ok, Err}
use Rattle.just_path.specs.declared.host.Miss.{Miss}
use Rattle.just_host_record.specs.declared.entry.Entry.{Entry}
use Rattle.just_host_record.specs.declared.entry.Entry.TheVariants as entry
use Rattle.just_host_record.specs.World.{World}
use Rattle.just_env.specs.Captures.{Capture, AreTold, entries_of_capture}
use Rattle.just_exec.specs.declared.error.Error.{Error}

-- a temporary folder was made; a child was run to its end for what it printed, or one of that program couldn't be
pub data Act : Type 0 where
  made : List ℕ → Act
  captured : Capture → Act
  uncaptured : List ℕ → Act

-- Its entries in the record; behind that of a child stands the entry of the signal that was told then, if one was. A child that couldn't be run to its end
-- has its entry behind those of all acts, as the one that the error tells.
abbrev pub entries_of_act : Act → List Entry
entries_of_act (Act.made folder) = entry.Made folder ∷ []
entries_of_act (Act.captured c) = entries_of_capture c
entries_of_act (Act.uncaptured program) = []

-- the temporary folders among them, the children, and the programs of those that couldn't be run to their end
abbrev pub folders_in : List Act → List (List ℕ)
folders_in [] = []
folders_in (Act.made folder ∷ acts) = folder ∷ folders_in acts
folders_in (Act.captured c ∷ acts) = folders_in acts
folders_in (Act.uncaptured program ∷ acts) = folders_in acts

abbrev pub captures_in : List Act → List Capture
captures_in [] = []
captures_in (Act.made folder ∷ acts) = captures_in acts
captures_in (Act.captured c ∷ acts) = c ∷ captures_in acts
captures_in (Act.uncaptured program ∷ acts) = captures_in acts

abbrev pub uncaptured_in : List Act → List (List ℕ)
uncaptured_in [] = []
uncaptured_in (Act.made folder ∷ acts) = uncaptured_in acts
uncaptured_in (Act.captured c ∷ acts) = uncaptured_in acts
uncaptured_in (Act.uncaptured program ∷ acts) = program ∷ uncaptured_in acts

-- behind each of these children a world is told
abbrev pub AreToldBehind : List Act → Type 0
AreToldBehind acts = AreTold (captures_in acts)

-- entries are those of some acts in their order, and misses among them
pub data AreActs : List Act → List Entry → Type 0 where
  none : AreActs [] []
  a_miss : (path : List ℕ) (m : Miss) (acts : List Act) (es : List Entry) → AreActs acts es → AreActs acts (entry.Missed path m ∷ es)
  an_act : (a : Act) (acts : List Act) (es : List Entry) → AreActs acts es → AreActs (a ∷ acts) (entries_of_act a ++ es)

-- a step over the world that is told before it: it takes these acts, that world is told behind it, and it answers so
abbrev pub Step : Type 0 → Type 0 → Type 1
Step A B = Option World → List Act → Option World → A → Result B Error → Type 0

-- what was begun of a step over a world: these acts were taken, and that world is told then
abbrev pub Begun : Type 0 → Type 1
Begun A = Option World → List Act → Option World → A → Type 0

-- nothing was begun
abbrev pub NoAct : {A : Type 0} → Begun A
NoAct told acts after x = (acts ≡ []) × (after ≡ told)

-- a step that only looks
abbrev pub Looks : {A B : Type 0} → (Option World → A → Result B Error → Type 0) → Step A B
Looks gives told acts after x r = (acts ≡ []) × (after ≡ told) × gives told x r

-- One step behind another: each takes its acts from the front, and the second goes on from what the first finds, in the world that is told then. A
-- refusal of the first is the refusal of both.
pub data Behind {A B C : Type 0} (first : Step A B) (second : Step B C) (told : Option World) (acts : List Act) (after : Option World) (x : A) (r : Result C Error) : Type 0 where
  refused : (e : Error) → first told acts after x (Err e) → r ≡ Err e → Behind first second told acts after x r
  both : (y : B) (front rest : List Act) (between : Option World) → first told front between x (Ok y) → second between rest after y r → acts ≡ front ++ rest → Behind first second told acts after x r

-- Of two steps one behind the other the first was begun, or it found something, from which the second was begun.
pub data BeginsBehind {A B : Type 0} (begins : Begun A) (first : Step A B) (second : Begun B) (told : Option World) (acts : List Act) (after : Option World) (x : A) : Type 0 where
  at_first : begins told acts after x → BeginsBehind begins first second told acts after x
  at_second : (y : B) (front rest : List Act) (between : Option World) → first told front between x (Ok y) → second between rest after y → acts ≡ front ++ rest
      → BeginsBehind begins first second told acts after x
