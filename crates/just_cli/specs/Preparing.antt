-- What the preparation of a run leaves in its host's record, makes of a told world, and answers.
use Rattle.std.specs.Prelude.{ℕ, ◌≡◌, ◌⊎◌, ◌++◌, true, false, List, [], ◌∷◌, Option, option_map, Result, Ok, Err}
use Rattle.std.specs.List.{list_any, AllByRecursion}
use Rattle.std.specs.Int.NonZero.{non_zero_u64_get}
use Rattle.just_host_record.specs.declared.entry.Entry.{Entry}
use Rattle.just_host_record.specs.Record.{is_missed, is_failed}
use Rattle.just_host_record.specs.World.{World, Moment}
use Rattle.just_sched_history.specs.declared.plan_node.PlanNode.{PlanNode}
use Rattle.just_search.specs.Removals.{with_entries}
use Rattle.just_exec.specs.declared.error.Error.{Error}
use Rattle.just_cli_plan.specs.Own.{OrMemory, is_uncaptured}
use Rattle.just_cli_plan.specs.Request.{outline_of}
use Rattle.just_cli.specs.declared.replied.Replied.{Replied}
use Rattle.just_cli.specs.declared.replied.Replied.TheVariants as replied
use Rattle.just_cli.specs.Replies.{Reply}
use Rattle.just_cli.specs.Acts.{Act, AreActs, folders_in, captures_in, uncaptured_in}
use Rattle.just_cli.specs.Altered.{IsAltered}
use Rattle.just_cli_plan.specs.Pairs.{entries_of as entries_in}
use Rattle.just_cli_children.specs.Faults.{entries_of}
use Rattle.just_cli.specs.Request.{ArePassed}

-- misses alone: of files that aren't there, as a project and its dotenv files are loaded
abbrev pub AreMisses : List Entry → Type 0
AreMisses es = AllByRecursion (λ e. is_missed e ≡ true) es

-- behind the entries of listings misses, and behind them the entry of the refused call that an error tells, if it tells one
abbrev pub EndsWith : List Entry → Error → List Entry → Type 0
EndsWith listings e es = (misses : List Entry) × AreMisses misses × (es ≡ listings ++ (misses ++ entries_of e))

-- Behind the entries of listings those of the acts in their order, and misses among them; each child of the acts was run to its end.
abbrev pub LeavesActs : List Entry → List Act → List Entry → Type 0
LeavesActs listings acts es =
    (among : List Entry) × AreActs acts among × (es ≡ listings ++ among) × (uncaptured_in acts ≡ [])

-- each child of the acts was run to its end, or but one of that program, of which the error tells
abbrev pub IsProgram : List Act → Error → List ℕ → Type 0
IsProgram acts e program =
    (uncaptured_in acts ≡ []) ⊎ ((is_uncaptured e ≡ true) × (uncaptured_in acts ≡ program ∷ []))

-- The same, and behind them the entry of the refused call that an error tells, if it tells one. Some calls have a path in their entry that their error doesn't
-- tell; that of a child that couldn't be run to its end is its program.
abbrev pub EndsActs : List Entry → List Act → Error → List Entry → Type 0
EndsActs listings acts e es =
    (among : List Entry) × (path : List ℕ) × AreActs acts among
    × (es ≡ listings ++ (among ++ entries_in path e)) × IsProgram acts e path

-- what a preparation leaves behind the entries of listings
abbrev pub Leaves : {A : Type 0} → List Entry → List Act → Result A Error → List Entry → Type 0
Leaves listings acts (Ok x) es = LeavesActs listings acts es
Leaves listings acts (Err e) es = EndsActs listings acts e es

-- an answer, or want of memory in its place
abbrev pub Answers : {A : Type 0} → (Result A Error → Type 0) → Result A Error → Type 0
Answers P (Ok x) = P (Ok x)
Answers P (Err e) = OrMemory (λ f. P (Err f)) e

-- a claim of an answer, and of a refusal that doesn't tell that a child wasn't run to its end
abbrev pub UnlessUncaptured : {A : Type 0} → Result A Error → Type 0 → Type 0
UnlessUncaptured (Ok x) claim = claim
UnlessUncaptured (Err e) claim = is_uncaptured e ≡ false → claim

-- A part of a preparation takes these acts between two moments: it answers what is given with them, or want of memory, and was begun by them; its
-- temporary folders are kept behind those that were kept; its record gains what it leaves; and where no child was run to its end and no call failed, a told
-- world is as it was, but for paths at or below these folders.
pub record Performs {A : Type 0} (gives : List Act → Option World → Result A Error → Type 0) (begins : List Act → Option World → Type 0)
    (before after : Moment) (kept keeps : List (List ℕ)) (r : Result A Error) : Type 0 where
  pub acts : List Act
  pub entries : List Entry
  pub grew : after.entries ≡ before.entries ++ entries
  pub leaves : Leaves [] acts r entries
  pub folders : keeps ≡ kept ++ folders_in acts
  pub answers : Answers (gives acts after.world) r
  pub begun : UnlessUncaptured r (begins acts after.world)
  pub still : folders_in acts ≡ [] → captures_in acts ≡ [] → list_any is_failed entries ≡ false
      → after.world ≡ before.world
  pub alters : (nodes : List PlanNode) → captures_in acts ≡ [] → list_any is_failed entries ≡ false → IsAltered (folders_in acts) nodes before.world after.world

-- the same behind listings that were passed over
abbrev pub Prepares : {A : Type 0} → Type 0 → (List Entry → List Act → Option World → Result A Error → Type 0) → (List Entry → List Act → Option World → Type 0)
    → Moment → Moment → List (List ℕ) → List (List ℕ) → Result A Error → Type 0
Prepares global asks begins before after kept keeps r =
    (listings : List Entry) × ArePassed global listings × Performs (asks listings) (begins listings) (with_entries before listings) after kept keeps r

-- a listing, or a plan, its job limit, if it has one, and of each node whether the message of its exit code is told, as they are asked for
abbrev pub reply_of : Replied → Reply
reply_of (replied.List p) = Reply.lists p
reply_of (replied.Plan p jobs messages) = Reply.runs (outline_of p (option_map non_zero_u64_get jobs) messages)

abbrev pub as_asked : Result Replied Error → Result Reply Error
as_asked (Ok x) = Ok (reply_of x)
as_asked (Err e) = Err e

-- the same, where there may be none
abbrev pub as_chosen : Result (Option Replied) Error → Result (Option Reply) Error
as_chosen (Ok x) = Ok (option_map reply_of x)
as_chosen (Err e) = Err e
