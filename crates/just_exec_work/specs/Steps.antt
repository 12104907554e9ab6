-- The commands of a body, and the step after the statuses of those that ended.
use Rattle.std.specs.Prelude.{◌≡◌, ℕ, ◌-◌, ◌&&◌, ◌||◌, not, Bool, true, false, if◌then◌else◌, List, [], ◌∷◌, length, slice_get, is_some, Option, Some, None, ℤ, pos}
use Rattle.std.specs.Ordering.{int_eq}
use Rattle.just_host_record.specs.declared.entry.Status.{Status}
use Rattle.just_host_record.specs.declared.entry.Status.TheVariants as status
use Rattle.just_exec_work.specs.declared.work.Command.{Command}
use Rattle.just_exec_work.specs.declared.work.Step.{Step}
use Rattle.just_exec_work.specs.declared.work.Step.TheVariants as step
use Rattle.just_exec_work.specs.declared.work.Work.{Work}
use Rattle.just_exec_work.specs.declared.work.Work.TheVariants as work

-- the commands of a body in their order
abbrev pub commands_of : Work → List Command
commands_of (work.Lines commands) = commands
commands_of (work.Script command) = command ∷ []
commands_of work.Empty = []

abbrev pub is_code : ℤ → Status → Bool
is_code z (status.Code c) = int_eq c z
is_code z (status.Signal s) = false
is_code z status.Unknown = false

-- whether a command that ended so ends its body well: a guard, by the code 1
abbrev pub ends_body : Command → Status → Bool
ends_body c s = c.guard && is_code (pos 1) s

-- whether a body goes on behind a command that ended so: the code 0 lets it, and any ending of a forgiving command that is
-- no guard
abbrev pub goes_on : Command → Status → Bool
goes_on c s = is_code (pos 0) s || (c.forgiving && not c.guard)

-- command n, if there is one, else the body has ended well
abbrev pub start_or_well : Work → ℕ → Step
start_or_well w n = if is_some (slice_get (commands_of w) n) then step.Start n else step.Well

-- the step behind command `n - 1`, which ended so
abbrev pub step_behind : Work → ℕ → Option Command → Option Status → Step
step_behind w n (Some c) (Some s) = if ends_body c s then step.Well else (if goes_on c s then start_or_well w n else step.Failed)
step_behind w n (Some c) None = start_or_well w n
step_behind w n None s = start_or_well w n

-- the step after n statuses: failed or well where the last of them ends the body, else command n or the end
abbrev pub after : Work → List Status → Step
after w [] = start_or_well w 0
after w (s ∷ ss) = step_behind w (length (s ∷ ss)) (slice_get (commands_of w) (length (s ∷ ss) - 1)) (slice_get (s ∷ ss) (length (s ∷ ss) - 1))

-- each status but the last let the body go on, and there is a command for each
abbrev pub EachWentOn : List Command → List Status → Type 0
EachWentOn cs [] = Unit {0}
EachWentOn [] (s ∷ ss) = ⊥
EachWentOn (c ∷ cs) (s ∷ []) = Unit {0}
EachWentOn (c ∷ cs) (s ∷ t ∷ ss) = (goes_on c s ≡ true) × (ends_body c s ≡ false) × EachWentOn cs (t ∷ ss)
