-- The error of a script that couldn't be started or waited for, by what runs it.
use Rattle.std.specs.Prelude.{ℕ, List, ◌∷◌, ◌++◌}
use Rattle.std.specs.List.{flat_map}
use Rattle.just_host_record.specs.declared.entry.HostFault.{HostFault}
use Rattle.just_host_record.specs.declared.entry.HostFault.TheVariants as fault
use Rattle.just_exec_work.specs.Scripts.{Runner, by_command, by_shebang}
use Rattle.just_exec.specs.declared.error.Error.{Error}
use Rattle.just_exec.specs.declared.error.Error.TheVariants as error

-- texts, each with a blank in front
abbrev pub with_blanks : List (List ℕ) → List ℕ
with_blanks ts = flat_map (λ t. 32 ∷ t) ts

-- a program and its arguments, with a blank between two of them
abbrev pub spaced : List ℕ → List (List ℕ) → List ℕ
spaced program arguments = program ++ with_blanks arguments

-- a script that is run by itself is told by what its first line names, any other by its command
abbrev pub runner_error : Runner → List ℕ → HostFault → Error
runner_error (by_command i) recipe io = error.Script recipe (spaced i.command i.arguments) io
runner_error (by_shebang n) recipe io = error.Shebang recipe n.interpreter n.argument io

-- want of memory is told as itself
abbrev pub executor_error : Runner → List ℕ → HostFault → Error
executor_error r recipe (fault.Missed m) = runner_error r recipe (fault.Missed m)
executor_error r recipe (fault.Failed c) = runner_error r recipe (fault.Failed c)
executor_error r recipe fault.NoMemory = error.NoMemory
