-- What a child's command is to say, and what its end is to mean.
use Rattle.std.specs.Prelude.{ℕ, ◌≡◌, if◌then◌else◌, Bool, true, false, not, ◌&&◌, List, [], ◌∷◌, ◌++◌, Option, Some, None, Result, Ok, Err, option_map, ℤ, codes}
use Rattle.std.specs.List.{list_any}
use Rattle.std.specs.Str.{bytes_eq}
use Rattle.std.specs.Process.{command_program, command_args, command_arg0, command_dir, command_var, clears_env, exit_code, exit_signal}
use Rattle.std.specs.declared.alloc.Global.{Global}
use Rattle.std.specs.declared.process.Command.{Command}
use Rattle.std.specs.declared.process.ExitStatus.{ExitStatus}
use Rattle.just_host_record.specs.declared.entry.Script.{Script}
use Rattle.just_host_record.specs.declared.entry.Spec.{Spec}
use Rattle.just_host_record.specs.declared.entry.Status.{Status}
use Rattle.just_host_record.specs.declared.entry.Status.TheVariants.{Code, Signal, Unknown}

-- what is said of a variable after these changes, one after the other, where that was said before: the last change of
-- its name counts; nothing is said of a variable that is left alone, and of one that is taken out that it has no value
abbrev pub said_after : List ℕ → Option (Option (List ℕ)) → List (List ℕ × Option (List ℕ)) → Option (Option (List ℕ))
said_after name before [] = before
said_after name before (c ∷ cs) = said_after name (if bytes_eq c.0 name then Some c.1 else before) cs

-- what is said of a variable behind these pairs, one after the other, where that was said before
abbrev pub told_after : List ℕ → Option (Option (List ℕ)) → List (List ℕ × List ℕ) → Option (Option (List ℕ))
told_after name before [] = before
told_after name before (p ∷ ps) = told_after name (if bytes_eq p.0 name then Some (Some p.1) else before) ps

-- the same behind these changes, where nothing is inherited: nothing is said of a variable that is taken out
abbrev pub kept_after : List ℕ → Option (Option (List ℕ)) → List (List ℕ × Option (List ℕ)) → Option (Option (List ℕ))
kept_after name before [] = before
kept_after name before (c ∷ cs) = kept_after name (if bytes_eq c.0 name then option_map (λ v. Some v) c.1 else before) cs

-- the program of a child: the file of its script, where that runs itself
abbrev pub program_with : List ℕ → Spec → Option Script → List ℕ
program_with file spec None = spec.program
program_with file spec (Some s) = if s.run then file else spec.program

-- its arguments: those of a script stand behind its file
abbrev pub arguments_with : List ℕ → Spec → Option Script → List (List ℕ)
arguments_with file spec None = spec.arguments
arguments_with file spec (Some s) = if s.run then s.after else spec.arguments ++ (file ∷ s.after)

-- a command that is the spec but for its program, which is that path or name, and whose script is in that file, if it has one: its arguments, folder and changes, over the environment of this process
pub record IsCommandWith (path : List ℕ) (file : List ℕ) (spec : Spec) (command : Command Global) : Type 0 where
  pub program : command_program command ≡ path
  pub arguments : command_args command ≡ arguments_with file spec spec.script
  pub folder : command_dir command ≡ spec.folder
  pub changes : (name : List ℕ) → command_var command name ≡ said_after name None spec.changes
  pub inherits : clears_env command ≡ false

-- the same over an environment of these pairs, of which the last of a name counts: nothing is inherited
pub record IsCommandWithin (path : List ℕ) (pairs : List (List ℕ × List ℕ)) (file : List ℕ) (spec : Spec) (command : Command Global) : Type 0 where
  pub program : command_program command ≡ path
  pub arguments : command_args command ≡ arguments_with file spec spec.script
  pub folder : command_dir command ≡ spec.folder
  pub variables : (name : List ℕ) → command_var command name ≡ kept_after name (told_after name None pairs) spec.changes
  pub whole : clears_env command ≡ true

-- a command that is the spec
abbrev pub IsCommandOf : List ℕ → Spec → Command Global → Type 0
IsCommandOf file spec command = IsCommandWith (program_with file spec spec.script) file spec command

-- the same, whose program stands at that path; the child is told the name by which it was asked for
pub record IsCommandAt (path : List ℕ) (file : List ℕ) (spec : Spec) (command : Command Global) : Type 0 where
  pub rest : IsCommandWith path file spec command
  pub name : command_arg0 command ≡ Some (program_with file spec spec.script)

-- some change is one of `PATH`
abbrev pub changes_path : List (List ℕ × Option (List ℕ)) → Bool
changes_path changes = list_any (λ c. bytes_eq c.0 (codes "PATH")) changes

-- a program is asked for by the shell's name, and what is looked for is looked for in the `PATH` of this process
abbrev pub names_shell : List ℕ → List (List ℕ × Option (List ℕ)) → Bool
names_shell program changes = bytes_eq program (codes "sh") && not (changes_path changes)

-- a child's end by its code and its signal, as the system tells them
abbrev pub status_told : Option ℤ → Option ℤ → Status
status_told (Some code) signal = Code code
status_told None (Some signal) = Signal signal
status_told None None = Unknown

-- a child's end as waiting for it told; none where that failed
abbrev pub status_waited : {E : Type 0} → Result ExitStatus E → Option Status
status_waited (Ok e) = Some (status_told (exit_code e) (exit_signal e))
status_waited (Err x) = None

-- it is the end that the system told of a child
abbrev pub IsToldOf : Option ExitStatus → Status → Type 0
IsToldOf told status = option_map (λ e. status_told (exit_code e) (exit_signal e)) told ≡ Some status
