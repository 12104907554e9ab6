-- The child that a command runs alone, and what becomes of it.
use Rattle.std.specs.Prelude.{ℕ, ◌≡◌, Bool, if◌then◌else◌, List, [], ◌∷◌, ◌++◌, Option, Some, None, Result, Ok, Err, codes, pos}
use Rattle.std.specs.Option.{unwrap_or}
use Rattle.std.specs.Ordering.{int_eq}
use Rattle.just_path_text.specs.Environ.{or_else, value_of}
use Rattle.just_lang_types.specs.declared.project.Justfile.{Justfile, out-Justfile}
use Rattle.just_lang_types.specs.declared.scope.Level.{Level}
use Rattle.just_lang_types.specs.declared.scope.Scope.{Scope}
use Rattle.just_lang_types.specs.declared.scope.Scopes.{Scopes}
use Rattle.just_lang_types.specs.declared.settings.Interpreter.{Interpreter}
use Rattle.just_lang_types.specs.Modules.{path_of, settings_of}
use Rattle.just_lang_layout.specs.Paths.{Pairs}
use Rattle.just_host_record.specs.declared.entry.Call.TheVariants as call
use Rattle.just_host_record.specs.declared.entry.Entry.TheVariants as entry
use Rattle.just_host_record.specs.declared.entry.HostFault.{HostFault}
use Rattle.just_host_record.specs.declared.entry.HostFault.TheVariants as fault
use Rattle.just_host_record.specs.declared.entry.Spec.{Spec}
use Rattle.just_host_record.specs.declared.entry.Status.{Status}
use Rattle.just_host_record.specs.declared.entry.Status.TheVariants as status
use Rattle.just_host_record.specs.Record.{children}
use Rattle.just_host_record.specs.World.{Moment, Touched}
use Rattle.just_config.specs.declared.config.Config.{Config}
use Rattle.just_eval_closure.specs.Scopes.{pairs_for, scope_of}
use Rattle.just_env.specs.Changes.{Change, module_levels, changes}
use Rattle.just_exec_work.specs.declared.run_flags.RunFlags.{RunFlags}
use Rattle.just_exec_work.specs.Shells.{shell}
use Rattle.just_exec.specs.declared.error.Error.{Error}
use Rattle.just_exec.specs.declared.error.Error.TheVariants as error
use Rattle.just_cli_texts.specs.Kinds.{words_of}
use Rattle.just_cli_children.specs.declared.child.Child.{Child}
use Rattle.just_cli_children.specs.declared.child.Role.{Role}
use Rattle.just_cli_children.specs.declared.child.Role.TheVariants as role

-- ---- an editor

-- that of the environment: `VISUAL`, else `EDITOR`, else `vim`
abbrev pub editor_of : Pairs → List ℕ
editor_of environ = unwrap_or (or_else (value_of (codes "VISUAL") environ) (value_of (codes "EDITOR") environ)) (codes "vim")

-- a program with these arguments in that folder, and with these changes in its environment; it is no script
abbrev pub program_spec : List ℕ → List (List ℕ) → List ℕ → List Change → Spec
program_spec program arguments folder changed = record { program = program; arguments = arguments; folder = Some folder; changes = changed; script = None }

-- the editor of the justfile of that path, in that folder
abbrev pub editor_child : Pairs → List ℕ → List ℕ → Child
editor_child environ folder justfile = record { spec = program_spec (editor_of environ) (justfile ∷ []) folder []; role = role.Editor (editor_of environ) }

-- ---- words

-- a program and its arguments, as words give them
abbrev pub first_word : List (List ℕ) → List ℕ
first_word [] = []
first_word (w ∷ ws) = w

abbrev pub later_words : List (List ℕ) → List (List ℕ)
later_words [] = []
later_words (w ∷ ws) = ws

-- the same where they may go through a shell: then they stand behind its arguments
abbrev pub program_of : Bool → Interpreter → List (List ℕ) → List ℕ
program_of through sh ws = if through then sh.command else first_word ws

abbrev pub arguments_of : Bool → Interpreter → List (List ℕ) → List (List ℕ)
arguments_of through sh ws = if through then sh.arguments ++ ws else later_words ws

abbrev pub words_spec : Bool → Interpreter → List (List ℕ) → List ℕ → List Change → Spec
words_spec through sh ws folder changed = program_spec (program_of through sh ws) (arguments_of through sh ws) folder changed

-- ---- the environment of a module

-- the levels of a scope, if there is one
abbrev pub levels_in : Option Scope → List Level
levels_in None = []
levels_in (Some s) = s.levels

-- what changes for a child of a module: its dotenv pairs, its unexports, and the variables that it exports
abbrev pub module_changes : Scopes → Justfile → List Change
module_changes scopes j =
    changes (pairs_for scopes.dotenv (path_of j)) (settings_of j).export (out-Justfile j).unexports (module_levels (levels_in (scope_of scopes (path_of j))))

-- the child of a configuration's words, in the environment of that justfile; its errors tell the words themselves
abbrev pub words_child : Config → RunFlags → Scopes → Justfile → Child
words_child c flags scopes j =
    record {
      spec = words_spec c.shell_command (shell flags (settings_of j)) (words_of c.subcommand) flags.folder (module_changes scopes j);
      role = role.Command (first_word (words_of c.subcommand)) (later_words (words_of c.subcommand));
    }

-- ---- what becomes of it

-- it wasn't started or waited for; and it didn't end with the code 0
abbrev pub invoke_error : Role → HostFault → Error
invoke_error (role.Editor editor) io = error.EditorInvoke editor io
invoke_error (role.Command binary arguments) io = error.CommandInvoke binary arguments io

-- the same of one that wasn't started; want of memory is told as itself
abbrev pub start_error : Role → HostFault → Error
start_error part (fault.Missed m) = invoke_error part (fault.Missed m)
start_error part (fault.Failed c) = invoke_error part (fault.Failed c)
start_error part fault.NoMemory = error.NoMemory

abbrev pub status_error : Role → Status → Error
status_error (role.Editor editor) ending = error.EditorStatus editor ending
status_error (role.Command binary arguments) ending = error.CommandStatus binary arguments ending

-- it ended so: with the code 0 all is well
abbrev pub ended_so : Role → Status → Result (Unit {0}) Error
ended_so part (status.Code z) = if int_eq z (pos 0) then Ok tt else Err (status_error part (status.Code z))
ended_so part (status.Signal number) = Err (status_error part (status.Signal number))
ended_so part status.Unknown = Err (status_error part status.Unknown)

-- A child is started once, waited for and settled: between these moments a host's record gained its start and its end, and what is answered is by its end.
-- Or it isn't waited for, or not started; or memory is wanting before. Its start and its end may touch the files.
pub data RunsAlone (c : Child) (before after : Moment) (r : Result (Unit {0}) Error) : Type 0 where
  ended : (s : Status) → after.entries ≡ before.entries ++ entry.Started (children before.entries) c.spec ∷ entry.Ended (children before.entries) s ∷ []
      → Touched before.world after.world → r ≡ ended_so c.role s → RunsAlone c before after r
  unwaited : after.entries ≡ before.entries ++ entry.Started (children before.entries) c.spec ∷ entry.Failed call.Wait ∷ []
      → Touched before.world after.world → r ≡ Err (invoke_error c.role (fault.Failed call.Wait)) → RunsAlone c before after r
  unstarted : after.entries ≡ before.entries ++ entry.Failed call.Start ∷ [] → Touched before.world after.world → r ≡ Err (invoke_error c.role (fault.Failed call.Start))
      → RunsAlone c before after r
  no_memory : after.entries ≡ before.entries → after.world ≡ before.world → r ≡ Err error.NoMemory → RunsAlone c before after r
