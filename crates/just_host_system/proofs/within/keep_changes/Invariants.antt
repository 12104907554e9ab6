-- The changes that are left make of what is said so far what all of them make of what was said first.
use Rattle.std.proofs.Common.{◌≡◌, ℕ, List, drop, true}
use Rattle.std.specs.Process.{command_program, command_args, command_dir, command_var, clears_env}
use Rattle.just_host_system.specs.Commands.{kept_after}
use Rattle.just_host_system.proofs.within.keep_changes.Given as goal

abbrev pub invariant-loop-change : goal.invariant-loop-change
invariant-loop-change l =
    record {
      program : command_program l.command ≡ command_program l.initial.command;
      arguments : command_args l.command ≡ command_args l.initial.command;
      folder : command_dir l.command ≡ command_dir l.initial.command;
      vars : (name : List ℕ) → kept_after name (command_var l.command name) (drop l.change-index l.changes) ≡ kept_after name (command_var l.initial.command name) l.changes;
      clears : clears_env l.command ≡ true;
    }
