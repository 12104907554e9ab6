-- The arguments so far are added, and nothing else is changed.
use Rattle.std.proofs.Common.{◌≡◌, ◌++◌, ℕ, List, take}
use Rattle.std.specs.Process.{command_program, command_args, command_dir, command_var, clears_env}
use Rattle.just_host_system.proofs.command.add_arguments.Given as goal

abbrev pub invariant-loop-argument : goal.invariant-loop-argument
invariant-loop-argument l =
    record {
      program : command_program l.command ≡ command_program l.initial.command;
      arguments : command_args l.command ≡ command_args l.initial.command ++ take l.argument-index l.arguments;
      folder : command_dir l.command ≡ command_dir l.initial.command;
      vars : (name : List ℕ) → command_var l.command name ≡ command_var l.initial.command name;
      clears : clears_env l.command ≡ clears_env l.initial.command;
    }
