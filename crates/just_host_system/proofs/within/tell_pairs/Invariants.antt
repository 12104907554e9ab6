-- The pairs that are left make of what is said so far what all of them make of what was said first.
use Rattle.std.proofs.Common.{◌≡◌, ℕ, List, drop, true}
use Rattle.std.specs.Process.{command_program, command_args, command_dir, command_var, clears_env}
use Rattle.just_host_system.specs.Commands.{told_after}
use Rattle.just_host_system.proofs.within.tell_pairs.Given as goal

abbrev pub invariant-loop-pair : goal.invariant-loop-pair
invariant-loop-pair l =
    record {
      program : command_program l.command ≡ command_program l.initial.command;
      arguments : command_args l.command ≡ command_args l.initial.command;
      folder : command_dir l.command ≡ command_dir l.initial.command;
      vars : (name : List ℕ) → told_after name (command_var l.command name) (drop l.pair-index l.pairs) ≡ told_after name (command_var l.initial.command name) l.pairs;
      clears : clears_env l.command ≡ true;
    }
