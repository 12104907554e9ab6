-- The names so far, and those that are still to come.
use Rattle.std.proofs.Common.{◌≡◌, ◌++◌, drop}
use Rattle.just_print_commands.specs.Texts.{texts_of}
use Rattle.just_print_commands.proofs.shown.texts_of.Given as goal

abbrev pub invariant-names : goal.invariant-names
invariant-names l = l.texts.items ++ texts_of (drop l.name-index l.names) ≡ texts_of l.names
