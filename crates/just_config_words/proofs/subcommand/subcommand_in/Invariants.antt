-- None so far is a command.
use Rattle.std.proofs.Common.{◌≡◌, drop}
use Rattle.just_config_words.specs.Arguments.{subcommand_in}
use Rattle.just_config_words.proofs.subcommand.subcommand_in.Given as goal

abbrev pub invariant-filled : goal.invariant-filled
invariant-filled l = subcommand_in (drop l.occurrence-index l.filled) ≡ subcommand_in l.filled
