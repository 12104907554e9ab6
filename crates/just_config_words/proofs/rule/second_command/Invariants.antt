-- The options to come go on from those so far.
use Rattle.std.proofs.Common.{◌≡◌, take, drop}
use Rattle.std.specs.List.{list_any}
use Rattle.just_config_words.specs.Rules.{gives_command, later_word, together}
use Rattle.just_config_words.proofs.rule.second_command.Given as goal

abbrev pub invariant-given : goal.invariant-given
invariant-given l = record {
  command : l.had ≡ list_any gives_command (take l.occurrence-index l.given);
  rest : later_word gives_command gives_command (take l.occurrence-index l.given) (drop l.occurrence-index l.given) ≡ together gives_command gives_command l.given;
}
