-- Each command prints its own text.
use Rattle.std.proofs.Common.{rules, ◌≡◌}
use Rattle.just_print_commands.specs.Projects.{parts}
use Rattle.just_cli_texts.specs.Targets.{names_of}
use Rattle.just_cli_texts.proofs.PrintLaws.{dump_printed, groups_printed, variables_printed, summary_printed, lists_printed, shows_printed, uses_printed}
use Rattle.just_cli_texts.proofs.printing.prints_of.Goals as goal

pub returns-in_ok-text-in-Dump : goal.returns-in_ok-text-in-Dump
returns-in_ok-text-in-Dump c =
    dump_printed c.args.config.now (parts c.args.project) c.args.command.now _ c.alone.result c.in_ok-text-in-Dump.text c.alone.ensures c.in-Dump.is c.in_ok-text-in-Dump.ensures

pub returns-in_ok-text-in-Groups : goal.returns-in_ok-text-in-Groups
returns-in_ok-text-in-Groups c =
    groups_printed c.args.config.now (parts c.args.project) c.args.command.now _ c.alone-in-Groups.result c.in_ok-text-in-Groups.text c.alone-in-Groups.ensures c.in-Groups.is c.in_ok-text-in-Groups.ensures

pub returns-in_ok-text-in-Variables : goal.returns-in_ok-text-in-Variables
returns-in_ok-text-in-Variables c =
    variables_printed c.args.config.now (parts c.args.project) c.args.command.now _ c.alone-in-Variables.result c.in_ok-text-in-Variables.text c.alone-in-Variables.ensures c.in-Variables.is c.in_ok-text-in-Variables.ensures

pub returns-in_ok-summed-in-Summary : goal.returns-in_ok-summed-in-Summary
returns-in_ok-summed-in-Summary c = summary_printed c.args.config.now (parts c.args.project) c.args.command.now _ c.in_ok-summed-in-Summary.summed c.in-Summary.is c.in_ok-summed-in-Summary.ensures

pub returns-in_ok-names-in-List : goal.returns-in_ok-names-in-List
returns-in_ok-names-in-List c =
    let same : c.as_slice-in-List.result.now ≡ names_of c.in-List.words = search rules in
    lists_printed c.args.config.now (parts c.args.project) c.args.command.now c.in-List.words c.as_slice-in-List.result.now same c.list.result c.alone_or.result c.alone_or.ensures c.in-List.is c.list.ensures.listed c.list.ensures.refused

pub returns-in_ok-names-in-Show : goal.returns-in_ok-names-in-Show
returns-in_ok-names-in-Show c =
    let same : c.as_slice-in-Show-2.result.now ≡ names_of c.in-Show.words = search rules in
    shows_printed c.args.config.now (parts c.args.project) c.args.command.now c.in-Show.words c.as_slice-in-Show-2.result.now same c.show.result c.alone_or-in-Show.result c.alone_or-in-Show.ensures c.in-Show.is c.show.ensures.shown c.show.ensures.refused

pub returns-in_ok-names-in-Usage : goal.returns-in_ok-names-in-Usage
returns-in_ok-names-in-Usage c =
    let same : c.as_slice-in-Usage-2.result.now ≡ names_of c.in-Usage.words = search rules in
    uses_printed c.args.config.now (parts c.args.project) c.args.command.now c.in-Usage.words c.as_slice-in-Usage-2.result.now same c.usage.result c.alone_or-in-Usage.result c.alone_or-in-Usage.ensures c.in-Usage.is c.usage.ensures.used c.usage.ensures.refused
