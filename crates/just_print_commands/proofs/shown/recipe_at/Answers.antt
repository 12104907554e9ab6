-- The path leads to a module.
use Rattle.std.proofs.Common.{rules, ◌≡◌, Ok}
use Rattle.just_eval_words.specs.Names.{Target}
use Rattle.just_print_commands.specs.Projects.{parts}
use Rattle.just_print_commands.specs.Texts.{named_of}
use Rattle.just_print_commands.proofs.Leading.{unshown_module}
use Rattle.just_print_commands.proofs.shown.recipe_at.Goals as goal

pub returns-in-Module-clause-refused : goal.returns-in-Module-clause-refused
returns-in-Module-clause-refused c =
    let leads : named_of (parts c.args.project) c.args.names.now ≡ Ok (Target.to_module c.in-Module.field-0.now) = search rules in
    unshown_module (parts c.args.project) c.args.names.now c.in-Module.field-0.now leads
