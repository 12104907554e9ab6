-- No name is given; the names in front of the last one lead nowhere.
use Rattle.std.proofs.Common.{rules, ◌≡◌, [], ◌∷◌, ◌++◌, length, refl}
use Rattle.just_print_commands.specs.declared.error.ShowError.TheVariants as show_error
use Rattle.just_print_commands.specs.Projects.{parts}
use Rattle.just_print_commands.proofs.Leading.{unshown_none, unshown_front}
use Rattle.just_print_commands.proofs.shown.found_at.Goals as goal

pub returns-in_default-clause-refused : goal.returns-in_default-clause-refused
returns-in_default-clause-refused c =
    let none : length c.args.names.now ≡ 0 = search rules in
    unshown_none (parts c.args.project) c.args.names.now none

pub returns-in-Err-clause-refused : goal.returns-in-Err-clause-refused
returns-in-Err-clause-refused c =
    let front = c.in-Some.front.now in
    let last = c.in-Some.last.now in
    let split : c.args.names.now ≡ front ++ last ∷ [] = search rules in
    unshown_front (parts c.args.project) c.args.names.now front last c.in-Err.e (show_error.Path c.in-Err.e) split refl c.in-Err.ensures.refused
