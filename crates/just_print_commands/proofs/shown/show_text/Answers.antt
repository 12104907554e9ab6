-- The line of an alias, and what is written of the recipe.
use Rattle.std.proofs.Common.{rules, ◌≡◌, ◌++◌, Some, string_bytes, refl}
use Rattle.std.specs.Option.{option_copied}
use Rattle.just_eval_words.specs.Sights.{located_of}
use Rattle.just_print_tree.specs.Kept.{told}
use Rattle.just_print_tree.specs.Told.{found_told}
use Rattle.just_print_commands.specs.Projects.{parts}
use Rattle.just_print_commands.specs.Texts.{written_text, IsFound}
use Rattle.just_print_commands.proofs.Leading.{shown_so}
use Rattle.just_print_commands.proofs.shown.show_text.Goals as goal

pub returns-clause-shown : goal.returns-clause-shown
returns-clause-shown c =
    let p = parts c.args.project in
    let names = c.args.names.now in
    let given = option_copied c.args.indentation in
    let l = located_of c.in_ok-found.found in
    let line = string_bytes c.in_ok-found.line in
    let text = string_bytes c.in_ok-text.text in
    let whole = string_bytes c.in_ok-whole.whole in
    let x = told c.in-Some.one in
    let found : IsFound p names l line = search rules in
    let there : Some x ≡ found_told p.recipes l.recipe.path = search rules in
    let text_is : text ≡ written_text given l.parent x = search rules in
    let whole_is : whole ≡ line ++ text = search rules in
    shown_so p names given l line text whole (Some x) x found there refl text_is whole_is
