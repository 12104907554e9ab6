-- The body is indented as is given, else as the items have it set.
use Rattle.std.proofs.Common.{◌≡◌, ◌∙◌, ℕ, List, Option, ap}
use Rattle.std.specs.Option.{option_copied}
use Rattle.just_lang_syntax.specs.declared.ast.AstItem.{AstItem}
use Rattle.just_lang_types.specs.declared.settings.Settings.{Settings}
use Rattle.just_lang_layout.specs.Items.{in_file}
use Rattle.just_lang_spots.specs.declared.entries.Entry.{Entry}
use Rattle.just_lang_spots.specs.Entries.{entries}
use Rattle.just_lang_rulebook.specs.Meant.{meant}
use Rattle.just_lang_shapes.specs.Settings.{settings_of}
use Rattle.just_print.specs.Printed.{printed}
use Rattle.just_print_lists.specs.Indentations.{chosen_indentation}
use Rattle.just_cli_texts.proofs.format.format_text.Goals as goal

pub returns : goal.returns
returns c =
    let given = c.args.config.now.indentation in
    let environ = c.args.environ.now.pairs in
    let items = c.args.items.now in
    let settings : c.in_ok-settings.settings ≡ settings_of (meant environ) (in_file 0 items) =
    c.in_ok-settings.ensures
    ∙ (ap (λ (xs : List Entry). settings_of (meant environ) (entries xs)) c.as_slice.ensures.value ∙ ap (λ (xs : List (ℕ × AstItem)). settings_of (meant environ) xs) c.in_ok-entries.ensures) in
    let set : option_copied c.borrowed.result ≡ (settings_of (meant environ) (in_file 0 items)).indentation = c.borrowed.ensures ∙ ap (λ (s : Settings). s.indentation) settings in
    let chosen : c.in_ok-indentation.indentation ≡ chosen_indentation given (settings_of (meant environ) (in_file 0 items)).indentation =
    c.in_ok-indentation.ensures
    ∙ (ap (λ (g : Option (List ℕ)). chosen_indentation g (option_copied c.borrowed.result)) c.borrowed-given.ensures ∙ ap (λ (g : Option (List ℕ)). chosen_indentation given g) set) in
    c.from.ensures ∙ (c.in_ok-print_items.ensures ∙ ap (λ (i : List ℕ). printed items i) (c.as_str.ensures ∙ chosen))
