-- One more file.
use Rattle.std.proofs.Common.{◌++◌, ◌∙◌, ap, sym, List}
use Rattle.just_lang_syntax.specs.declared.ast.AstItem.{AstItem}
use Rattle.just_lang_layout.specs.declared.layout.File.{File}
use Rattle.just_lang_spots.specs.Entries.{entries}
use Rattle.just_lang_layout.specs.Items.{in_file}
use Rattle.just_lang_rulebook.proofs.FileSteps.{files_more}
use Rattle.just_lang_rulebook.proofs.item_lists.items_of_files.Goals as goal

pub files-preserved : goal.files-preserved
files-preserved c =
    files_more c.files.all.items c.push_items.new.all.items c.args.files.now c.files.number c.index-files-number.result c.files-test.true c.index-files-number.is
    (c.in_ok-push_items.ensures ∙ ap (λ (xs : List AstItem). entries c.files.all.items ++ in_file c.files.number xs) c.as_slice.ensures
    ∙ ap (λ (f : File). entries c.files.all.items ++ in_file c.files.number f.items) (sym c.index-files-number.is)) ∙ c.files.invariant
