-- The row at a place.
use Rattle.std.proofs.Common.{List, Bool, [], ap, ◌∙◌}
use Rattle.std.proofs.lemmas.List.{get_or_read}
use Rattle.just_lang_spots.specs.Met.{is_marked}
use Rattle.just_lang_spots.proofs.importers.is_reached.Goals as goal

pub returns : goal.returns
returns c =
    c.is_marked.ensures ∙ ap (λ (r : List Bool). is_marked r c.args.file) (c.as_slice.ensures ∙ get_or_read c.args.table.now c.args.importer c.index-table-importer.result c.requires c.index-table-importer.is [])
