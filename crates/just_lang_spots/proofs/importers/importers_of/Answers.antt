-- One more file.
use Rattle.std.proofs.Common.{◌≡◌, length, sym, subst, arith}
use Rattle.just_lang_spots.specs.Importers.{AreImportersOf}
use Rattle.just_lang_spots.proofs.Rows.{AreImportersUpTo, none_imports, importer_more, importers_end}
use Rattle.just_lang_spots.proofs.importers.importers_of.Goals as goal

pub importers-init : goal.importers-init
importers-init c = subst (AreImportersUpTo c.args.table.now c.args.file 0) (sym c.new-found.ensures.items) (none_imports c.args.table.now c.args.file)

pub importers-preserved : goal.importers-preserved
importers-preserved c =
    importer_more c.args.table.now c.args.file c.importers.importer c.importers.found.items c.keep_where.new.kept.items c.is_reached-imports.result c.importers.invariant
    c.is_reached-imports.ensures c.in_ok-keep_where.ensures

pub returns : goal.returns
returns c =
    let end : c.importers.importer ≡ length c.args.table.now = omega arith in
    subst (AreImportersOf c.args.table.now c.args.file) (sym c.from.ensures) (importers_end c.args.table.now c.args.file c.importers.importer c.importers.found.items end c.importers.invariant)
