-- One more file.
use Rattle.std.proofs.Common.{◌≡◌, length, sym, subst, arith}
use Rattle.just_lang_spots.proofs.Rows.{AreImportersOfEachUpTo, no_rows, rows_more, rows_end}
use Rattle.just_lang_spots.proofs.importers.importers_of_each.Goals as goal

pub files-init : goal.files-init
files-init c = subst (AreImportersOfEachUpTo c.args.table.now 0) (sym c.new-winners.ensures.items) (no_rows c.args.table.now)

pub files-preserved : goal.files-preserved
files-preserved c =
    rows_more c.args.table.now c.files.file c.files.winners.items c.push.new.self.items c.in_ok-importers_of.field-0 c.files.invariant c.in_ok-importers_of.ensures c.in_ok-push.ensures.items

pub returns : goal.returns
returns c =
    let end : c.files.file ≡ length c.args.table.now = omega arith in
    rows_end c.args.table.now c.files.file c.files.winners.items end c.files.invariant
