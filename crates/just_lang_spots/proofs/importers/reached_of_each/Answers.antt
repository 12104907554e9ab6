-- One more file.
use Rattle.std.proofs.Common.{◌≡◌, length, sym, subst, arith}
use Rattle.just_lang_spots.proofs.Rows.{AreReachedUpTo, none_reached, reached_more, reached_end}
use Rattle.just_lang_spots.proofs.importers.reached_of_each.Goals as goal

pub files-init : goal.files-init
files-init c = subst (AreReachedUpTo c.args.edges.now 0) (sym c.new-table.ensures.items) (none_reached c.args.edges.now)

pub files-preserved : goal.files-preserved
files-preserved c =
    reached_more c.args.edges.now c.files.file c.files.table.items c.push.new.self.items c.in_ok-marks.marks.items c.from.result c.files.invariant c.in_ok-marks.ensures.reached c.from.ensures
    c.in_ok-push.ensures.items

pub returns : goal.returns
returns c =
    let end : c.files.file ≡ length c.args.edges.now = omega arith in
    reached_end c.args.edges.now c.files.file c.files.table.items end c.files.invariant
