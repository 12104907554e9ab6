-- A piece with no name is passed over; the last with one ends the walk.
use Rattle.std.proofs.Common.{arith, sym}
use Rattle.just_path.specs.Component.{comp_of}
use Rattle.just_path.proofs.Leads.{no_longer}
use Rattle.just_path.proofs.Walks.{keeps_last, last_skips, last_found, last_over}
use Rattle.just_path.proofs.walk.trim_back.Goals as goal

pub loop-left-init : goal.loop-left-init
loop-left-init c = record { utf8 = c.utf8.text; keeps = keeps_last c.args.text.now (no_longer c.args.text.now) }

pub returns-in-Some : goal.returns-in-Some
returns-in-Some c =
    let f = last_found c.leading_len-low.result c.args.text.now c.loop-left.left.now c.last_piece.result.0.now c.last_piece.result.1.now (comp_of c.in-Some.field-0) c.loop-left.invariant.keeps c.last_piece.ensures.piece (sym c.in-Some.ensures) in
    record { slice = f.0; comps = f.1; no_longer = c.loop-left.invariant.keeps.no_longer }

pub loop-left-preserved : goal.loop-left-preserved
loop-left-preserved c = record {
  utf8 = c.last_piece.ensures.utf8;
  keeps = last_skips c.leading_len-low.result c.args.text.now c.loop-left.left.now c.last_piece.result.0.now c.last_piece.result.1.now c.loop-left.invariant.keeps c.last_piece.ensures.piece c.leading_len-low.ensures (sym c.in-None.ensures);
}

pub returns : goal.returns
returns c =
    let f = last_over c.leading_len-low.result c.args.text.now c.loop-left.left.now c.loop-left.invariant.keeps c.leading_len-low.ensures (omega arith) in
    record { slice = f.0; comps = f.1; no_longer = c.loop-left.invariant.keeps.no_longer }
