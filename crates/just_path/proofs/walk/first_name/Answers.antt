-- A piece with no name is passed over; the first with one ends the walk.
use Rattle.std.proofs.Common.{arith, sym}
use Rattle.just_path.specs.Component.{comp_of}
use Rattle.just_path.proofs.Walks.{first_skips, first_takes, first_ends}
use Rattle.just_path.proofs.walk.first_name.Goals as goal

pub returns-in-Some : goal.returns-in-Some
returns-in-Some c = first_takes c.args.text.now c.loop-left.left.now c.first_piece.result.0.now c.first_piece.result.1.now (comp_of c.in-Some.name) c.loop-left.invariant.keeps c.first_piece.ensures.piece (sym c.in-Some.ensures) (grind arith)

pub loop-left-preserved : goal.loop-left-preserved
loop-left-preserved c = record {
  utf8 = c.first_piece.ensures.utf8;
  keeps = first_skips c.args.text.now c.loop-left.left.now c.first_piece.result.0.now c.first_piece.result.1.now c.loop-left.invariant.keeps c.first_piece.ensures.piece (sym c.in-None.ensures) (grind arith);
}

pub returns : goal.returns
returns c = first_ends c.args.text.now c.loop-left.left.now c.loop-left.invariant.keeps (grind arith)
