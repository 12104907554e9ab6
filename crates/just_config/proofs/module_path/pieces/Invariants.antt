-- The pieces that are left follow those so far.
use Rattle.std.specs.Str.Iter.{split_whitespace_rest}
use Rattle.just_config.proofs.Pieces.{Cut}
use Rattle.just_config.proofs.module_path.pieces.Given as goal

abbrev pub invariant-pieces : goal.invariant-pieces
invariant-pieces l = Cut l.text (split_whitespace_rest l.piece-iterator) l.pieces.items
