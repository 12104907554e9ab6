-- The loop of `Seq::try_clone`: the copies so far are the items so far, and there is room for all.
use Rattle.std.proofs.Common.{◌≡◌, take, length, vec_len, vec_capacity}
use Rattle.just_path_text.proofs.seq.Seq.try_clone.Given as goal

abbrev pub invariant-loop-item : goal.invariant-loop-item
invariant-loop-item g l = record {
  copied : l.copies.items ≡ take l.item-index l.item-items;
  count : vec_len l.copies ≡ l.item-index;
  room : vec_capacity l.copies ≡ length l.item-items;
}
