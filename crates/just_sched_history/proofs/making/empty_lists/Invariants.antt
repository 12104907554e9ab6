-- So many lists so far, all of them empty.
use Rattle.std.proofs.Common.{◌≡◌, ℕ, []}
use Rattle.std.specs.Prelude.{map, slice_index_or, Contains, vec_len}
use Rattle.just_sched_history.proofs.making.empty_lists.Given as goal

abbrev pub invariant-loop : goal.invariant-loop
invariant-loop l = record {
  len : vec_len l.lists ≡ l.counter;
  empty : (q m : ℕ) → Contains (slice_index_or (map (λ x. x.items) l.lists.items) q []) m → ⊥;
}
