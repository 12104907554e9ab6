-- What is pending comes behind what is done.
use Rattle.std.proofs.Common.{◌∷◌, [], map}
use Rattle.just_print_lists.proofs.InTurn.{Leaves, weights}
use Rattle.just_print_lists.proofs.summary.modules_in_turn.Given as goal

abbrev pub invariant-modules : goal.invariant-modules
invariant-modules l = Leaves l.unsorted (l.root ∷ []) (map (λ m. m.now) l.pending.items) (map (λ m. m.now) l.all.items)

abbrev pub decreases-modules : goal.decreases-modules
decreases-modules l = weights (map (λ m. m.now) l.pending.items)
