-- What is pending comes behind what is done.
use Rattle.std.proofs.Common.{◌∷◌, [], map}
use Rattle.just_lang_types.proofs.Nesting.{Leaves, weights}
use Rattle.just_lang_types.proofs.modules.all_modules.Given as goal

abbrev pub invariant-modules : goal.invariant-modules
invariant-modules l =
    Leaves (l.justfile ∷ []) (map (λ m. m.now) l.pending.items) (map (λ m. m.now) l.all.items)

abbrev pub decreases-modules : goal.decreases-modules
decreases-modules l = weights (map (λ m. m.now) l.pending.items)
