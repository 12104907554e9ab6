-- The places so far are those of the items so far.
use Rattle.std.proofs.Common.{◌≡◌, take, map}
use Rattle.just_lang_layout.proofs.pending.placed_of.Given as goal

abbrev pub invariant-loop-visit : goal.invariant-loop-visit
invariant-loop-visit l = l.places.items ≡ map (λ v. v.place) (take l.visit-index l.visits)
