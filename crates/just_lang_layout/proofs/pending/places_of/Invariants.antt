-- The places so far are those of the declarations so far.
use Rattle.std.proofs.Common.{◌≡◌, take, map}
use Rattle.just_lang_layout.proofs.pending.places_of.Given as goal

abbrev pub invariant-loop-declaration : goal.invariant-loop-declaration
invariant-loop-declaration l = l.places.items ≡ map (λ d. d.place) (take l.declaration-index l.declarations)
