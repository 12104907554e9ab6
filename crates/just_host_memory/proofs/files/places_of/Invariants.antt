-- The places so far are those of the effects that were passed.
use Rattle.std.proofs.Common.{take}
use Rattle.just_host_memory.specs.Playing.{ArePlacesOf}
use Rattle.just_host_memory.proofs.files.places_of.Given as goal

abbrev pub invariant-loop-effect : goal.invariant-loop-effect
invariant-loop-effect l = ArePlacesOf l.folder.path l.places.items (take l.effect-index l.effects)
