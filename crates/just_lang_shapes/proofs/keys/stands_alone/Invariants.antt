-- None of the arguments so far is the key alone.
use Rattle.std.proofs.Common.{◌≡◌, drop}
use Rattle.just_lang_shapes.specs.Parameters.{stands_alone}
use Rattle.just_lang_shapes.proofs.keys.stands_alone.Given as goal

abbrev pub invariant-arguments : goal.invariant-arguments
invariant-arguments l = stands_alone l.key (drop l.argument-index l.arguments) ≡ stands_alone l.key l.arguments
