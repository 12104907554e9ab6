-- The key has no text so far.
use Rattle.std.proofs.Common.{◌≡◌, drop}
use Rattle.just_lang_shapes.specs.Parameters.{value_of}
use Rattle.just_lang_shapes.proofs.keys.value_of.Given as goal

abbrev pub invariant-arguments : goal.invariant-arguments
invariant-arguments g l =
    value_of (g.T.Texts.text_of l.texts) l.key (drop l.argument-index l.arguments) ≡ value_of (g.T.Texts.text_of l.texts) l.key l.arguments
