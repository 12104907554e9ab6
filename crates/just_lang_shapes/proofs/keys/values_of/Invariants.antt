-- The texts so far, and those that are still to come.
use Rattle.std.proofs.Common.{◌≡◌, ◌++◌, drop}
use Rattle.just_lang_shapes.specs.Parameters.{values_of}
use Rattle.just_lang_shapes.proofs.keys.values_of.Given as goal

abbrev pub invariant-arguments : goal.invariant-arguments
invariant-arguments g l =
    l.all.items ++ values_of (g.T.Texts.text_of l.texts) l.key (drop l.argument-index l.arguments) ≡ values_of (g.T.Texts.text_of l.texts) l.key l.arguments
