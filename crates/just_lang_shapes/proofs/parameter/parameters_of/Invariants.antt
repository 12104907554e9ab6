-- The parameters so far, and those that are still to come.
use Rattle.std.proofs.Common.{◌≡◌, ◌++◌, drop}
use Rattle.just_lang_shapes.specs.Parameters.{parameters_of}
use Rattle.just_lang_shapes.proofs.parameter.parameters_of.Given as goal

abbrev pub invariant-parameters : goal.invariant-parameters
invariant-parameters g l =
    l.all.items ++ parameters_of (g.T.Texts.text_of l.texts) l.attributes (drop l.parameter-index l.parameters) ≡ parameters_of (g.T.Texts.text_of l.texts) l.attributes l.parameters
