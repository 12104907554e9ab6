-- The texts so far, and those that are still to come.
use Rattle.std.proofs.Common.{◌≡◌, ◌++◌, drop}
use Rattle.just_lang_shapes.specs.Attributes.{texts_behind}
use Rattle.just_lang_shapes.proofs.attributes.texts_behind.Given as goal

abbrev pub invariant-attributes : goal.invariant-attributes
invariant-attributes g l =
    l.all.items ++ texts_behind (g.T.Texts.text_of l.texts) l.name (drop l.attribute-index l.attributes) ≡ texts_behind (g.T.Texts.text_of l.texts) l.name l.attributes
