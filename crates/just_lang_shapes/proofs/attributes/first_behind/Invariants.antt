-- There is no text behind the attributes so far.
use Rattle.std.proofs.Common.{◌≡◌, drop}
use Rattle.just_lang_shapes.specs.Attributes.{first_of, texts_behind}
use Rattle.just_lang_shapes.proofs.attributes.first_behind.Given as goal

abbrev pub invariant-attributes : goal.invariant-attributes
invariant-attributes g l =
    first_of (texts_behind (g.T.Texts.text_of l.texts) l.name (drop l.attribute-index l.attributes)) ≡ first_of (texts_behind (g.T.Texts.text_of l.texts) l.name l.attributes)
