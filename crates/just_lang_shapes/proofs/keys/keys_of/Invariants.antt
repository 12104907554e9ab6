-- The table has the keys of the attributes so far.
use Rattle.std.proofs.Common.{◌≡◌, ℕ, List, take}
use Rattle.just_lang_shapes.specs.Parameters.{found_at, last_keys}
use Rattle.just_lang_shapes.proofs.keys.keys_of.Given as goal

abbrev pub invariant-attributes : goal.invariant-attributes
invariant-attributes g l = (name : List ℕ) → found_at l.table name ≡ last_keys (g.T.Texts.text_of l.texts) (take l.attribute-index l.attributes) name
