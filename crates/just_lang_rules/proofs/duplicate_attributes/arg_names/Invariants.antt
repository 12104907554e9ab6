-- The names so far, and those that are still to come.
use Rattle.std.proofs.Common.{◌≡◌, ◌++◌, map, drop}
use Rattle.std.specs.Prelude.{filter_map}
use Rattle.just_lang_rules.specs.AttributeSpots.{arg_name, arg_pair}
use Rattle.just_lang_rules.proofs.duplicate_attributes.arg_names.Given as goal

abbrev pub invariant-attributes : goal.invariant-attributes
invariant-attributes g l =
    map arg_pair l.names.items ++ filter_map (arg_name (g.T.Texts.text_of l.texts) l.file) (drop l.attribute-index l.attributes)
    ≡ filter_map (arg_name (g.T.Texts.text_of l.texts) l.file) l.attributes
