-- What was added, and what is still to come.
use Rattle.std.proofs.Common.{◌≡◌, ◌++◌, map, drop}
use Rattle.std.specs.List.{flat_map}
use Rattle.just_lang_rulebook.specs.Patterns.{pattern_pair, patterns_of_attribute}
use Rattle.just_lang_rulebook.proofs.patterns.push_of_attributes.Given as goal

abbrev pub invariant-attributes : goal.invariant-attributes
invariant-attributes g l =
    map pattern_pair l.found.items ++ flat_map (patterns_of_attribute (g.T.Texts.text_of l.texts) l.file) (drop l.attribute-index l.attributes)
    ≡ map pattern_pair l.fn.found.items ++ flat_map (patterns_of_attribute (g.T.Texts.text_of l.texts) l.file) l.attributes
