-- One more attribute.
use Rattle.std.proofs.Common.{◌+◌, ◌∙◌, map, drop}
use Rattle.just_lang_spots.proofs.ListLaws.{drop_here}
use Rattle.just_lang_rulebook.specs.Patterns.{pattern_pair, patterns_of_attribute}
use Rattle.just_lang_rules.proofs.Loops.{flat_step}
use Rattle.just_lang_rulebook.proofs.patterns.push_of_attributes.Goals as goal

pub attributes-preserved : goal.attributes-preserved
attributes-preserved g c =
    let xs = c.args.attributes.now in
    let i = c.attributes.attribute-index in
    let x = c.attribute-item.result in
    flat_step (patterns_of_attribute (g.T.Texts.text_of c.args.texts.now) c.args.file) x (drop (i + 1) xs) (drop i xs) (map pattern_pair c.attributes.found.items) (map pattern_pair c.push_of_attribute.new.found.items)
    (drop_here xs i x c.attributes-test.true c.attribute-item.is) c.in_ok-push_of_attribute.ensures ∙ c.attributes.invariant
