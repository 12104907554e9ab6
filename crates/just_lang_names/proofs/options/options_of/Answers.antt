-- One more attribute.
use Rattle.just_lang_names.specs.Arities.{has_option_name}
use Rattle.just_lang_names.proofs.Sets.{option_step}
use Rattle.just_lang_names.proofs.options.options_of.Goals as goal

pub attributes-preserved : goal.attributes-preserved
attributes-preserved g c = λ q.
    option_step (g.T.Texts.text_of c.args.texts.now) c.args.attributes.now c.attributes.attribute-index c.attribute-item.result c.in_ok-name.name (has_option_name c.attributes.options q) (has_option_name c.add.new.self q) q
    c.attributes-test.true c.attribute-item.is c.in_ok-name.ensures (c.attributes.invariant q) (c.in_ok-add.ensures q)
