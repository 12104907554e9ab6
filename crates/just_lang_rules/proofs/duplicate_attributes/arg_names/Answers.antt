-- One more name, where there is one.
use Rattle.std.proofs.Common.{◌+◌, ◌∙◌, drop}
use Rattle.just_lang_spots.proofs.ListLaws.{drop_here}
use Rattle.just_lang_rules.specs.AttributeSpots.{arg_name, arg_pair}
use Rattle.just_lang_rules.proofs.Loops.{viewed_step}
use Rattle.just_lang_rules.proofs.duplicate_attributes.arg_names.Goals as goal

pub attributes-preserved : goal.attributes-preserved
attributes-preserved g c =
    let xs = c.args.attributes.now in
    let i = c.attributes.attribute-index in
    let x = c.attribute-item.result in
    viewed_step arg_pair (arg_name (g.T.Texts.text_of c.args.texts.now) c.args.file) x (drop (i + 1) xs) (drop i xs) c.attributes.names.items c.push_some.new.list.items c.in_ok-name.name
    (drop_here xs i x c.attributes-test.true c.attribute-item.is) c.in_ok-name.ensures c.in_ok-push_some.ensures ∙ c.attributes.invariant
