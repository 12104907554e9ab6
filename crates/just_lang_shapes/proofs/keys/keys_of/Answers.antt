-- One more attribute in the table.
use Rattle.std.proofs.Common.{ap, ◌∙◌, List, [], ℕ, length, ◌≤◌, arith}
use Rattle.std.specs.Option.{unwrap_or}
use Rattle.std.specs.Prelude.{Option}
use Rattle.std.proofs.lemmas.List.{take_all}
use Rattle.just_lang_syntax.specs.declared.ast.Argument.{Argument}
use Rattle.just_lang_syntax.specs.declared.ast.Attribute.{Attribute}
use Rattle.just_lang_shapes.specs.Parameters.{found_at, last_keys}
use Rattle.just_lang_shapes.proofs.KeyTables.{keys_step}
use Rattle.just_lang_shapes.proofs.keys.keys_of.Goals as goal

pub attributes-preserved : goal.attributes-preserved
attributes-preserved g c = λ name.
    keys_step (g.T.Texts.text_of c.args.texts.now) c.args.attributes.now c.attributes.attribute-index c.attribute-item.result name (found_at c.attributes.table name) (found_at c.add.new.table name)
    c.attributes-test.true c.attribute-item.is (c.in_ok-add.ensures name) (c.attributes.invariant name)

pub returns : goal.returns
returns g c = λ name.
    ap (λ (o : Option (List Argument)). unwrap_or o [])
    (c.attributes.invariant name ∙ ap (λ (xs : List Attribute). last_keys (g.T.Texts.text_of c.args.texts.now) xs name) (take_all c.attributes.attribute-index c.args.attributes.now (omega arith)))
