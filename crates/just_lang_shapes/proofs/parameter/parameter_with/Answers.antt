-- The fields are what the keys say.
use Rattle.std.proofs.Common.{◌∙◌, ap}
use Rattle.just_lang_shapes.specs.Parameters.{long_of}
use Rattle.just_lang_shapes.proofs.Fields.{parameter_are}
use Rattle.just_lang_shapes.proofs.parameter.parameter_with.Goals as goal

pub returns : goal.returns
returns g c =
    let text_of = g.T.Texts.text_of c.args.texts.now in
    let keys = c.args.keys.now in
    let s = c.in_ok-keyed.keyed.switches in
    let l = c.in_ok-keyed.keyed.limits in
    let are = c.in_ok-keyed.ensures in
    c.parameter-made.ensures
    ∙ parameter_are text_of keys c.args.parameter.now c.in_ok-name.name c.in_ok-default.default s.long s.short s.value c.stands_alone-flag.result c.stands_alone-multiple.result l.help l.pattern l.min l.max
    c.in_ok-name.ensures c.in_ok-default.ensures (are.long ∙ ap (λ name. long_of text_of name keys) c.as_str-called.ensures) are.short are.value c.stands_alone-flag.ensures c.stands_alone-multiple.ensures
    are.help are.pattern are.min are.max
