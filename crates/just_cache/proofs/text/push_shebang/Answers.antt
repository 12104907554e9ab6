-- The members of what a first line names, one after another.
use Rattle.std.proofs.Common.{codes, string_bytes, ap, ◌∙◌}
use Rattle.serde_json.specs.Data.{string}
use Rattle.serde_json.specs.View.{view}
use Rattle.just_cache.specs.Members.{text_or_null}
use Rattle.just_cache.proofs.Cut.{said, shebang_pushed}
use Rattle.just_cache.proofs.text.push_shebang.Goals as goal

pub returns : goal.returns
returns c =
    let argument = c.args.argument.now in
    let interpreter = c.args.interpreter.now in
    let start = string_bytes c.args.text.now in
    let first = string_bytes c.push_value.new.text in
    let second = string_bytes c.push_value-2.new.text in
    shebang_pushed argument interpreter start first second (string_bytes c.push_str.new.self)
    (said start first (codes ",\"executor\":{\"argument\":") (view c.in_ok-argument.argument) (text_or_null argument) c.in_ok-push_value.ensures c.in_ok-argument.ensures)
    (said first second (codes ",\"interpreter\":") (view c.in_ok-interpreter.interpreter) (string interpreter) c.in_ok-push_value-2.ensures (c.in_ok-interpreter.ensures ∙ ap string c.as_str.ensures))
    c.in_ok-push_str.ensures.bytes
