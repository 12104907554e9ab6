-- The members of the command, one after another.
use Rattle.std.proofs.Common.{codes, string_bytes, ap, ◌∙◌}
use Rattle.serde_json.specs.Data.{string}
use Rattle.serde_json.specs.View.{view}
use Rattle.serde_json.specs.Written.{has_float}
use Rattle.just_cache.specs.Members.{texts}
use Rattle.just_cache.proofs.Cut.{said, command_pushed, texts_float_free}
use Rattle.just_cache.proofs.text.push_command.Goals as goal

pub push_value-requires : goal.push_value-requires
push_value-requires c = ap has_float c.in_ok-arguments.ensures ∙ texts_float_free c.as_slice.result.now

pub returns : goal.returns
returns c =
    let i = c.args.interpreter.now in
    let start = string_bytes c.args.text.now in
    let first = string_bytes c.push_value.new.text in
    let second = string_bytes c.push_value-2.new.text in
    command_pushed i start first second (string_bytes c.push_str.new.self)
    (said start first (codes ",\"executor\":{\"arguments\":") (view c.in_ok-arguments.arguments) (texts i.arguments) c.in_ok-push_value.ensures (c.in_ok-arguments.ensures ∙ ap texts c.as_slice.ensures))
    (said first second (codes ",\"command\":") (view c.in_ok-command.command) (string i.command) c.in_ok-push_value-2.ensures (c.in_ok-command.ensures ∙ ap string c.as_str.ensures))
    c.in_ok-push_str.ensures.bytes
