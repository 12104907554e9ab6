-- The members before the inputs, one after another.
use Rattle.std.proofs.Common.{codes, string_bytes, ap, ◌∙◌}
use Rattle.serde_json.specs.View.{view}
use Rattle.serde_json.specs.Written.{has_float}
use Rattle.just_cache.specs.Members.{texts, environment, text_or_null}
use Rattle.just_cache.proofs.Cut.{said, before_pushed, texts_float_free, environment_float_free}
use Rattle.just_cache.proofs.text.push_before.Goals as goal

pub push_value-requires : goal.push_value-requires
push_value-requires c = ap has_float c.in_ok-body.ensures ∙ texts_float_free c.as_slice.result.now

pub push_value-requires-2 : goal.push_value-requires-2
push_value-requires-2 c = ap has_float c.in_ok-environment.ensures ∙ environment_float_free c.as_slice-2.result.now

pub returns : goal.returns
returns c =
    let k = c.args.key.now in
    before_pushed k (string_bytes c.args.text.now) (string_bytes c.push_value.new.text) (string_bytes c.push_value-2.new.text) (string_bytes c.push_executor.new.text) (string_bytes c.push_value-3.new.text) (string_bytes c.push_value-4.new.text)
    (said (string_bytes c.args.text.now) (string_bytes c.push_value.new.text) (codes "{\"body\":") (view c.in_ok-body.body) (texts k.body) c.in_ok-push_value.ensures (c.in_ok-body.ensures ∙ ap texts c.as_slice.ensures))
    (said (string_bytes c.push_value.new.text) (string_bytes c.push_value-2.new.text) (codes ",\"environment\":") (view c.in_ok-environment.environment) (environment k.environment) c.in_ok-push_value-2.ensures (c.in_ok-environment.ensures ∙ ap environment c.as_slice-2.ensures))
    c.in_ok-push_executor.ensures
    (said (string_bytes c.push_executor.new.text) (string_bytes c.push_value-3.new.text) (codes ",\"extension\":") (view c.in_ok-extension.extension) (text_or_null k.extension) c.in_ok-push_value-3.ensures c.in_ok-extension.ensures)
    (said (string_bytes c.push_value-3.new.text) (string_bytes c.push_value-4.new.text) (codes ",\"extra\":") (view c.in_ok-extra.extra) (text_or_null k.extra) c.in_ok-push_value-4.ensures c.in_ok-extra.ensures)
