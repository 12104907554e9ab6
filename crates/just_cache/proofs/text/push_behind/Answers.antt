-- The members behind the inputs, one after another.
use Rattle.std.proofs.Common.{codes, string_bytes, ap, ◌∙◌}
use Rattle.serde_json.specs.Data.{string}
use Rattle.serde_json.specs.View.{view}
use Rattle.serde_json.specs.Written.{has_float}
use Rattle.just_cache.specs.Members.{texts_or_null, text_or_null, path_text}
use Rattle.just_cache.proofs.Cut.{said, behind_pushed, texts_or_null_float_free}
use Rattle.just_cache.proofs.text.push_behind.Goals as goal

pub push_value-requires : goal.push_value-requires
push_value-requires c = ap has_float c.in_ok-positional.ensures ∙ texts_or_null_float_free c.args.key.now.positional

pub returns : goal.returns
returns c =
    let k = c.args.key.now in
    behind_pushed k (string_bytes c.args.text.now) (string_bytes c.push_value.new.text) (string_bytes c.push_value-2.new.text) (string_bytes c.push_value-3.new.text) (string_bytes c.push_str.new.self)
    (said (string_bytes c.args.text.now) (string_bytes c.push_value.new.text) (codes ",\"positional\":") (view c.in_ok-positional.positional) (texts_or_null k.positional) c.in_ok-push_value.ensures c.in_ok-positional.ensures)
    (said (string_bytes c.push_value.new.text) (string_bytes c.push_value-2.new.text) (codes ",\"recipe\":") (view c.in_ok-recipe.recipe) (string (path_text k.recipe.components)) c.in_ok-push_value-2.ensures (c.in_ok-recipe.ensures ∙ ap (λ names. string (path_text names)) c.as_slice.ensures))
    (said (string_bytes c.push_value-2.new.text) (string_bytes c.push_value-3.new.text) (codes ",\"working_directory\":") (view c.in_ok-folder.folder) (text_or_null k.working_directory) c.in_ok-push_value-3.ensures c.in_ok-folder.ensures)
    c.in_ok-push_str.ensures.bytes
