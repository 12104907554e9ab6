-- None of the attributes so far makes the parameter an option.
use Rattle.std.proofs.Common.{◌≡◌, drop}
use Rattle.std.specs.List.{list_any}
use Rattle.just_lang_types.specs.Options.{is_option_by}
use Rattle.just_lang_types.proofs.options.is_option.Given as goal

abbrev pub invariant-attributes : goal.invariant-attributes
invariant-attributes g l =
    list_any (is_option_by (g.T.Texts.text_of l.texts) l.name) (drop l.attribute-index l.attributes) ≡ list_any (is_option_by (g.T.Texts.text_of l.texts) l.parameter.name.text) l.attributes
