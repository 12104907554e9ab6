-- The names of the options so far.
use Rattle.std.proofs.Common.{◌≡◌, ℕ, List, take}
use Rattle.std.specs.List.{list_any}
use Rattle.just_lang_types.specs.Options.{is_option_by}
use Rattle.just_lang_names.specs.Arities.{has_option_name}
use Rattle.just_lang_names.proofs.options.options_of.Given as goal

abbrev pub invariant-attributes : goal.invariant-attributes
invariant-attributes g l =
    (q : List ℕ) → has_option_name l.options q ≡ list_any (is_option_by (g.T.Texts.text_of l.texts) q) (take l.attribute-index l.attributes)
