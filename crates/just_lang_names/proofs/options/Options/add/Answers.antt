-- The set has one more name.
use Rattle.std.proofs.Common.{◌∙◌, ap, sym}
use Rattle.std.specs.Prelude.{◌||◌}
use Rattle.just_lang_types.specs.Options.{is_text}
use Rattle.just_lang_names.specs.Arities.{has_option_name}
use Rattle.just_lang_names.proofs.Sets.{option_insert}
use Rattle.just_lang_names.proofs.options.Options.add.Goals as goal

pub returns-in_ok-insert-in-Some : goal.returns-in_ok-insert-in-Some
returns-in_ok-insert-in-Some c = λ q.
    option_insert c.in-Some.name c.args.self.now.names c.insert.new.self q c.in_ok-insert-in-Some.ensures.updates
    ∙ ap (λ o. is_text q o || has_option_name c.args.self.now q) (sym c.in-Some.is)
