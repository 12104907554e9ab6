-- The key has no text so far.
use Rattle.std.proofs.Common.{◌≡◌, drop}
use Rattle.just_lang_types.specs.Options.{first_text}
use Rattle.just_lang_types.proofs.options.first_text.Given as goal

abbrev pub invariant-arguments : goal.invariant-arguments
invariant-arguments g l =
    first_text (g.T.Texts.text_of l.texts) l.key (drop l.argument-index l.arguments) ≡ first_text (g.T.Texts.text_of l.texts) l.key l.arguments
