-- The arities so far, and those that are still to come.
use Rattle.std.proofs.Common.{◌≡◌, ◌++◌, drop}
use Rattle.just_lang_names.specs.Arities.{arities_of}
use Rattle.just_lang_names.proofs.arity.arities_of.Given as goal

abbrev pub invariant-modules : goal.invariant-modules
invariant-modules g l =
    l.modules.items ++ arities_of (g.T.Texts.text_of l.texts) (drop l.of_module-index l.names.modules.items)
    ≡ arities_of (g.T.Texts.text_of l.texts) l.names.modules.items
