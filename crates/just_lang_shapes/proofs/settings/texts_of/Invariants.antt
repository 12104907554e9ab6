-- The texts so far, and those that are still to come.
use Rattle.std.proofs.Common.{◌≡◌, ◌++◌, drop}
use Rattle.std.specs.Prelude.{filter_map}
use Rattle.just_lang_shapes.proofs.settings.texts_of.Given as goal

abbrev pub invariant-literals : goal.invariant-literals
invariant-literals g l =
    l.all.items ++ filter_map (g.T.Texts.text_of l.texts) (drop l.literal-index l.literals) ≡ filter_map (g.T.Texts.text_of l.texts) l.literals
