-- The keys for one more parameter.
use Rattle.std.proofs.Common.{refl, sym, ◌∙◌}
use Rattle.just_lang_shapes.proofs.KeyTables.{behind_step}
use Rattle.just_lang_shapes.proofs.keys.add_behind.Goals as goal

pub returns-in_ok-insert-in-Some : goal.returns-in_ok-insert-in-Some
returns-in_ok-insert-in-Some g c = λ name.
    behind_step (g.T.Texts.text_of c.args.texts.now) c.args.arguments.now c.first-item.result c.in-Some.name _ c.args.table.now c.insert.new.self name c.in-len1-up.len_at_least c.first-item.is
    (sym c.in-Some.is ∙ c.in_ok-const_text-in-len1-up.ensures) c.in_ok-insert-in-Some.ensures.updates refl
