-- The table has one more entry.
use Rattle.std.proofs.Common.{◌∙◌, ap, sym}
use Rattle.just_lang_names.specs.Children.{entered}
use Rattle.just_lang_names.specs.Names.{child_in}
use Rattle.just_lang_names.proofs.Inserts.{child_insert}
use Rattle.just_lang_names.proofs.children.Children.enter.Goals as goal

pub returns-in_ok-insert-in-Some : goal.returns-in_ok-insert-in-Some
returns-in_ok-insert-in-Some c = λ outer q.
    child_insert c.args.number c.in-Some.key c.args.self.now.numbers c.insert.new.self c.in_ok-insert-in-Some.ensures.updates outer q
    ∙ ap (λ k. entered k c.args.number (child_in c.args.self.now) outer q) (sym c.in-Some.is)
