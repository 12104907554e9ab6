-- One more item in the table.
use Rattle.std.proofs.Common.{ap, ◌∙◌, ℕ, List, length, ◌≤◌, arith}
use Rattle.std.specs.Prelude.{None}
use Rattle.std.specs.Option.{option_copied}
use Rattle.std.proofs.lemmas.List.{take_all}
use Rattle.just_lang_syntax.specs.declared.ast.AstItem.{AstItem}
use Rattle.just_lang_shapes.specs.Comments.{found_at, above_from, flat}
use Rattle.just_lang_shapes.proofs.Above.{table_step, said_step}
use Rattle.just_lang_shapes.proofs.comments.comments_of.Goals as goal

pub items-preserved : goal.items-preserved
items-preserved c =
    let items = c.args.items.now in
    let i = c.items.item-index in
    let x = c.item-item.result in
    record {
      table = λ place. table_step items i x place (option_copied c.items.above) (found_at c.items.table place) (found_at c.add.new.table place) c.items-test.true c.item-item.is (c.in_ok-add.ensures place) (c.items.invariant.table place) c.items.invariant.above;
      above = said_step items i x (option_copied c.said_in-above.result) c.items-test.true c.item-item.is c.said_in-above.ensures;
    }

pub returns : goal.returns
returns c = λ n.
    ap flat (c.items.invariant.table (n.line, n.column) ∙ ap (λ (xs : List AstItem). above_from None xs (n.line, n.column)) (take_all c.items.item-index c.args.items.now (omega arith)))
