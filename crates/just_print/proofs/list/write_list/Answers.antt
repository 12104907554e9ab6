-- One more item is written behind what was.
use Rattle.std.proofs.Common.{◌≡◌, ◌∙◌, ℕ, List, ◌++◌, ◌+◌, drop, length, refl, sym, ap, append_assoc}
use Rattle.std.specs.Result.{IsOk}
use Rattle.std.specs.Fmt.{HasWritten, IsPlainFormatter}
use Rattle.std.proofs.lemmas.Grind.{put_two}
use Rattle.just_print.specs.SmallTexts.{items_from, item_text, list_text}
use Rattle.just_print.proofs.ListLaws.{item_here}
use Rattle.just_print.proofs.list.write_list.Goals as goal

pub items-preserved : goal.items-preserved
items-preserved g c = λ plain.
    let (done, written, e) = c.items.invariant plain in
    let text = item_text c.args.word.now c.args.items.now c.items.at in
    let rest = items_from c.args.word.now (length c.args.items.now) (c.items.at + 1) (drop (c.items.at + 1) c.args.items.now) in (
      done ++ text,
      put_two g.W.Write.write_str_gives c.args.f.now c.items.f c.write_item.new.f done text (done ++ text) written (c.in_ok-write_item.ensures written.plain refl) refl,
      append_assoc done text rest ∙ ap (λ x. done ++ x) (sym (item_here c.args.word.now c.items.at c.args.items.now c.items-test.true)) ∙ e,
    )
