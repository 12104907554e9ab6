-- One more in front is kept unless its name is that of one behind it.
use Rattle.std.proofs.Common.{◌≡◌, ◌<◌, ◌-◌, ◌∷◌, length, drop, not, sym, ap, ◌∙◌, arith}
use Rattle.std.specs.List.{list_any}
use Rattle.just_lang_spots.specs.Entries.{entry, entries}
use Rattle.just_lang_spots.specs.Items.{item_name}
use Rattle.just_lang_spots.specs.Standing.{last_of_each, has_name}
use Rattle.just_lang_spots.proofs.ListLaws.{entries_drop}
use Rattle.just_lang_spots.proofs.Reversed.{entries_reverse, last_kept, sees_front}
use Rattle.just_lang_spots.proofs.winners.last_of_each.Goals as goal

pub items-preserved : goal.items-preserved
items-preserved c =
    let items = c.args.items.now in
    let x = c.index-items-at.result in
    let rest = entries (drop c.items.at items) in
    let inside : c.items.at - 1 < length items = omega (arith, c.items-test.true, c.items.invariant.within) in
    let here : entries (drop (c.items.at - 1) items) ≡ entry x ∷ rest =
    entries_drop items (c.items.at - 1) x inside c.index-items-at.is ∙ ap (λ n. entry x ∷ entries (drop n items)) (omega (arith, c.items-test.true)) in
    record {
      within = omega (arith, c.items.invariant.within);
      same = λ q.
          sees_front q c.item_name.result c.items.seen c.insert.new.self x rest c.in_ok-is_last.ensures.updates c.item_name.ensures (c.items.invariant.same q)
          ∙ ap (list_any (has_name item_name q.now)) (sym here);
      kept =
          last_kept (entries c.items.kept.items) (entries c.keep_where.new.kept.items) (last_of_each item_name rest) c.in_ok-is_last.is_last
          (list_any (has_name item_name (item_name x.item.now)) rest) (entry x) c.in_ok-keep_where.ensures
          (c.in_ok-is_last.ensures.added ∙ ap not (c.items.invariant.same c.item_name.result ∙ ap (λ n. list_any (has_name item_name n) rest) c.item_name.ensures)) c.items.invariant.kept
          ∙ ap (last_of_each item_name) (sym here);
    }

pub returns : goal.returns
returns c =
    let at_first : c.items.at ≡ 0 = omega (arith, c.items-test.false) in
    ap entries c.reverse.ensures.items ∙ entries_reverse c.items.kept.items ∙ c.items.invariant.kept
    ∙ ap (λ n. last_of_each item_name (entries (drop n c.args.items.now))) at_first
