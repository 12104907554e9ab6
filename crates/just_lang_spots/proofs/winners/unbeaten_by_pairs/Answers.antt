-- One more that stands is kept.
use Rattle.std.proofs.Common.{◌∙◌, ◌+◌, ℕ, Bool, not, drop}
use Rattle.std.specs.Prelude.{filter}
use Rattle.just_lang_syntax.specs.declared.ast.AstItem.{AstItem}
use Rattle.just_lang_spots.specs.Entries.{entries}
use Rattle.just_lang_spots.specs.Items.{item_name}
use Rattle.just_lang_spots.specs.Standing.{is_beaten}
use Rattle.just_lang_spots.specs.Winners.{wins_in}
use Rattle.just_lang_spots.proofs.ListLaws.{kept_step}
use Rattle.just_lang_spots.proofs.BeatenLaws.{unbeaten_by}
use Rattle.just_lang_spots.proofs.winners.unbeaten_by_pairs.Goals as goal

pub items-preserved : goal.items-preserved
items-preserved c =
    let items = c.args.items.now in
    let i = c.items.one-index in
    let x = c.one-item.result in
    let p : ℕ × AstItem → Bool = λ y. not (is_beaten item_name (wins_in c.args.winners.now) (entries items) y) in
    kept_step (not c.is_beaten-stands.result) c.items.kept.items c.keep_where.new.kept.items x (filter p (entries (drop (i + 1) items))) (filter p (entries (drop i items))) c.in_ok-keep_where.ensures
    (unbeaten_by c.args.winners.now c.in_ok-pairs.pairs items i x c.is_beaten-stands.result c.in_ok-pairs.ensures c.items-test.true c.one-item.is c.is_beaten-stands.ensures) ∙ c.items.invariant
