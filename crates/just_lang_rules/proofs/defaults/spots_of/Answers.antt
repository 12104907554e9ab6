-- One more item.
use Rattle.std.proofs.Common.{ℕ, ◌+◌, ◌∙◌, drop}
use Rattle.just_lang_syntax.specs.declared.ast.AstItem.{AstItem}
use Rattle.just_lang_spots.specs.Entries.{entry, entries}
use Rattle.just_lang_spots.proofs.ListLaws.{entries_drop}
use Rattle.just_lang_rules.specs.DefaultSpots.{default_spots}
use Rattle.just_lang_rules.proofs.Loops.{flat_step}
use Rattle.just_lang_rules.proofs.defaults.spots_of.Goals as goal

pub items-preserved : goal.items-preserved
items-preserved c =
    let xs = c.args.items.now in
    let i = c.items.one-index in
    let x = c.one-item.result in
    flat_step (λ (y : ℕ × AstItem). default_spots y.0 y.1) (entry x) (entries (drop (i + 1) xs)) (entries (drop i xs)) c.items.spots.items c.push_of.new.spots.items
    (entries_drop xs i x c.items-test.true c.one-item.is) c.in_ok-push_of.ensures ∙ c.items.invariant
