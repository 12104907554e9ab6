-- One more item.
use Rattle.std.proofs.Common.{ℕ, ◌+◌, ◌∙◌, map, drop}
use Rattle.just_lang_syntax.specs.declared.ast.AstItem.{AstItem}
use Rattle.just_lang_spots.specs.Entries.{entry, entries}
use Rattle.just_lang_spots.proofs.ListLaws.{entries_drop}
use Rattle.just_lang_rulebook.specs.Patterns.{pattern_pair, patterns_of}
use Rattle.just_lang_rules.proofs.Loops.{flat_step}
use Rattle.just_lang_rulebook.proofs.pattern_rules.push_of_items.Goals as goal

pub items-preserved : goal.items-preserved
items-preserved g c =
    let xs = c.args.items.now in
    let i = c.items.one-index in
    let x = c.one-item.result in
    flat_step (λ (y : ℕ × AstItem). patterns_of (g.T.Texts.text_of c.args.texts.now) y.0 y.1) (entry x) (entries (drop (i + 1) xs)) (entries (drop i xs)) (map pattern_pair c.items.found.items) (map pattern_pair c.push_of_item.new.found.items)
    (entries_drop xs i x c.items-test.true c.one-item.is) c.in_ok-push_of_item.ensures ∙ c.items.invariant
