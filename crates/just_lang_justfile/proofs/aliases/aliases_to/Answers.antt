-- One more, where there is one.
use Rattle.std.proofs.Common.{ℕ, ◌+◌, ◌≤◌, ◌∙◌, List, length, drop, refl, arith}
use Rattle.just_lang_spots.specs.declared.entries.Entry.{Entry}
use Rattle.just_lang_spots.specs.Entries.{entry, entries}
use Rattle.just_lang_spots.proofs.ListLaws.{entries_drop}
use Rattle.just_lang_shapes.proofs.ListLaws.{picked_step, made_all}
use Rattle.just_lang_justfile.specs.Aliases.{alias_by, alias_for, aliases_to}
use Rattle.just_lang_justfile.proofs.aliases.aliases_to.Goals as goal

pub items-preserved : goal.items-preserved
items-preserved g c =
    let xs = c.args.items.now in
    let i = c.items.one-index in
    let x = c.one-item.result in
    picked_step (alias_by (g.L.Linker.links c.args.links.now) c.args.number (alias_for c.args.kind)) (entry x) (entries (drop (i + 1) xs)) (entries (drop i xs)) c.items.all.items
    c.push_some.new.list.items c.in_ok-alias.alias (entries_drop xs i x c.items-test.true c.one-item.is) c.in_ok-alias.ensures c.in_ok-push_some.ensures ∙ c.items.invariant

pub returns : goal.returns
returns g c =
    let links = g.L.Linker.links c.args.links.now in
    let xs = c.args.items.now in
    let last : length xs ≤ c.items.one-index = omega arith in
    c.from.ensures
    ∙ made_all (λ (ys : List Entry). aliases_to links c.args.number c.args.kind (entries ys)) xs c.items.one-index c.items.all.items (aliases_to links c.args.number c.args.kind (entries xs)) last refl c.items.invariant
