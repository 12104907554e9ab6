-- One more, where there is one.
use Rattle.std.proofs.Common.{ℕ, ◌+◌, ◌≤◌, ◌∙◌, List, length, drop, refl, arith}
use Rattle.std.specs.Prelude.{filter_map}
use Rattle.std.specs.List.{enumerate_from}
use Rattle.just_lang_types.specs.declared.scope.Disabled.{Disabled}
use Rattle.just_lang_spots.specs.declared.entries.Entry.{Entry}
use Rattle.just_lang_spots.specs.Entries.{entry, entries}
use Rattle.just_lang_justfile.specs.Recipes.{disabled_at, disabled_recipes_of}
use Rattle.just_lang_shapes.proofs.ListLaws.{picked_step, made_all}
use Rattle.just_lang_justfile.proofs.ListLaws.{places_here}
use Rattle.just_lang_justfile.proofs.recipes.disabled_recipes_of.Goals as goal

pub standing-preserved : goal.standing-preserved
standing-preserved g c =
    let xs = c.args.standing.now in
    let i = c.standing.at in
    let x = c.index-standing-at.result in
    picked_step (disabled_at (g.L.Linker.links c.args.links.now) c.args.number) (i, entry x) (enumerate_from (i + 1) (entries (drop (i + 1) xs))) (enumerate_from i (entries (drop i xs))) c.standing.all.items c.push_some.new.list.items c.in_ok-disabled.disabled
    (places_here xs i x c.standing-test.true c.index-standing-at.is) c.in_ok-disabled.ensures c.in_ok-push_some.ensures ∙ c.standing.invariant

pub returns : goal.returns
returns g c =
    let i = c.standing.at in
    let made : List Entry → List Disabled = λ ys. filter_map (disabled_at (g.L.Linker.links c.args.links.now) c.args.number) (enumerate_from i (entries ys)) in
    let xs = c.args.standing.now in
    let last : length xs ≤ i = omega arith in
    c.from.ensures ∙ made_all made xs i c.standing.all.items (disabled_recipes_of (g.L.Linker.links c.args.links.now) c.args.number (entries xs)) last refl c.standing.invariant
