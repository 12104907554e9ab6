-- One more arity.
use Rattle.std.proofs.Common.{◌+◌, ◌≤◌, ◌++◌, ◌∙◌, List, length, map, drop, append-nil, sym, ap, arith}
use Rattle.std.proofs.lemmas.List.{drop_all}
use Rattle.just_lang_spots.specs.declared.entries.Entry.{Entry}
use Rattle.just_lang_spots.specs.Entries.{entry, entries}
use Rattle.just_lang_spots.proofs.ListLaws.{entries_drop}
use Rattle.just_lang_names.specs.Arities.{arity_of_item}
use Rattle.just_lang_names.proofs.Steps.{made_step}
use Rattle.just_lang_names.proofs.arity.arities_in.Goals as goal

pub recipes-preserved : goal.recipes-preserved
recipes-preserved g c =
    let xs = c.args.recipes.now in
    let i = c.recipes.one-index in
    let x = c.one-item.result in
    made_step (arity_of_item (g.T.Texts.text_of c.args.texts.now)) (entry x) (entries (drop (i + 1) xs)) (entries (drop i xs)) c.recipes.arities.items c.push.new.self.items
    c.in_ok-arity.arity (entries_drop xs i x c.recipes-test.true c.one-item.is) c.in_ok-arity.ensures c.in_ok-push.ensures.items ∙ c.recipes.invariant

pub returns : goal.returns
returns g c =
    let made = c.recipes.arities.items in
    let xs = c.args.recipes.now in
    let i = c.recipes.one-index in
    let last : length xs ≤ i = omega arith in
    c.from.ensures ∙ sym (ap (λ (ys : List Entry). made ++ map (arity_of_item (g.T.Texts.text_of c.args.texts.now)) (entries ys)) (drop_all i xs last) ∙ append-nil made) ∙ c.recipes.invariant
