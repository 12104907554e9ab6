-- One more, where there is one; where none is left, those so far are all.
use Rattle.std.proofs.Common.{ℕ, ◌+◌, ◌≤◌, ◌∙◌, List, length, drop, refl, arith}
use Rattle.just_lang_spots.specs.declared.entries.Entry.{Entry}
use Rattle.just_lang_spots.specs.Entries.{entry, entries}
use Rattle.just_lang_spots.proofs.ListLaws.{entries_drop}
use Rattle.just_lang_shapes.specs.Scopes.{unexport_in, unexports_of}
use Rattle.just_lang_shapes.proofs.ListLaws.{picked_step, made_all}
use Rattle.just_lang_shapes.proofs.scope.unexports_of.Goals as goal

pub items-preserved : goal.items-preserved
items-preserved c =
    let xs = c.args.items.now in
    let i = c.items.one-index in
    let x = c.one-item.result in
    picked_step unexport_in (entry x) (entries (drop (i + 1) xs)) (entries (drop i xs)) c.items.all.items c.push_some.new.list.items c.in_ok-name.name
    (entries_drop xs i x c.items-test.true c.one-item.is) c.in_ok-name.ensures c.in_ok-push_some.ensures ∙ c.items.invariant

pub returns : goal.returns
returns c =
    let made : List Entry → List (List ℕ) = λ ys. unexports_of (entries ys) in
    let xs = c.args.items.now in
    let last : length xs ≤ c.items.one-index = omega arith in
    c.from.ensures ∙ made_all made xs c.items.one-index c.items.all.items (made xs) last refl c.items.invariant
