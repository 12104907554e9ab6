-- A recipe whose path is new, and is kept by itself or by its hash.
use Rattle.std.proofs.Common.{rules, ◌≡◌, nat_eq, false, is_some, refl, sym, ◌∙◌}
use Rattle.std.specs.HashMap.{get}
use Rattle.just_eval_closure.specs.Entries.{indexed}
use Rattle.just_eval_closure.proofs.EntryLists.{entered_other, entered_first}
use Rattle.just_eval_closure.proofs.entry.Index.enter.Goals as goal

pub returns-then-contains_key : goal.returns-then-contains_key
returns-then-contains_key c =
    let m = c.args.self.now in
    let e = c.args.entry.now in
    let new : is_some (indexed m e.recipe.now.path) ≡ false = search rules in
    entered_other m (record { firsts = m.firsts; others = c.insert.new.self }) e c.in_ok-try_clone.field-0 c.in_ok-try_clone.ensures new refl c.in_ok-insert.ensures.updates

pub returns : goal.returns
returns c =
    let m = c.args.self.now in
    let e = c.args.entry.now in
    let new : is_some (indexed m e.recipe.now.path) ≡ false = search rules in
    let free : is_some (get nat_eq m.firsts c.path_hash-hash.result) ≡ false = sym c.contains_key.ensures ∙ c.if-contains_key.false in
    entered_first m (record { firsts = c.insert-2.new.self; others = m.others }) e c.path_hash-hash.result c.path_hash-hash.ensures new free refl c.in_ok-insert-2.ensures.updates
