-- The recipes of a module more.
use Rattle.std.proofs.Common.{rules, ◌≡◌, ◌<◌, length, get_or, map, ◌∙◌}
use Rattle.just_eval_closure.specs.Entries.{located_of}
use Rattle.just_eval_closure.proofs.EntryLists.{entries_more}
use Rattle.just_eval_closure.proofs.entries.entries.Goals as goal

pub modules-preserved : goal.modules-preserved
modules-preserved c =
    let m = c.module-item.result in
    let lt : c.modules.module-index < length c.args.modules.now = search rules in
    let is : m ≡ get_or c.args.modules.now c.modules.module-index m = search rules in
    record {
      entries =
          entries_more c.args.modules.now c.modules.module-index m (map located_of c.modules.all.items) (map located_of c.push_entries.new.entries.items) lt is c.in_ok-push_entries.ensures.entries ∙ c.modules.invariant.entries;
      see = c.in_ok-push_entries.ensures.see;
    }
