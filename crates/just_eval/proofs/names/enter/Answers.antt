-- A name that is new.
use Rattle.std.proofs.Common.{rules, ◌≡◌, false, is_some}
use Rattle.std.specs.BTreeMap.{get}
use Rattle.just_eval_closure.specs.Numbers.{text_cmp}
use Rattle.just_eval.proofs.Numbers.{entered_new, none_of}
use Rattle.just_eval.proofs.names.enter.Goals as goal

pub returns : goal.returns
returns c =
    let absent : is_some (get text_cmp c.args.numbers.now c.args.name.now) ≡ false = search rules in
    entered_new c.args.numbers.now c.insert.new.self c.args.name.now c.args.number c.in_ok-try_clone.field-0 c.in_ok-try_clone.ensures (none_of (get text_cmp c.args.numbers.now c.args.name.now) absent) c.in_ok-insert.ensures.updates
