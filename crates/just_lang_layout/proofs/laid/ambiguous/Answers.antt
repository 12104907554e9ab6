-- The files that were found, in their order.
use Rattle.just_lang_layout.proofs.Layouts.{told}
use Rattle.just_lang_layout.proofs.laid.ambiguous.Goals as goal

pub returns : goal.returns
returns c =
    told c.args.files.now c.args.place c.in_ok-module.module c.in_ok-found.found.items c.sort.new.self.items c.from.result
    c.in_ok-module.ensures c.in_ok-found.ensures c.in_ok-sort.ensures.permutation c.in_ok-sort.ensures.sorted c.from.ensures
