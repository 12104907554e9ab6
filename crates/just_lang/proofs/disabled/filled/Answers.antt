-- One more list.
use Rattle.std.proofs.Common.{◌+◌, ◌∙◌, take, map, ap}
use Rattle.just_lang_spots.proofs.ListLaws.{take_here, map_end}
use Rattle.just_lang.specs.Disabling.{is_filled}
use Rattle.just_lang.specs.DisablingTables.{texts}
use Rattle.just_lang.proofs.Loops.{mapped_step}
use Rattle.just_lang.proofs.disabled.filled.Goals as goal

pub lists-preserved : goal.lists-preserved
lists-preserved c =
    let xs = c.args.lists.now in
    let i = c.lists.list-index in
    let x = c.list-item.result in
    mapped_step is_filled (texts x.items) (map (λ v. texts v.items) (take i xs)) (map (λ v. texts v.items) (take (i + 1) xs)) c.lists.filled.items c.push.new.self.items c.is_filled-is_it.result
    (ap (λ vs. map (λ v. texts v.items) vs) (take_here xs i x c.lists-test.true c.list-item.is) ∙ map_end (λ v. texts v.items) (take i xs) x) (c.is_filled-is_it.ensures ∙ ap (λ ts. is_filled (texts ts)) c.as_slice.ensures.value) c.lists.invariant c.in_ok-push.ensures.items
