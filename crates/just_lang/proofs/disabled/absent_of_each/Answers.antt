-- The names of one more recipe.
use Rattle.std.proofs.Common.{◌+◌, ◌∙◌, take, map, ap}
use Rattle.just_lang_spots.proofs.ListLaws.{take_here, map_end}
use Rattle.just_lang_names.specs.Names.{layout_of}
use Rattle.just_lang.specs.CycleTables.{standing, standings}
use Rattle.just_lang.specs.Disabling.{own_absent}
use Rattle.just_lang.specs.DisablingTables.{texts}
use Rattle.just_lang.proofs.Loops.{mapped_step}
use Rattle.just_lang.proofs.disabled.absent_of_each.Goals as goal

pub list-preserved : goal.list-preserved
list-preserved c =
    let xs = c.args.list.now in
    let i = c.list.one-index in
    let x = c.one-item.result in
    mapped_step (own_absent (layout_of c.args.names.now)) (standing x) (standings (take i xs)) (standings (take (i + 1) xs)) (map (λ v. texts v.items) c.list.absent.items) (map (λ v. texts v.items) c.push.new.self.items) (texts c.in_ok-own.own.items)
    (ap standings (take_here xs i x c.list-test.true c.one-item.is) ∙ map_end standing (take i xs) x) c.in_ok-own.ensures c.list.invariant
    (ap (λ vs. map (λ v. texts v.items) vs) c.in_ok-push.ensures.items ∙ map_end (λ v. texts v.items) c.list.absent.items c.in_ok-own.own)
