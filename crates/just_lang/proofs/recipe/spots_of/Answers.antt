-- One more recipe has its place.
use Rattle.std.proofs.Common.{◌+◌, ◌∙◌, take, ap}
use Rattle.just_lang_spots.proofs.ListLaws.{take_here, map_end}
use Rattle.just_lang.specs.Cycles.{recipe_spot}
use Rattle.just_lang.specs.CycleTables.{standing, standings}
use Rattle.just_lang.proofs.Loops.{mapped_step}
use Rattle.just_lang.proofs.recipe.spots_of.Goals as goal

pub list-preserved : goal.list-preserved
list-preserved c =
    let xs = c.args.list.now in
    let i = c.list.one-index in
    let x = c.one-item.result in
    mapped_step recipe_spot (standing x) (standings (take i xs)) (standings (take (i + 1) xs)) c.list.spots.items c.push.new.self.items c.name_spot.result
    (ap standings (take_here xs i x c.list-test.true c.one-item.is) ∙ map_end standing (take i xs) x) c.name_spot.ensures c.list.invariant c.in_ok-push.ensures.items
