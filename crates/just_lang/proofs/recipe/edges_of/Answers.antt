-- One more recipe has its edges.
use Rattle.std.proofs.Common.{◌+◌, ◌∙◌, take, ap}
use Rattle.just_lang_spots.proofs.ListLaws.{take_here, map_end}
use Rattle.just_lang_names.specs.Names.{layout_of, wins_of}
use Rattle.just_lang.specs.Cycles.{recipes_needed}
use Rattle.just_lang.specs.CycleTables.{standing, standings}
use Rattle.just_lang.proofs.Loops.{mapped_step}
use Rattle.just_lang.proofs.recipe.edges_of.Goals as goal

pub list-preserved : goal.list-preserved
list-preserved c =
    let xs = c.args.list.now in
    let i = c.list.one-index in
    let x = c.one-item.result in
    mapped_step (recipes_needed (wins_of c.args.names.now) (layout_of c.args.names.now)) (standing x) (standings (take i xs)) (standings (take (i + 1) xs)) c.list.edges.items c.push.new.self.items c.in_ok-places.places
    (ap standings (take_here xs i x c.list-test.true c.one-item.is) ∙ map_end standing (take i xs) x) c.in_ok-places.ensures c.list.invariant c.in_ok-push.ensures.items
