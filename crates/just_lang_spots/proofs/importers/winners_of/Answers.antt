-- The imports are a graph, and its importers those of the files.
use Rattle.std.proofs.Common.{sym, subst, ◌∙◌}
use Rattle.just_lang_spots.specs.Importers.{AreReached}
use Rattle.just_lang_spots.proofs.Whole.{graph_of, importers_whole}
use Rattle.just_lang_spots.proofs.importers.winners_of.Goals as goal

pub reached_of_each-requires : goal.reached_of_each-requires
reached_of_each-requires c = graph_of c.args.imports.now c.as_slice.result.now (c.as_slice.ensures.value ∙ c.in_ok-edges.ensures)

pub returns : goal.returns
returns c =
    importers_whole c.args.imports.now c.as_slice.result.now c.as_slice-2.result.now c.in_ok-winners.winners.items (c.as_slice.ensures.value ∙ c.in_ok-edges.ensures)
    (subst (AreReached c.as_slice.result.now) (sym c.as_slice-2.ensures.value) c.in_ok-table.ensures) c.in_ok-winners.ensures
