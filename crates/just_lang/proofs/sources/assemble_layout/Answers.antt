-- The layout is kept, and which of its files win over which is what was found.
use Rattle.std.proofs.Common.{ℕ, List, refl, sym, subst}
use Rattle.just_lang_spots.specs.Importers.{AreImporters}
use Rattle.just_lang_spots.specs.Winners.{wins_in}
use Rattle.just_lang.specs.Projects.{AreWins}
use Rattle.just_lang.proofs.sources.assemble_layout.Goals as goal

pub returns-in-Ok-clause-laid : goal.returns-in-Ok-clause-laid
returns-in-Ok-clause-laid c = (
  refl,
  subst (λ (w : List (List ℕ)). AreWins c.args.layout (wins_in w)) (sym c.from.ensures)
      (subst (λ (i : List (List ℕ)). AreImporters i c.in_ok-winners.winners.items) c.as_slice-imports.ensures c.in_ok-winners.ensures),
  c.in-Ok.ensures.justfile,
)
