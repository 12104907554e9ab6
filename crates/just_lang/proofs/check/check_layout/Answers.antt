-- The importers are those by the layout's imports.
use Rattle.just_lang.proofs.ProjectLaws.{same_importers}
use Rattle.just_lang.proofs.check.check_layout.Goals as goal

pub check_winners-requires : goal.check_winners-requires
check_winners-requires c =
    same_importers c.args.layout.now.imports c.as_slice-imports.result.now c.in_ok-winners.winners.items c.as_slice-importers.result.now c.as_slice-imports.ensures c.as_slice-importers.ensures.value
    c.in_ok-winners.ensures
