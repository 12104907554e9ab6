-- The folders are removed behind the run.
use Rattle.just_cli.proofs.Ending.{removed_so}
use Rattle.just_cli.proofs.runner.run_with.Goals as goal

pub returns : goal.returns
returns g c = c.run_made-ended.ensures _ (removed_so _ _ _ c.remove_folders.result (rw c.as_slice.ensures.value at c.remove_folders.ensures.removed) (rw c.as_slice.ensures.value at c.remove_folders.ensures.tried) (rw c.as_slice.ensures.value at c.remove_folders.ensures.stopped))
