-- A refusal is the error of the search, with its entry.
use Rattle.just_cli.proofs.NewPath.{path_entries}
use Rattle.just_cli.proofs.init.find_path.Goals as goal

pub returns-in-Err-clause-grew : goal.returns-in-Err-clause-grew
returns-in-Err-clause-grew g c = path_entries _ c.args.config.now _ _ c.in-Err.error _ c.in-Err.ensures.found c.in-Err.ensures.entries c.from.ensures
