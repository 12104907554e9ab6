-- What the loader loads is the project of the justfile; a refusal is the error of the search.
use Rattle.just_cli.proofs.Loading.{ends_load, loads_here, load_refused_by}
use Rattle.just_cli.proofs.PlainSearch.{load_error}
use Rattle.just_cli.proofs.given.load.Goals as goal

pub returns-in-Ok-clause-sources : goal.returns-in-Ok-clause-sources
returns-in-Ok-clause-sources g c = loads_here _ _ _ _ c.new-loader.ensures _ c.in-Ok.ensures.ends

pub returns-in-Err-clause-grew : goal.returns-in-Err-clause-grew
returns-in-Err-clause-grew g c = ends_load _ _ c.in-Err.error _ (load_error _ _ _ _ c.in-Err.error c.in-Err.ensures.ends) c.in-Err.ensures.gains c.from.ensures

pub returns-in-Err-clause-refused : goal.returns-in-Err-clause-refused
returns-in-Err-clause-refused g c = load_refused_by _ _ _ _ c.new-loader.ensures c.in-Err.error _ c.in-Err.ensures.ends c.from.ensures
