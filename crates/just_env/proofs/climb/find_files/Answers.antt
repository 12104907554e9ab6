-- The given paths give the pairs, or why there are none; else the names do.
use Rattle.std.proofs.Common.{◌∙◌}
use Rattle.just_path.specs.Path.{text_of}
use Rattle.just_env.proofs.Record.{gains_then}
use Rattle.just_env.proofs.Climbs.{files_by_paths, files_refused, files_by_names}
use Rattle.just_env.proofs.climb.find_files.Goals as goal

pub returns-in-Ok-Some-clause-found : goal.returns-in-Ok-Some-clause-found
returns-in-Ok-Some-clause-found g c = files_by_paths (g.H.Host.told c.args.host.now).world c.args.environ.now.pairs c.args.paths.now c.args.names.now (text_of c.args.folder) c.in-Ok-Some.pairs (rw c.in-Ok-Some.field-0-is at c.in-Ok-Some.ensures.loaded)

pub returns-in-Ok-Some-clause-gains : goal.returns-in-Ok-Some-clause-gains
returns-in-Ok-Some-clause-gains g c = c.in-Ok-Some.ensures.gains

pub returns-in-Ok-None-clause-found : goal.returns-in-Ok-None-clause-found
returns-in-Ok-None-clause-found g c = files_by_names (g.H.Host.told c.args.host.now).world c.args.environ.now.pairs c.args.paths.now c.args.names.now (text_of c.args.folder) (g.H.Host.told c.load_files.new.host).world c.climb.result c.load_files.ensures.world (rw c.in-Ok-None.field-0-is at c.in-Ok-None.ensures.loaded) c.climb.ensures.found

pub returns-in-Ok-None-clause-gains : goal.returns-in-Ok-None-clause-gains
returns-in-Ok-None-clause-gains g c = gains_then _ _ _ _ c.in-Ok-None.ensures.gains c.climb.ensures.gains

pub returns-in-Ok-None-clause-world : goal.returns-in-Ok-None-clause-world
returns-in-Ok-None-clause-world g c = c.climb.ensures.world ∙ c.load_files.ensures.world

pub returns-in-Err-clause-found : goal.returns-in-Err-clause-found
returns-in-Err-clause-found g c = files_refused (g.H.Host.told c.args.host.now).world c.args.environ.now.pairs c.args.paths.now c.args.names.now (text_of c.args.folder) c.in-Err.error c.in-Err.ensures.loaded

pub returns-in-Err-clause-gains : goal.returns-in-Err-clause-gains
returns-in-Err-clause-gains g c = c.in-Err.ensures.gains
