-- A folder that can't be listed.
use Rattle.just_path.specs.Path.{text_of}
use Rattle.just_search_load.proofs.Naming.{adds_no_folder}
use Rattle.just_search_load.proofs.present.add_module_files.Goals as goal

pub returns-in-Err-clause-added : goal.returns-in-Err-clause-added
returns-in-Err-clause-added g c =
    adds_no_folder (g.H.Host.told c.args.host.now).world c.args.base.now (text_of c.as_path.result) c.in-Err.error c.as_path.ensures c.in-Err.ensures.names
