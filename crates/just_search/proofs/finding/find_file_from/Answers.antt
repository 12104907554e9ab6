-- What is found from a folder; or nothing.
use Rattle.std.proofs.Common.{refl}
use Rattle.just_path.specs.Path.{text_of}
use Rattle.just_search.specs.Finding.{as_file}
use Rattle.just_search.proofs.Owning.{folder_found, from_refused}
use Rattle.just_search.proofs.finding.find_file_from.Goals as goal

pub returns-in_ok-as_file-in-Ok-clause-found : goal.returns-in_ok-as_file-in-Ok-clause-found
returns-in_ok-as_file-in-Ok-clause-found g c =
    folder_found (g.H.Host.told c.args.host.now).world c.args.config.now (text_of c.args.start) (text_of c.args.start) c.in-Ok.file c.in_ok-as_file-in-Ok.field-0 refl c.in-Ok.ensures.found c.in_ok-as_file-in-Ok.ensures

pub returns-in-Err-clause-found : goal.returns-in-Err-clause-found
returns-in-Err-clause-found g c =
    from_refused (g.H.Host.told c.args.host.now).world c.args.config.now (text_of c.args.start) (text_of c.args.start) as_file c.in-Err.error refl c.in-Err.ensures.found
