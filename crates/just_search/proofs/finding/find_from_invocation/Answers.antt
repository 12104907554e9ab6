-- What is found from the folder in which the program was called; or nothing.
use Rattle.just_path.specs.Path.{text_of}
use Rattle.just_search.specs.Finding.{as_origin}
use Rattle.just_search.proofs.Owning.{invocation_found, from_refused}
use Rattle.just_search.proofs.finding.find_from_invocation.Goals as goal

pub returns-in_ok-as_origin-in-Ok-clause-found : goal.returns-in_ok-as_origin-in-Ok-clause-found
returns-in_ok-as_origin-in-Ok-clause-found g c =
    invocation_found (g.H.Host.told c.args.host.now).world c.args.config.now (text_of c.as_path-start.result) c.args.config.now.invocation_directory c.in-Ok.file c.in_ok-as_origin-in-Ok.field-0 c.as_path-start.ensures c.in-Ok.ensures.found c.in_ok-as_origin-in-Ok.ensures

pub returns-in-Err-clause-found : goal.returns-in-Err-clause-found
returns-in-Err-clause-found g c =
    from_refused (g.H.Host.told c.args.host.now).world c.args.config.now (text_of c.as_path-start.result) c.args.config.now.invocation_directory as_origin c.in-Err.error c.as_path-start.ensures c.in-Err.ensures.found
