-- In the root of the project that the program was called in.
use Rattle.just_path.specs.Path.{text_of}
use Rattle.just_search.proofs.Writing.{inits_at}
use Rattle.just_search.proofs.init.init_by.Goals as goal

pub returns-in-FromInvocationDirectory-clause-found :
    goal.returns-in-FromInvocationDirectory-clause-found
returns-in-FromInvocationDirectory-clause-found g c =
    rw c.in-FromInvocationDirectory.is
    (inits_at (g.H.Host.told c.args.host.now).world c.args.config.now (text_of c.as_path.result) c.args.config.now.invocation_directory c.init_in.result c.as_path.ensures c.init_in.ensures.found)
