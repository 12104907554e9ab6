-- What can't be removed stays.
use Rattle.just_path.specs.Path.{text_of}
use Rattle.just_host_memory.specs.Trees.{files_of}
use Rattle.just_host.specs.Mem.{world_of}
use Rattle.just_host.proofs.Worlds.{removal_refused}
use Rattle.just_host.proofs.memory.MemHostHost.remove.Goals as goal

pub returns-in-Err-clause-world : goal.returns-in-Err-clause-world
returns-in-Err-clause-world c =
    removal_refused (world_of c.args.self.now) (files_of c.remove_at.new.self) (text_of c.args.path) c.in-Err.fault c.refuse_call.result c.in-Err.ensures
    c.refuse_call.ensures.kind
