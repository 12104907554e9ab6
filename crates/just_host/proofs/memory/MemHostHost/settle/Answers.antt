-- To settle a child changes nothing of the world.
use Rattle.std.proofs.Common.{refl}
use Rattle.just_host.specs.Mem.{world_of}
use Rattle.just_host.proofs.memory.MemHostHost.settle.Goals as goal

pub returns-clause-touched : goal.returns-clause-touched
returns-clause-touched c = (world_of c.args.self.now, refl, refl, refl, refl, λ spec h. h, λ none. none)
