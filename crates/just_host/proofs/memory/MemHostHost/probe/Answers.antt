-- A cache entry that is looked at was there, or it is made.
use Rattle.just_path.specs.Path.{text_of}
use Rattle.just_host_record.proofs.Effects.{entry_has}
use Rattle.just_host_memory.specs.Trees.{files_of}
use Rattle.just_host.specs.Mem.{world_of}
use Rattle.just_host.proofs.memory.MemHostHost.probe.Goals as goal

pub returns-in-Ok-make_entry-clause-has : goal.returns-in-Ok-make_entry-clause-has
returns-in-Ok-make_entry-clause-has c = entry_has (world_of c.args.self.now) (text_of c.args.entry) (files_of c.make_entry.new.self) c.in-Ok-make_entry.ensures.tells
