-- A captured child leaves the world but for its files.
use Rattle.std.proofs.Common.{refl}
use Rattle.just_host_record.specs.declared.entry.Call.TheVariants as call
use Rattle.just_host_memory.specs.Playing.{word_of}
use Rattle.just_host_memory.specs.Trees.{files_of}
use Rattle.just_host.specs.Mem.{world_of}
use Rattle.just_host.proofs.Worlds.{failed_leaves, large_capture, alone, files_alone}
use Rattle.just_host.proofs.memory.MemHostHost.capture.Goals as goal

pub returns-then-strike-clause-leaves : goal.returns-then-strike-clause-leaves
returns-then-strike-clause-leaves c = failed_leaves (world_of c.args.self.now) (world_of c.args.self.now) call.Capture c.fail.result c.fail.ensures.kind refl

pub returns-in-Ok-clause-leaves : goal.returns-in-Ok-clause-leaves
returns-in-Ok-clause-leaves c =
    files_alone c.args.self.now.folder.path c.args.self.now.environ.pairs c.args.self.now.input (files_of c.args.self.now.tree) (files_of c.captured.new.tree)
    c.args.self.now.endings.items c.captured.new.endings.items (word_of c.args.spec.now) c.in-Ok.ensures.used

pub returns-in-Err-clause-fault : goal.returns-in-Err-clause-fault
returns-in-Err-clause-fault c = large_capture c.args.input.now c.in-Err.fault c.refuse_call.result c.in-Err.ensures.refusal c.refuse_call.ensures.kind

pub returns-in-Ok-clause-alone : goal.returns-in-Ok-clause-alone
returns-in-Ok-clause-alone c =
    alone c.args.self.now.folder.path c.args.self.now.environ.pairs c.args.self.now.input (files_of c.args.self.now.tree) (files_of c.captured.new.tree)
    c.args.self.now.endings.items c.captured.new.endings.items (word_of c.args.spec.now) c.in-Ok.ensures.used
    c.args.self.now.folder.path c.in-Ok.ensures.effects
