-- A start leaves the world but for its files.
use Rattle.std.proofs.Common.{Result, Ok, Err, OnErr, refl}
use Rattle.just_host_record.specs.declared.entry.Call.TheVariants as call
use Rattle.just_host_memory.specs.Playing.{word_of}
use Rattle.just_host_memory.specs.Trees.{files_of}
use Rattle.just_host.specs.Mem.{world_of}
use Rattle.just_host.proofs.Worlds.{failed_leaves, failed_shows, unchanged, files_alone}
use Rattle.just_host.proofs.memory.MemHostHost.start.Goals as goal

pub returns-then-strike-clause-leaves : goal.returns-then-strike-clause-leaves
returns-then-strike-clause-leaves c = failed_leaves (world_of c.args.self.now) (world_of c.args.self.now) call.Start c.fail.result c.fail.ensures.kind refl

pub returns-then-fails-clause-leaves : goal.returns-then-fails-clause-leaves
returns-then-fails-clause-leaves c =
    files_alone c.args.self.now.folder.path c.args.self.now.environ.pairs c.args.self.now.input (files_of c.args.self.now.tree) (files_of c.started.new.tree)
    c.args.self.now.endings.items c.started.new.endings.items (word_of c.args.spec.now) c.in_ok-number.ensures.used

pub returns-else-fails-clause-leaves : goal.returns-else-fails-clause-leaves
returns-else-fails-clause-leaves c =
    files_alone c.args.self.now.folder.path c.args.self.now.environ.pairs c.args.self.now.input (files_of c.args.self.now.tree) (files_of c.started.new.tree)
    c.args.self.now.endings.items c.started.new.endings.items (word_of c.args.spec.now) c.in_ok-number.ensures.used

pub returns-then-strike-clause-shown : goal.returns-then-strike-clause-shown
returns-then-strike-clause-shown c = failed_shows (world_of c.args.self.now) c.args.spec.now call.Start c.fail.result c.fail.ensures.kind

-- what holds anyway holds of a refusal
refused_so : {A E : Type 0} {P : Type 0} (r : Result A E) → P → OnErr r P
refused_so (Ok x) p = tt
refused_so (Err e) p = p

pub returns-in_err-number-clause-refused : goal.returns-in_err-number-clause-refused
returns-in_err-number-clause-refused c = refused_so c.from_residual.result (record {
  world = unchanged c.args.self.now.folder.path c.args.self.now.environ.pairs c.args.self.now.input (files_of c.args.self.now.tree) (files_of c.started.new.tree)
      c.args.self.now.endings.items c.started.new.endings.items c.in_err-number.ensures.files c.in_err-number.ensures.kept;
  endings = c.in_err-number.ensures.kept;
  answers = refl;
  signals = refl;
  planned = c.strike.ensures.numbers;
  calls = c.strike.ensures.calls;
})
