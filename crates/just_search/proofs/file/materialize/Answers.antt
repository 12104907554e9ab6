-- A file is loaded itself.
use Rattle.std.proofs.Common.{rules}
use Rattle.just_search.proofs.Materializing.{file_itself}
use Rattle.just_search.proofs.file.materialize.Goals as goal

pub returns-in-File : goal.returns-in-File
returns-in-File g c = record {
  materialized = file_itself (g.H.Host.told c.args.host.now) c.args.config.now c.args.location c.in-File.justfile c.args.made.now.items _ c.in-File.is (search rules);
}
