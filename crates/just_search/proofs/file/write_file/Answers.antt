-- The file is written; or the call is refused.
use Rattle.std.proofs.Common.{rules, ◌≡◌}
use Rattle.just_host_record.specs.declared.entry.HostFault.TheVariants as fault
use Rattle.just_search.specs.Files.{file_in, IsWritten, IsUnwritten}
use Rattle.just_search.proofs.Materializing.{write_done, write_refused}
use Rattle.just_search.proofs.file.write_file.Goals as goal

pub returns-in-Ok-clause-written : goal.returns-in-Ok-clause-written
returns-in-Ok-clause-written g c =
    let at : c.in_ok-justfile.justfile ≡ file_in c.args.folder.now = search rules in
    let writes : IsWritten (g.H.Host.told c.args.host.now).world (g.H.Host.told c.write_at.new.host).world c.in_ok-justfile.justfile c.args.text.now = search rules in
    write_done (g.H.Host.told c.args.host.now).world (g.H.Host.told c.write_at.new.host).world c.args.folder.now c.args.text.now c.args.working_directory c.in_ok-justfile.justfile _ at (search rules) writes

pub returns-in-Err-Failed-clause-written : goal.returns-in-Err-Failed-clause-written
returns-in-Err-Failed-clause-written g c =
    let at : c.in_ok-justfile.justfile ≡ file_in c.args.folder.now = search rules in
    let writes : IsUnwritten (g.H.Host.told c.args.host.now).world (g.H.Host.told c.write_at.new.host).world c.in_ok-justfile.justfile c.args.text.now (fault.Failed c.in-Err-Failed.call) = search rules in
    write_refused (g.H.Host.told c.args.host.now).world (g.H.Host.told c.write_at.new.host).world c.args.folder.now c.args.text.now c.args.working_directory c.in_ok-justfile.justfile (fault.Failed c.in-Err-Failed.call) _ at (search rules) (search rules) writes
