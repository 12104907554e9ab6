-- What was read is one byte more than the limit at most.
use Rattle.std.proofs.Common.{ap}
use Rattle.just_host_files.proofs.Limits.{read_known}
use Rattle.just_host_files.proofs.system.read_text.Goals as goal

pub returns-clause-told : goal.returns-clause-told
returns-clause-told g c =
    read_known (g.F.Read.remaining c.args.reader) (g.F.Read.remaining c.take.result.inner) c.read_to_end.new.buf.items c.in_ok-bytes.bytes.items c.take.result.limit c.text_of.result
    (ap g.F.Read.remaining c.take.ensures.inner) c.take.ensures.limit c.in_ok-bytes.ensures.items c.in_ok-read_to_end.ensures.bytes c.text_of.ensures.told
