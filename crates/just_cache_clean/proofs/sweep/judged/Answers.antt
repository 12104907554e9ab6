-- What the host answered of an entry, and whether it goes.
use Rattle.std.proofs.Common.{◌∙◌}
use Rattle.std.specs.Prelude.{Some}
use Rattle.just_path.specs.Path.{text_of}
use Rattle.just_cache_clean.specs.Kept.{path_of}
use Rattle.just_cache_clean.proofs.Steps.{judged_read, judged_no_text, judged_refused}
use Rattle.just_cache_clean.proofs.sweep.judged.Goals as goal

pub returns-in-Ok-clause-judged : goal.returns-in-Ok-clause-judged
returns-in-Ok-clause-judged g c =
    judged_read (path_of c.args.wanted) c.args.digest.now (text_of c.args.path) c.as_bytes.result.now c.as_bytes-in-Ok.result.now (g.H.Host.told c.args.host.now) (g.H.Host.told c.read.new.self) c.in-Ok.text c.stays.result
    c.requires.0 (c.as_bytes.ensures.value ∙ c.requires.1) c.as_bytes-in-Ok.ensures.value c.stays.ensures (record { entries = c.in-Ok.ensures.entries; own = c.in-Ok.ensures.own; told = c.in-Ok.ensures.told; world = c.in-Ok.ensures.world })

pub returns-then-is_no_text-clause-judged : goal.returns-then-is_no_text-clause-judged
returns-then-is_no_text-clause-judged g c =
    judged_no_text (path_of c.args.wanted) c.args.digest.now (text_of c.args.path) (g.H.Host.told c.args.host.now) (g.H.Host.told c.read.new.self) c.in-Err.fault c.is_no_text.result c.is_no_text.ensures c.if-is_no_text.true
    (record { entries = c.in-Err.ensures.entries; own = c.in-Err.ensures.own; told = c.in-Err.ensures.told; world = c.in-Err.ensures.world })

pub returns-else-is_no_text-clause-judged : goal.returns-else-is_no_text-clause-judged
returns-else-is_no_text-clause-judged g c =
    judged_refused (Some (path_of c.args.wanted)) c.args.digest.now (text_of c.args.path) c.in_ok-named.named (g.H.Host.told c.args.host.now) (g.H.Host.told c.read.new.self) c.in-Err.fault c.is_no_text.result c.entry_error.result
    c.is_no_text.ensures c.if-is_no_text.false c.in_ok-named.ensures c.entry_error.ensures
    (record { entries = c.in-Err.ensures.entries; own = c.in-Err.ensures.own; told = c.in-Err.ensures.told; world = c.in-Err.ensures.world })
