-- A folder with its names; and one that can't be listed.
use Rattle.just_path.specs.Path.{text_of}
use Rattle.just_search.proofs.Deciding.{mark_listed, mark_unlisted}
use Rattle.just_search.proofs.root.look_for_mark.Goals as goal

pub returns-in-Ok-clause-looks : goal.returns-in-Ok-clause-looks
returns-in-Ok-clause-looks g c =
    mark_listed (g.H.Host.told c.args.host.now).world (text_of c.args.folder) c.as_slice.result.now c.if_marked.result (rw (← c.as_slice.ensures) at c.in-Ok.ensures.names) c.if_marked.ensures.marked

pub returns-in-Err-clause-looks : goal.returns-in-Err-clause-looks
returns-in-Err-clause-looks g c = mark_unlisted (g.H.Host.told c.args.host.now).world (text_of c.args.folder) c.in-Err.error c.in-Err.ensures.names
