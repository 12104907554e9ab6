-- The items that stand in a folder; or none, where its listing is refused: each by the laws of a host.
use Rattle.std.proofs.Common.{rules}
use Rattle.just_path.specs.Path.{text_of}
use Rattle.just_search.proofs.Removing.{listed_told, listed_missed, listed_failed, unlisted_kept}
use Rattle.just_search.proofs.removal.items_in.Goals as goal

pub returns-in-Ok-clause-listed : goal.returns-in-Ok-clause-listed
returns-in-Ok-clause-listed g c =
    listed_told (text_of c.args.folder) (g.H.Host.told c.args.host.now) (g.H.Host.told c.list.new.self) _ c.in-Ok.items (g.met.H.Host.view_is c.args.host.now) c.in-Ok.ensures.told
    (g.met.H.Host.went_entries _ _ _ c.in-Ok.ensures.went) (g.met.H.Host.went_world _ _ _ c.list.ensures.went)

pub returns-in-Err-Missed-clause-listed : goal.returns-in-Err-Missed-clause-listed
returns-in-Err-Missed-clause-listed g c =
    listed_missed (text_of c.args.folder) (g.H.Host.told c.args.host.now) (g.H.Host.told c.list.new.self) _ _ c.in-Err-Missed.field-0 _ c.in-Err-Missed.field-0-is (g.met.H.Host.view_is c.args.host.now) c.in-Err-Missed.ensures.told
    (g.met.H.Host.went_entries _ _ _ c.in-Err-Missed.ensures.went) (g.met.H.Host.went_world _ _ _ c.list.ensures.went) (search rules)

pub returns-in-Err-Failed-clause-listed : goal.returns-in-Err-Failed-clause-listed
returns-in-Err-Failed-clause-listed g c =
    listed_failed (text_of c.args.folder) (g.H.Host.told c.args.host.now) (g.H.Host.told c.list.new.self) _ (search rules) (g.met.H.Host.went_world _ _ _ c.list.ensures.went) (search rules)

pub returns-in-Err-NoMemory-clause-kept : goal.returns-in-Err-NoMemory-clause-kept
returns-in-Err-NoMemory-clause-kept g c =
    unlisted_kept (text_of c.args.folder) (g.H.Host.told c.args.host.now) (g.H.Host.told c.list.new.self) c.in-Err-NoMemory.field-0 c.in-Err-NoMemory.field-0-is
    (g.met.H.Host.went_entries _ _ _ c.in-Err-NoMemory.ensures.went) (g.met.H.Host.went_world _ _ _ c.list.ensures.went)
