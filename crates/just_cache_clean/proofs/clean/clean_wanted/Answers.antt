-- What the host answered of the folder, and what is made of it.
use Rattle.std.proofs.Common.{◌∙◌}
use Rattle.just_path.specs.Path.{text_of}
use Rattle.just_cache_clean.specs.Kept.{given}
use Rattle.just_cache_clean.proofs.Cleaning.{cleans_listed, cleans_not}
use Rattle.just_cache_clean.proofs.clean.clean_wanted.Goals as goal

pub returns-in-Ok-clause-cleans : goal.returns-in-Ok-clause-cleans
returns-in-Ok-clause-cleans g c =
    cleans_listed (text_of c.args.wanted.folder) (given c.args.wanted.prefix) (g.H.Host.told c.args.host.now) (g.H.Host.told c.names.new.self) (g.H.Host.told c.clean_listed.new.host) (g.H.PathHost.view c.args.host.now) c.in-Ok.names
    c.as_slice.result.now c.clean_listed.result (g.met.H.Host.view_is c.args.host.now) (g.met.H.Host.went_entries _ _ _ c.in-Ok.ensures.went) (g.met.H.Host.went_world _ _ _ c.names.ensures.went) c.in-Ok.ensures.order c.in-Ok.ensures.told
    c.as_slice.ensures c.clean_listed.ensures.cleans

pub returns-in-Ok-clause-spare : goal.returns-in-Ok-clause-spare
returns-in-Ok-clause-spare g c = c.clean_listed.ensures.spare ∙ g.met.H.Host.went_spare _ _ _ c.names.ensures.went

pub returns-in-Err-clause-cleans : goal.returns-in-Err-clause-cleans
returns-in-Err-clause-cleans g c =
    cleans_not (text_of c.args.wanted.folder) (given c.args.wanted.prefix) (g.H.Host.told c.args.host.now) (g.H.Host.told c.names.new.self) (g.H.PathHost.view c.args.host.now) c.in-Err.fault c.in_ok-folder.folder c.unlisted.result
    (g.met.H.Host.view_is c.args.host.now) (g.met.H.Host.went_entries _ _ _ c.in-Err.ensures.went) (g.met.H.Host.went_world _ _ _ c.names.ensures.went) c.in-Err.ensures.told c.in_ok-folder.ensures c.unlisted.ensures

pub returns-in-Err-clause-spare : goal.returns-in-Err-clause-spare
returns-in-Err-clause-spare g c = g.met.H.Host.went_spare _ _ _ c.names.ensures.went
