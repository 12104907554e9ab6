-- The names of a folder, or why they can't be listed: each by the laws of a host.
use Rattle.just_path.specs.Path.{text_of}
use Rattle.just_search.proofs.Listed.{lists_names, lists_refused, refused_entries}
use Rattle.just_search.proofs.listing.names_in.Goals as goal

pub returns-in-Ok-clause-names : goal.returns-in-Ok-clause-names
returns-in-Ok-clause-names g c =
    lists_names (g.H.Host.told c.args.host.now).world _ (text_of c.args.folder) c.in-Ok.names (g.met.H.Host.view_is c.args.host.now) c.in-Ok.ensures.told c.in-Ok.ensures.order

pub returns-in-Ok-clause-entries : goal.returns-in-Ok-clause-entries
returns-in-Ok-clause-entries g c = g.met.H.Host.went_entries _ _ _ c.in-Ok.ensures.went

pub returns-in-Ok-clause-world : goal.returns-in-Ok-clause-world
returns-in-Ok-clause-world g c = g.met.H.Host.went_world _ _ _ c.names.ensures.went

pub returns-in-Err-clause-names : goal.returns-in-Err-clause-names
returns-in-Err-clause-names g c =
    lists_refused (g.H.Host.told c.args.host.now).world _ (text_of c.args.folder) c.in_ok-path.path c.in-Err.fault c.listing_error.result (g.met.H.Host.view_is c.args.host.now) c.in-Err.ensures.told c.in_ok-path.ensures c.listing_error.ensures

pub returns-in-Err-clause-entries : goal.returns-in-Err-clause-entries
returns-in-Err-clause-entries g c =
    refused_entries (g.H.Host.told c.args.host.now).entries (g.H.Host.told c.names.new.self).entries (text_of c.args.folder) c.in_ok-path.path c.in-Err.fault c.listing_error.result (g.met.H.Host.went_entries _ _ _ c.in-Err.ensures.went) c.in_ok-path.ensures c.listing_error.ensures

pub returns-in-Err-clause-world : goal.returns-in-Err-clause-world
returns-in-Err-clause-world g c = g.met.H.Host.went_world _ _ _ c.names.ensures.went
