-- A justfile that is found, a search without one, and one that is refused.
use Rattle.std.proofs.Common.{rules, ◌≡◌, true, false}
use Rattle.just_path.specs.Path.{text_of}
use Rattle.just_search.specs.Fallback.{is_search, is_not_found}
use Rattle.just_search.proofs.Rising.{falls_found, falls_nowhere, falls_refused, nowhere_unheard}
use Rattle.just_search.proofs.fallback.find_fallback.Goals as goal

pub returns-in-Ok-clause-found : goal.returns-in-Ok-clause-found
returns-in-Ok-clause-found g c =
    let searches : is_search c.args.config.now.search_config ≡ true = search rules in
    falls_found (g.H.Host.told c.args.host.now).world (g.H.PathHost.view c.args.host.now) c.args.config.now (text_of c.args.folder) c.in-Ok.location c.if_higher.result (g.met.H.Host.view_is c.args.host.now) (g.met.H.PathHost.view_clean c.args.host.now) searches c.in-Ok.ensures.found c.if_higher.ensures

pub returns-then-is_not_found-clause-found : goal.returns-then-is_not_found-clause-found
returns-then-is_not_found-clause-found g c =
    let searches : is_search c.args.config.now.search_config ≡ true = search rules in
    let none : is_not_found c.in-Err.error ≡ true = search rules in
    falls_nowhere (g.H.Host.told c.args.host.now).world c.args.config.now (text_of c.args.folder) c.in-Err.error searches none c.in-Err.ensures.found

pub returns-else-is_not_found-clause-found : goal.returns-else-is_not_found-clause-found
returns-else-is_not_found-clause-found g c =
    let searches : is_search c.args.config.now.search_config ≡ true = search rules in
    let other : is_not_found c.in-Err.error ≡ false = search rules in
    falls_refused (g.H.Host.told c.args.host.now).world c.args.config.now (text_of c.args.folder) c.in-Err.error searches other c.in-Err.ensures.found

pub returns-then-is_not_found-clause-entries : goal.returns-then-is_not_found-clause-entries
returns-then-is_not_found-clause-entries g c =
    let none : is_not_found c.in-Err.error ≡ true = search rules in
    nowhere_unheard (g.H.Host.told c.args.host.now).entries (g.H.Host.told c.find_above.new.host).entries c.in-Err.error none c.in-Err.ensures.entries
