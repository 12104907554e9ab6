-- The place above is taken, isn't there, or can't be told.
use Rattle.just_path.specs.Path.{text_of}
use Rattle.just_search.proofs.Steps.{is_above, is_nowhere, is_refused, is_higher}
use Rattle.just_search.proofs.searches.search_parent_directory.Goals as goal

pub returns-in-Ok-Some-clause-searched : goal.returns-in-Ok-Some-clause-searched
returns-in-Ok-Some-clause-searched g c =
    is_above (g.H.Host.told c.args.host.now) (g.H.Host.told c.find_fallback.new.host) (g.H.Host.told c.materialize.new.host) c.args.config.now (text_of c.as_path-folder.result) c.args.found.now.working_directory
    c.args.made.now.items c.materialize.new.made.items c.in-Ok-Some.location c.materialize.result
    c.in-Ok-Some.ensures.world c.as_path-folder.ensures (rw c.in-Ok-Some.field-0-is at c.in-Ok-Some.ensures.found) c.in-Ok-Some.ensures.entries c.materialize.ensures.materialized

pub returns-in-Ok-Some-clause-higher : goal.returns-in-Ok-Some-clause-higher
returns-in-Ok-Some-clause-higher g c =
    is_higher (g.H.Host.told c.find_fallback.new.host) (g.H.Host.told c.materialize.new.host) c.args.config.now (text_of c.as_path-folder.result) c.args.found.now.working_directory
    c.args.made.now.items c.materialize.new.made.items c.in-Ok-Some.location c.materialize.result
    c.as_path-folder.ensures c.materialize.ensures.materialized (rw c.in-Ok-Some.field-0-is at c.in-Ok-Some.ensures.higher)

pub returns-in-Ok-None-clause-searched : goal.returns-in-Ok-None-clause-searched
returns-in-Ok-None-clause-searched g c =
    is_nowhere (g.H.Host.told c.args.host.now) (g.H.Host.told c.find_fallback.new.host) c.args.config.now (text_of c.as_path-folder.result) c.args.found.now.working_directory c.args.made.now.items
    c.in-Ok-None.ensures.world c.as_path-folder.ensures (rw c.in-Ok-None.field-0-is at c.in-Ok-None.ensures.found) c.in-Ok-None.ensures.entries

pub returns-in-Err-clause-searched : goal.returns-in-Err-clause-searched
returns-in-Err-clause-searched g c =
    is_refused (g.H.Host.told c.args.host.now) (g.H.Host.told c.find_fallback.new.host) c.args.config.now (text_of c.as_path-folder.result) c.args.found.now.working_directory c.args.made.now.items c.in-Err.error
    c.in-Err.ensures.world c.as_path-folder.ensures c.in-Err.ensures.found c.in-Err.ensures.entries
