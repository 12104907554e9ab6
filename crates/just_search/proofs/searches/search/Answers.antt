-- The place that is found is taken.
use Rattle.just_search.proofs.Steps.{is_found}
use Rattle.just_search.proofs.searches.search.Goals as goal

pub returns-in-Ok : goal.returns-in-Ok
returns-in-Ok g c = record {
  searched =
      is_found (g.H.Host.told c.args.host.now) (g.H.Host.told c.find.new.host) (g.H.Host.told c.materialize.new.host) c.args.config.now c.args.made.now.items c.materialize.new.made.items c.in-Ok.location c.materialize.result
      c.in-Ok.ensures.found c.in-Ok.ensures.entries c.in-Ok.ensures.world c.materialize.ensures.materialized;
}
