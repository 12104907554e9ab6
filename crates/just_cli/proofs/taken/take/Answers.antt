-- The file is taken; or it can't be made, or memory is wanting.
use Rattle.just_cli.proofs.Taking.{taken_nothing, taken_well, taken_short, taken_refused}
use Rattle.just_cli.proofs.taken.take.Goals as goal

pub returns-in-Err : goal.returns-in-Err
returns-in-Err g c = taken_nothing c.args.config.now c.args.location.now (g.H.Host.told c.args.host.now) _

pub returns-in-Ok-of_search : goal.returns-in-Ok-of_search
returns-in-Ok-of_search g c = taken_well c.args.config.now _ _ c.in-Ok.ensures (g.H.Host.told c.args.host.now) (g.H.Host.told c.materialize.new.host) _ _ c.in-Ok-materialize.search _ c.in-Ok-materialize.ensures.materialized c.in-Ok-of_search.ensures.wanted c.in-Ok-of_search.ensures.path

pub returns-in-Err-of_search : goal.returns-in-Err-of_search
returns-in-Err-of_search g c = taken_short c.args.config.now _ _ c.in-Ok.ensures (g.H.Host.told c.args.host.now) (g.H.Host.told c.materialize.new.host) _ _ c.in-Ok-materialize.search c.in-Ok-materialize.ensures.materialized

pub returns-in-Err-materialize : goal.returns-in-Err-materialize
returns-in-Err-materialize g c = taken_refused c.args.config.now _ _ c.in-Ok.ensures (g.H.Host.told c.args.host.now) (g.H.Host.told c.materialize.new.host) _ _ c.in-Err-materialize.error _ c.in-Err-materialize.ensures.materialized c.from.ensures
