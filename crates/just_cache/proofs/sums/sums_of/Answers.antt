-- One name more; or one that is refused; or all of them.
use Rattle.std.proofs.Common.{◌∙◌, refl}
use Rattle.just_path.specs.Path.{text_of}
use Rattle.just_cache.proofs.Steps.{sums_none, sums_more, sums_stop, sums_all}
use Rattle.just_cache.proofs.sums.sums_of.Goals as goal

pub names-init : goal.names-init
names-init g c = record {
  summed = sums_none (g.H.Host.told c.args.host.now) (text_of c.args.folder) c.args.names.now _ c.new-given.ensures.items;
  spare = refl;
}

pub returns-in-Err-clause-sums : goal.returns-in-Err-clause-sums
returns-in-Err-clause-sums g c =
    sums_stop (g.H.Host.told c.args.host.now) (g.H.Host.told c.names.host) (g.H.Host.told c.add_sum.new.host) (text_of c.args.folder) c.args.names.now c.names.name-index c.name-item.result
    c.names.given.items c.add_sum.new.given.items c.in-Err.error c.names-test.true c.name-item.is c.names.invariant.summed c.in-Err.ensures.added

pub names-preserved : goal.names-preserved
names-preserved g c = record {
  summed = sums_more (g.H.Host.told c.args.host.now) (g.H.Host.told c.names.host) (g.H.Host.told c.add_sum.new.host) (text_of c.args.folder) c.args.names.now c.names.name-index c.name-item.result
      c.names.given.items c.add_sum.new.given.items c.names-test.true c.name-item.is c.names.invariant.summed c.in-Ok.ensures.added;
  spare = c.add_sum.ensures.spare ∙ c.names.invariant.spare;
}

pub returns-clause-sums : goal.returns-clause-sums
returns-clause-sums g c =
    sums_all (g.H.Host.told c.args.host.now) (g.H.Host.told c.names.host) (text_of c.args.folder) c.args.names.now c.names.name-index c.names.given.items c.names-test.false c.names.invariant.summed
