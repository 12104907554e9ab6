-- One more name; or one that is refused; or all of them.
use Rattle.std.proofs.Common.{◌≤◌, ◌∙◌, length, refl, arith}
use Rattle.just_path.specs.Path.{text_of}
use Rattle.just_cache_clean.specs.Kept.{given}
use Rattle.just_cache_clean.proofs.Sweeping.{swept_none, swept_more, swept_stop, swept_all}
use Rattle.just_cache_clean.proofs.sweep.sweep.Goals as goal

pub names-init : goal.names-init
names-init g c = record {
  swept = swept_none (text_of c.args.wanted.folder) (given c.args.wanted.prefix) c.args.names.now (g.H.Host.told c.args.host.now);
  few = omega arith;
  spare = refl;
}

pub names-preserved : goal.names-preserved
names-preserved g c = record {
  swept =
      swept_more (text_of c.args.wanted.folder) (given c.args.wanted.prefix) c.args.names.now c.names.name-index c.name-item.result (g.H.Host.told c.args.host.now)
      (g.H.Host.told c.names.host) (g.H.Host.told c.sweep_one.new.host) c.names.count c.in-Ok.more _ c.names-test.true c.name-item.is
      c.names.invariant.swept c.in-Ok.ensures.swept refl;
  few = omega (arith, c.names.invariant.few, c.in-Ok.ensures.few);
  spare = c.sweep_one.ensures.spare ∙ c.names.invariant.spare;
}

pub returns-in-Err-clause-swept : goal.returns-in-Err-clause-swept
returns-in-Err-clause-swept g c =
    swept_stop (text_of c.args.wanted.folder) (given c.args.wanted.prefix) c.args.names.now c.names.name-index c.name-item.result (g.H.Host.told c.args.host.now)
    (g.H.Host.told c.names.host) (g.H.Host.told c.sweep_one.new.host) c.names.count c.in-Err.refused c.names-test.true c.name-item.is
    c.names.invariant.swept c.in-Err.ensures.swept

pub returns-clause-swept : goal.returns-clause-swept
returns-clause-swept g c =
    let all : length c.args.names.now ≤ c.names.name-index = omega arith in
    swept_all (text_of c.args.wanted.folder) (given c.args.wanted.prefix) c.args.names.now c.names.name-index (g.H.Host.told c.args.host.now) (g.H.Host.told c.names.host)
    c.names.count all c.names.invariant.swept
