-- One path more; or one that is refused; or all of them.
use Rattle.std.proofs.Common.{refl, ◌∙◌, subst}
use Rattle.std.specs.Prelude.{Ok, Err}
use Rattle.just_env.proofs.Laws.{gains_none, misses_then}
use Rattle.just_search_load.specs.Gathers.{Adds}
use Rattle.just_search_load.specs.Named.{IfPresent}
use Rattle.just_search_load.proofs.Gathered.{added_none, added_one, added_refused, added_all}
use Rattle.just_search_load.proofs.present.add_all_present.Goals as goal

pub returns-in-Err-clause-added : goal.returns-in-Err-clause-added
returns-in-Err-clause-added g c =
    added_refused (IfPresent (g.H.Host.told c.args.host.now).world) c.args.paths.now c.paths.path-index c.path-item.result c.args.found.now.items c.paths.found.items c.add_present.new.found.items c.in-Err.error c.paths-test.true c.path-item.is c.paths.invariant.added
    (subst (λ t. Adds (IfPresent t c.path-item.result) c.paths.found.items c.add_present.new.found.items (Err c.in-Err.error)) c.paths.invariant.world c.in-Err.ensures.added)

pub paths-preserved : goal.paths-preserved
paths-preserved g c = record {
  added = added_one (IfPresent (g.H.Host.told c.args.host.now).world) c.args.paths.now c.paths.path-index c.path-item.result c.args.found.now.items c.paths.found.items c.add_present.new.found.items c.paths-test.true c.path-item.is c.paths.invariant.added
      (subst (λ t. Adds (IfPresent t c.path-item.result) c.paths.found.items c.add_present.new.found.items (Ok tt)) c.paths.invariant.world c.in-Ok.ensures.added);
  gains = misses_then _ _ _ c.paths.invariant.gains c.in-Ok.ensures.gains;
  world = c.add_present.ensures.world ∙ c.paths.invariant.world;
}

pub returns-clause-added : goal.returns-clause-added
returns-clause-added g c =
    added_all (IfPresent (g.H.Host.told c.args.host.now).world) c.args.paths.now c.paths.path-index c.args.found.now.items c.paths.found.items c.paths-test.false c.paths.invariant.added

pub paths-init : goal.paths-init
paths-init g c = record {
  added = added_none (IfPresent (g.H.Host.told c.args.host.now).world) c.args.paths.now c.args.found.now.items;
  gains = gains_none (g.H.Host.told c.args.host.now).entries;
  world = refl;
}

pub returns-in-Err-clause-gains : goal.returns-in-Err-clause-gains
returns-in-Err-clause-gains g c =
    let h = c.in-Err.ensures.gains in
    (h.0, misses_then _ _ _ c.paths.invariant.gains h.1, h.2)

pub returns-in-Err-clause-world : goal.returns-in-Err-clause-world
returns-in-Err-clause-world g c = c.add_present.ensures.world ∙ c.paths.invariant.world

pub returns-clause-gains : goal.returns-clause-gains
returns-clause-gains g c = c.paths.invariant.gains

pub returns-clause-world : goal.returns-clause-world
returns-clause-world g c = c.paths.invariant.world
