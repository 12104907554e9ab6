-- A file's pairs stand behind those so far; a file that is refused, or want of memory, ends it.
use Rattle.std.proofs.Common.{rules, ◌≤◌, ◌∙◌, length, refl, arith}
use Rattle.just_path.specs.Path.{text_of}
use Rattle.just_env.proofs.Laws.{gains_none, misses_then}
use Rattle.just_env.proofs.Record.{gains_before}
use Rattle.just_env.proofs.Gathered.{loaded_none, loaded_one, loaded_refused, loaded_all}
use Rattle.just_env.proofs.files.load_files.Goals as goal

pub returns-in_err-found-in-Ok-clause-gains : goal.returns-in_err-found-in-Ok-clause-gains
returns-in_err-found-in-Ok-clause-gains g c = gains_before _ _ _ (misses_then _ _ _ c.names.invariant.gains c.in-Ok.ensures.gains) (search rules)

pub returns-in-Err-clause-loaded : goal.returns-in-Err-clause-loaded
returns-in-Err-clause-loaded g c =
    loaded_refused (g.H.Host.told c.args.host.now).world (g.H.Host.told c.names.host).world c.args.environ.now.pairs (text_of c.args.folder) c.args.names.now c.names.name-index c.name-item.result c.names.found
    c.names.invariant.world c.names-test.true c.name-item.is c.names.invariant.loaded c.in-Err.error c.in-Err.ensures.loaded

pub names-preserved : goal.names-preserved
names-preserved g c = record {
  loaded = loaded_one (g.H.Host.told c.args.host.now).world (g.H.Host.told c.names.host).world c.args.environ.now.pairs (text_of c.args.folder) c.args.names.now c.names.name-index c.name-item.result c.names.found
      c.names.invariant.world c.names-test.true c.name-item.is c.names.invariant.loaded c.in-Ok.more c.in_ok-found-in-Ok.found c.in-Ok.ensures.loaded c.in_ok-found-in-Ok.ensures;
  gains = misses_then _ _ _ c.names.invariant.gains c.in-Ok.ensures.gains;
  world = c.load_under.ensures.world ∙ c.names.invariant.world;
}

pub returns-clause-loaded : goal.returns-clause-loaded
returns-clause-loaded g c =
    let last : length c.args.names.now ≤ c.names.name-index = let h = c.names-test.false in omega (arith, h) in
    loaded_all (g.H.Host.told c.args.host.now).world c.args.environ.now.pairs (text_of c.args.folder) c.args.names.now c.names.name-index c.names.found last c.names.invariant.loaded

pub names-init : goal.names-init
names-init g c = record {
  loaded = loaded_none (g.H.Host.told c.args.host.now).world c.args.environ.now.pairs (text_of c.args.folder) c.args.names.now;
  gains = gains_none (g.H.Host.told c.args.host.now).entries;
  world = refl;
}

pub returns-in_err-found-in-Ok-clause-world : goal.returns-in_err-found-in-Ok-clause-world
returns-in_err-found-in-Ok-clause-world g c = c.load_under.ensures.world ∙ c.names.invariant.world

pub returns-in-Err-clause-gains : goal.returns-in-Err-clause-gains
returns-in-Err-clause-gains g c =
    let h = c.in-Err.ensures.gains in
    (h.0, misses_then _ _ _ c.names.invariant.gains h.1, h.2)

pub returns-in-Err-clause-world : goal.returns-in-Err-clause-world
returns-in-Err-clause-world g c = c.load_under.ensures.world ∙ c.names.invariant.world

pub returns-clause-gains : goal.returns-clause-gains
returns-clause-gains g c = c.names.invariant.gains

pub returns-clause-world : goal.returns-clause-world
returns-clause-world g c = c.names.invariant.world
