-- A folder that has a file of the names ends the climb, and so does one that is refused; any other is passed.
use Rattle.std.proofs.Common.{rules, ◌≡◌, ◌∷◌, ◌∙◌, [], Some, None, refl}
use Rattle.just_path.specs.Path.{text_of}
use Rattle.just_path.specs.Ancestors.{ancestors_of, ancestors_left}
use Rattle.just_env.proofs.Laws.{gains_none, misses_then}
use Rattle.just_env.proofs.Climbs.{climb_start, climb_next, climb_found, climb_refused, climb_over}
use Rattle.just_env.proofs.climb.climb.Goals as goal

pub returns-in-Ok-Some-clause-found : goal.returns-in-Ok-Some-clause-found
returns-in-Ok-Some-clause-found g c =
    let steps : ancestors_left c.folders.folders ≡ text_of c.in-Some.folder ∷ ancestors_left c.next.new.self = search rules in
    let some : c.in-Ok-Some.field-0 ≡ Some c.in-Ok-Some.pairs = search rules in
    climb_found (g.H.Host.told c.args.host.now).world (g.H.Host.told c.folders.host).world c.args.environ.now.pairs c.args.names.now (ancestors_of (text_of c.args.start)) (ancestors_left c.folders.folders) (ancestors_left c.next.new.self)
    (text_of c.in-Some.folder) c.folders.invariant.world c.folders.invariant.along steps c.in-Ok-Some.field-0 c.in-Ok-Some.pairs c.in-Ok-Some.ensures.loaded some

pub folders-preserved : goal.folders-preserved
folders-preserved g c =
    let steps : ancestors_left c.folders.folders ≡ text_of c.in-Some.folder ∷ ancestors_left c.next.new.self = search rules in
    let none : c.in-Ok-None.field-0 ≡ None = search rules in
    record {
      along = climb_next (g.H.Host.told c.args.host.now).world (g.H.Host.told c.folders.host).world c.args.environ.now.pairs c.args.names.now (ancestors_of (text_of c.args.start)) (ancestors_left c.folders.folders) (ancestors_left c.next.new.self)
          (text_of c.in-Some.folder) c.folders.invariant.world c.folders.invariant.along steps c.in-Ok-None.field-0 c.in-Ok-None.ensures.loaded none;
      gains = misses_then _ _ _ c.folders.invariant.gains c.in-Ok-None.ensures.gains;
      world = c.load_files.ensures.world ∙ c.folders.invariant.world;
    }

pub returns-in-Err-clause-found : goal.returns-in-Err-clause-found
returns-in-Err-clause-found g c =
    let steps : ancestors_left c.folders.folders ≡ text_of c.in-Some.folder ∷ ancestors_left c.next.new.self = search rules in
    climb_refused (g.H.Host.told c.args.host.now).world (g.H.Host.told c.folders.host).world c.args.environ.now.pairs c.args.names.now (ancestors_of (text_of c.args.start)) (ancestors_left c.folders.folders) (ancestors_left c.next.new.self)
    (text_of c.in-Some.folder) c.folders.invariant.world c.folders.invariant.along steps c.in-Err.error c.in-Err.ensures.loaded

pub folders-init : goal.folders-init
folders-init g c = record {
  along = climb_start (g.H.Host.told c.args.host.now).world (g.H.Host.told c.args.host.now).world c.args.environ.now.pairs c.args.names.now (text_of c.args.start) (ancestors_left c.ancestors-folders.result) (search rules);
  gains = gains_none (g.H.Host.told c.args.host.now).entries;
  world = refl;
}

pub returns-in-Ok-Some-clause-gains : goal.returns-in-Ok-Some-clause-gains
returns-in-Ok-Some-clause-gains g c = misses_then _ _ _ c.folders.invariant.gains c.in-Ok-Some.ensures.gains

pub returns-in-Ok-Some-clause-world : goal.returns-in-Ok-Some-clause-world
returns-in-Ok-Some-clause-world g c = c.load_files.ensures.world ∙ c.folders.invariant.world

pub returns-in-Err-clause-gains : goal.returns-in-Err-clause-gains
returns-in-Err-clause-gains g c =
    let h = c.in-Err.ensures.gains in
    (h.0, misses_then _ _ _ c.folders.invariant.gains h.1, h.2)

pub returns-in-Err-clause-world : goal.returns-in-Err-clause-world
returns-in-Err-clause-world g c = c.load_files.ensures.world ∙ c.folders.invariant.world

pub returns-clause-found : goal.returns-clause-found
returns-clause-found g c =
    let over : ancestors_left c.folders.folders ≡ [] = search rules in
    climb_over (g.H.Host.told c.args.host.now).world (g.H.Host.told c.folders.host).world c.args.environ.now.pairs c.args.names.now (ancestors_of (text_of c.args.start)) (ancestors_left c.folders.folders) c.folders.invariant.along over

pub returns-clause-gains : goal.returns-clause-gains
returns-clause-gains g c = c.folders.invariant.gains

pub returns-clause-world : goal.returns-clause-world
returns-clause-world g c = c.folders.invariant.world
