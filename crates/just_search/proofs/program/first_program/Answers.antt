-- A path that leads to a program, one that doesn't, and a look that failed.
use Rattle.std.proofs.Common.{rules, ◌≡◌, refl, ◌∙◌}
use Rattle.std.specs.Prelude.{IsErrAnd}
use Rattle.just_env.proofs.Laws.{gains_none, misses_then}
use Rattle.just_search.specs.declared.which_error.WhichError.TheVariants.{NoMemory as OutOfMemory}
use Rattle.just_search.proofs.Looks.{looks_wanting, program_found, program_refused, program_passed, program_nowhere}
use Rattle.just_search.proofs.Along.{along_start}
use Rattle.just_search.proofs.program.first_program.Goals as goal

pub returns-in_err-try_clone-in-Ok-true-clause-entries : goal.returns-in_err-try_clone-in-Ok-true-clause-entries
returns-in_err-try_clone-in-Ok-true-clause-entries g c =
    let wanting : IsErrAnd c.from_residual.result (λ e. e ≡ OutOfMemory) = search rules in
    looks_wanting (g.H.Host.told c.args.host.now).entries (g.H.Host.told c.paths.host).entries (g.H.Host.told c.sees_program.new.host).entries c.from_residual.result c.paths.invariant.gains c.in-Ok-true.ensures.entries wanting

pub returns-in-Ok-true-clause-located : goal.returns-in-Ok-true-clause-located
returns-in-Ok-true-clause-located g c =
    program_found (g.H.Host.told c.args.host.now).world (g.H.Host.told c.paths.host).world c.args.paths.now c.paths.path-index c.path-item.result c.in_ok-try_clone-in-Ok-true.field-0 c.paths.invariant.world c.paths-test.true c.path-item.is c.paths.invariant.along
    (rw c.as_path.ensures at rw c.in-Ok-true.field-0-test at c.in-Ok-true.ensures.seen) c.in_ok-try_clone-in-Ok-true.ensures

pub returns-in-Err-clause-located : goal.returns-in-Err-clause-located
returns-in-Err-clause-located g c = program_refused (g.H.Host.told c.args.host.now).world c.args.paths.now c.paths.path-index c.path-item.result c.in-Err.error c.paths-test.true c.path-item.is c.paths.invariant.along c.in-Err.ensures.refused

pub paths-preserved : goal.paths-preserved
paths-preserved g c = record {
  along = program_passed (g.H.Host.told c.args.host.now).world (g.H.Host.told c.paths.host).world c.args.paths.now c.paths.path-index c.path-item.result c.paths.invariant.world c.paths-test.true c.path-item.is c.paths.invariant.along (rw c.as_path.ensures at rw c.in-Ok-false.field-0-test at c.in-Ok-false.ensures.seen);
  gains = misses_then _ _ _ c.paths.invariant.gains c.in-Ok-false.ensures.entries;
  world = c.sees_program.ensures.world ∙ c.paths.invariant.world;
}

pub paths-init : goal.paths-init
paths-init g c = record {
  along = along_start _ c.args.paths.now;
  gains = gains_none (g.H.Host.told c.args.host.now).entries;
  world = refl;
}

pub returns-in-Ok-true-clause-entries : goal.returns-in-Ok-true-clause-entries
returns-in-Ok-true-clause-entries g c = misses_then _ _ _ c.paths.invariant.gains c.in-Ok-true.ensures.entries

pub returns-in-Err-clause-entries : goal.returns-in-Err-clause-entries
returns-in-Err-clause-entries g c =
    let h = c.in-Err.ensures.entries in
    (h.0, misses_then _ _ _ c.paths.invariant.gains h.1, h.2)

pub returns-clause-located : goal.returns-clause-located
returns-clause-located g c = program_nowhere (g.H.Host.told c.args.host.now).world c.args.paths.now c.paths.path-index c.paths-test.false c.paths.invariant.along

pub returns-clause-entries : goal.returns-clause-entries
returns-clause-entries g c = c.paths.invariant.gains

pub returns-in_err-try_clone-in-Ok-true-clause-world : goal.returns-in_err-try_clone-in-Ok-true-clause-world
returns-in_err-try_clone-in-Ok-true-clause-world g c = c.sees_program.ensures.world ∙ c.paths.invariant.world

pub returns-in-Ok-true-clause-world : goal.returns-in-Ok-true-clause-world
returns-in-Ok-true-clause-world g c = c.sees_program.ensures.world ∙ c.paths.invariant.world

pub returns-in-Err-clause-world : goal.returns-in-Err-clause-world
returns-in-Err-clause-world g c = c.sees_program.ensures.world ∙ c.paths.invariant.world
