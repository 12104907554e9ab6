-- A module's own pairs are loaded, or refused; or memory is wanting behind them.
use Rattle.std.proofs.Common.{rules, ◌≡◌, ◌++◌, reverse, refl}
use Rattle.just_lang_types.specs.Modules.{modules_of}
use Rattle.just_env.specs.Loads.{LoadsOwn, following, folder_of, shell_program, BeginsOwn}
use Rattle.just_env.specs.Turns.{LoadsNext, seen}
use Rattle.just_env.proofs.Running.{run_ok, run_refused, run_short}
use Rattle.just_env.proofs.Turning.{next_loaded}
use Rattle.just_env.proofs.Ends.{ends_short}
use Rattle.just_env.proofs.modules.load_next.Goals as goal

pub returns-in-Err-clause-loaded : goal.returns-in-Err-clause-loaded
returns-in-Err-clause-loaded g c =
    run_refused (LoadsNext (g.H.Host.told c.args.host.now).world c.args.ask.now c.args.flags.now c.args.environ.now.pairs c.args.next.0.now c.args.next.1 (seen c.args.pending.now.items) (seen c.args.pending.now.items)) (BeginsOwn (g.H.Host.told c.args.host.now).world c.args.ask.now c.args.flags.now c.args.environ.now.pairs (folder_of c.args.flags.now.folder c.args.next.0.now) c.args.next.0.now) (g.H.Host.told c.args.host.now) (g.H.Host.told c.load_own.new.host)
    (LoadsOwn (g.H.Host.told c.args.host.now).world c.args.ask.now c.args.flags.now c.args.environ.now.pairs (folder_of c.args.flags.now.folder c.args.next.0.now) c.args.next.0.now) (BeginsOwn (g.H.Host.told c.args.host.now).world c.args.ask.now c.args.flags.now c.args.environ.now.pairs (folder_of c.args.flags.now.folder c.args.next.0.now) c.args.next.0.now) (λ cs begins. begins) c.in-Err.error c.in-Err.ensures.loaded (λ cs refuses. refuses)

pub returns-in_err-path-clause-loaded : goal.returns-in_err-path-clause-loaded
returns-in_err-path-clause-loaded g c =
    run_short (LoadsNext (g.H.Host.told c.args.host.now).world c.args.ask.now c.args.flags.now c.args.environ.now.pairs c.args.next.0.now c.args.next.1 (seen c.args.pending.now.items) (seen c.args.pending.now.items)) (BeginsOwn (g.H.Host.told c.args.host.now).world c.args.ask.now c.args.flags.now c.args.environ.now.pairs (folder_of c.args.flags.now.folder c.args.next.0.now) c.args.next.0.now) (g.H.Host.told c.args.host.now) (g.H.Host.told c.load_own.new.host)
    (LoadsOwn (g.H.Host.told c.args.host.now).world c.args.ask.now c.args.flags.now c.args.environ.now.pairs (folder_of c.args.flags.now.folder c.args.next.0.now) c.args.next.0.now) (BeginsOwn (g.H.Host.told c.args.host.now).world c.args.ask.now c.args.flags.now c.args.environ.now.pairs (folder_of c.args.flags.now.folder c.args.next.0.now) c.args.next.0.now) (λ cs begins. begins) c.in-Ok.own _ c.in-Ok.ensures.loaded (search rules)

pub returns-in_err-pairs-clause-loaded : goal.returns-in_err-pairs-clause-loaded
returns-in_err-pairs-clause-loaded g c =
    run_short (LoadsNext (g.H.Host.told c.args.host.now).world c.args.ask.now c.args.flags.now c.args.environ.now.pairs c.args.next.0.now c.args.next.1 (seen c.args.pending.now.items) (seen c.args.pending.now.items)) (BeginsOwn (g.H.Host.told c.args.host.now).world c.args.ask.now c.args.flags.now c.args.environ.now.pairs (folder_of c.args.flags.now.folder c.args.next.0.now) c.args.next.0.now) (g.H.Host.told c.args.host.now) (g.H.Host.told c.load_own.new.host)
    (LoadsOwn (g.H.Host.told c.args.host.now).world c.args.ask.now c.args.flags.now c.args.environ.now.pairs (folder_of c.args.flags.now.folder c.args.next.0.now) c.args.next.0.now) (BeginsOwn (g.H.Host.told c.args.host.now).world c.args.ask.now c.args.flags.now c.args.environ.now.pairs (folder_of c.args.flags.now.folder c.args.next.0.now) c.args.next.0.now) (λ cs begins. begins) c.in-Ok.own _ c.in-Ok.ensures.loaded (search rules)

pub returns-in_err-push_modules-clause-loaded : goal.returns-in_err-push_modules-clause-loaded
returns-in_err-push_modules-clause-loaded g c =
    run_short (LoadsNext (g.H.Host.told c.args.host.now).world c.args.ask.now c.args.flags.now c.args.environ.now.pairs c.args.next.0.now c.args.next.1 (seen c.args.pending.now.items) (seen c.push_modules.new.pending.items)) (BeginsOwn (g.H.Host.told c.args.host.now).world c.args.ask.now c.args.flags.now c.args.environ.now.pairs (folder_of c.args.flags.now.folder c.args.next.0.now) c.args.next.0.now) (g.H.Host.told c.args.host.now) (g.H.Host.told c.load_own.new.host)
    (LoadsOwn (g.H.Host.told c.args.host.now).world c.args.ask.now c.args.flags.now c.args.environ.now.pairs (folder_of c.args.flags.now.folder c.args.next.0.now) c.args.next.0.now) (BeginsOwn (g.H.Host.told c.args.host.now).world c.args.ask.now c.args.flags.now c.args.environ.now.pairs (folder_of c.args.flags.now.folder c.args.next.0.now) c.args.next.0.now) (λ cs begins. begins) c.in-Ok.own _ c.in-Ok.ensures.loaded (search rules)

pub returns-clause-loaded : goal.returns-clause-loaded
returns-clause-loaded g c =
    let are : c.in_ok-pairs.pairs ≡ c.args.next.1 ++ c.in-Ok.own = search rules in
    let pushed : seen c.push_modules.new.pending.items ≡ seen c.args.pending.now.items ++ reverse (following c.in_ok-pairs.pairs (modules_of c.args.next.0.now)) = search rules in
    run_ok (LoadsNext (g.H.Host.told c.args.host.now).world c.args.ask.now c.args.flags.now c.args.environ.now.pairs c.args.next.0.now c.args.next.1 (seen c.args.pending.now.items) (seen c.push_modules.new.pending.items)) (BeginsOwn (g.H.Host.told c.args.host.now).world c.args.ask.now c.args.flags.now c.args.environ.now.pairs (folder_of c.args.flags.now.folder c.args.next.0.now) c.args.next.0.now) (g.H.Host.told c.args.host.now) (g.H.Host.told c.load_own.new.host)
    (LoadsOwn (g.H.Host.told c.args.host.now).world c.args.ask.now c.args.flags.now c.args.environ.now.pairs (folder_of c.args.flags.now.folder c.args.next.0.now) c.args.next.0.now) (BeginsOwn (g.H.Host.told c.args.host.now).world c.args.ask.now c.args.flags.now c.args.environ.now.pairs (folder_of c.args.flags.now.folder c.args.next.0.now) c.args.next.0.now) (λ cs begins. begins) c.in-Ok.own _ c.in-Ok.ensures.loaded
    (λ cs loads. next_loaded c.args.ask.now c.args.flags.now c.args.environ.now.pairs (g.H.Host.told c.args.host.now).world c.args.next.0.now c.args.next.1 c.in-Ok.own c.in_ok-pairs.pairs (seen c.args.pending.now.items)
    (seen c.push_modules.new.pending.items) _ cs are (search rules) pushed loads)

pub returns-in-Err-clause-program : goal.returns-in-Err-clause-program
returns-in-Err-clause-program g c = c.in-Err.ensures.program

pub returns-in_err-path-clause-program : goal.returns-in_err-path-clause-program
returns-in_err-path-clause-program g c = ends_short (λ p. p ≡ (shell_program c.args.flags.now c.args.next.0.now)) (shell_program c.args.flags.now c.args.next.0.now) refl _ _ (search rules)

pub returns-in_err-pairs-clause-program : goal.returns-in_err-pairs-clause-program
returns-in_err-pairs-clause-program g c = ends_short (λ p. p ≡ (shell_program c.args.flags.now c.args.next.0.now)) (shell_program c.args.flags.now c.args.next.0.now) refl _ _ (search rules)

pub returns-in_err-push_modules-clause-program : goal.returns-in_err-push_modules-clause-program
returns-in_err-push_modules-clause-program g c = ends_short (λ p. p ≡ (shell_program c.args.flags.now c.args.next.0.now)) (shell_program c.args.flags.now c.args.next.0.now) refl _ _ (search rules)
