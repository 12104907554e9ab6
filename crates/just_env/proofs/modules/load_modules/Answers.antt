-- A module's pairs are loaded, and those within it are on the stack; one that is refused, or want of memory, ends it.
use Rattle.std.proofs.Common.{rules, ◌≡◌, ◌++◌, ◌∷◌, [], refl, sym, subst}
use Rattle.just_env.specs.Loads.{LoadsProject, IsModuleOf, BeginsModules, BeginsProject}
use Rattle.just_env.specs.Turns.{seen}
use Rattle.just_env.proofs.Running.{run_memory}
use Rattle.just_env.proofs.Turning.{top, on_start, on_end, on_more, on_fewer, on_error, on_short}
use Rattle.just_env.proofs.Ends.{AreWithin, next_within, ends_module, ends_root}
use Rattle.just_env.proofs.modules.load_modules.Goals as goal

pub returns-in_err-push-clause-loaded : goal.returns-in_err-push-clause-loaded
returns-in_err-push-clause-loaded g c =
    run_memory (LoadsProject (g.H.Host.told c.args.host.now).world c.args.ask.now c.args.flags.now c.args.environ.now.pairs c.args.justfile.now) (BeginsProject (g.H.Host.told c.args.host.now).world c.args.ask.now c.args.flags.now c.args.environ.now.pairs c.args.justfile.now) (g.H.Host.told c.args.host.now) (g.H.Host.told c.args.host.now) _ refl refl (search rules) (BeginsModules.nothing_more _ _)

pub modules-init : goal.modules-init
modules-init g c = record {
  ran = on_start c.args.ask.now c.args.flags.now c.args.environ.now.pairs (g.H.Host.told c.args.host.now) c.args.justfile.now (seen c.push.new.self.items)
      c.new-loaded.result.items (search rules) (search rules);
  within =
      let first : seen c.push.new.self.items ≡ (c.args.justfile.now, []) ∷ [] = search rules in
      subst (λ ps. AreWithin c.args.justfile.now ps) (sym first) (IsModuleOf.itself, tt);
}

pub modules-smaller : goal.modules-smaller
modules-smaller g c =
    let popped : c.modules.pending.items ≡ c.pop.new.self.items ++ c.in-Some.next ∷ [] = search rules in
    on_fewer c.args.ask.now c.args.flags.now c.args.environ.now.pairs (g.H.Host.told c.args.host.now) c.args.justfile.now (g.H.Host.told c.modules.host) (g.H.Host.told c.load_next.new.host) (seen c.modules.pending.items) (seen c.pop.new.self.items)
    (seen c.load_next.new.pending.items) c.in-Some.next.0.now c.in-Some.next.1 c.modules.loaded.items (top c.modules.pending.items c.pop.new.self.items c.in-Some.next popped)
    c.modules.invariant.ran c.in-Ok.one c.in-Ok.ensures.loaded

pub modules-preserved : goal.modules-preserved
modules-preserved g c =
    let popped : c.modules.pending.items ≡ c.pop.new.self.items ++ c.in-Some.next ∷ [] = search rules in
    let grown : c.push-in-Ok.new.self.items ≡ c.modules.loaded.items ++ c.in-Ok.one ∷ [] = search rules in
    record {
      ran = on_more c.args.ask.now c.args.flags.now c.args.environ.now.pairs (g.H.Host.told c.args.host.now) c.args.justfile.now (g.H.Host.told c.modules.host) (g.H.Host.told c.load_next.new.host) (seen c.modules.pending.items) (seen c.pop.new.self.items)
          (seen c.load_next.new.pending.items) c.in-Some.next.0.now c.in-Some.next.1 c.modules.loaded.items (top c.modules.pending.items c.pop.new.self.items c.in-Some.next popped)
          c.modules.invariant.ran c.in-Ok.one c.push-in-Ok.new.self.items c.in-Ok.ensures.loaded grown;
      within = next_within c.args.justfile.now (seen c.modules.pending.items) (seen c.pop.new.self.items) c.in-Some.next.0.now c.in-Some.next.1 (top c.modules.pending.items c.pop.new.self.items c.in-Some.next popped) c.modules.invariant.within (seen c.load_next.new.pending.items)
          (c.in-Some.next.1 ++ c.in-Ok.ensures.loaded.1.0) c.in-Ok.ensures.loaded.1.3;
    }

pub returns-in_err-push-in-Ok-clause-loaded : goal.returns-in_err-push-in-Ok-clause-loaded
returns-in_err-push-in-Ok-clause-loaded g c =
    let popped : c.modules.pending.items ≡ c.pop.new.self.items ++ c.in-Some.next ∷ [] = search rules in
    on_short c.args.ask.now c.args.flags.now c.args.environ.now.pairs (g.H.Host.told c.args.host.now) c.args.justfile.now (g.H.Host.told c.modules.host) (g.H.Host.told c.load_next.new.host) (seen c.modules.pending.items) (seen c.pop.new.self.items)
    (seen c.load_next.new.pending.items) c.in-Some.next.0.now c.in-Some.next.1 c.modules.loaded.items (top c.modules.pending.items c.pop.new.self.items c.in-Some.next popped)
    c.modules.invariant.ran c.in-Ok.one _ c.in-Ok.ensures.loaded (search rules)

pub returns-in-Err-clause-loaded : goal.returns-in-Err-clause-loaded
returns-in-Err-clause-loaded g c =
    let popped : c.modules.pending.items ≡ c.pop.new.self.items ++ c.in-Some.next ∷ [] = search rules in
    on_error c.args.ask.now c.args.flags.now c.args.environ.now.pairs (g.H.Host.told c.args.host.now) c.args.justfile.now (g.H.Host.told c.modules.host) (g.H.Host.told c.load_next.new.host) (seen c.modules.pending.items) (seen c.pop.new.self.items)
    (seen c.load_next.new.pending.items) c.in-Some.next.0.now c.in-Some.next.1 c.modules.loaded.items (top c.modules.pending.items c.pop.new.self.items c.in-Some.next popped)
    c.modules.invariant.ran c.in-Err.error c.in-Err.ensures.loaded

pub returns-clause-loaded : goal.returns-clause-loaded
returns-clause-loaded g c =
    on_end c.args.ask.now c.args.flags.now c.args.environ.now.pairs (g.H.Host.told c.args.host.now) c.args.justfile.now (g.H.Host.told c.modules.host) (seen c.modules.pending.items) c.modules.loaded.items c.from.result
    (search rules) (search rules) c.modules.invariant.ran

pub returns-in_err-push-clause-program : goal.returns-in_err-push-clause-program
returns-in_err-push-clause-program g c = ends_root c.args.flags.now c.args.justfile.now _ _ (search rules)

pub returns-in_err-push-in-Ok-clause-program : goal.returns-in_err-push-in-Ok-clause-program
returns-in_err-push-in-Ok-clause-program g c = ends_root c.args.flags.now c.args.justfile.now _ _ (search rules)

pub returns-in-Err-clause-program : goal.returns-in-Err-clause-program
returns-in-Err-clause-program g c =
    let popped : c.modules.pending.items ≡ c.pop.new.self.items ++ c.in-Some.next ∷ [] = search rules in
    ends_module c.args.justfile.now (seen c.modules.pending.items) (seen c.pop.new.self.items) c.in-Some.next.0.now c.in-Some.next.1 (top c.modules.pending.items c.pop.new.self.items c.in-Some.next popped) c.modules.invariant.within c.args.flags.now
    (g.H.Host.told c.load_next.new.host).entries c.in-Err.error c.in-Err.ensures.program
