-- A command's pairs stand behind those so far; one that is refused, or want of memory, ends it.
use Rattle.std.proofs.Common.{rules, ◌≡◌, ◌≤◌, length, refl, arith}
use Rattle.just_path.specs.Path.{text_of}
use Rattle.just_env.proofs.Commanding.{on_start, on_end, on_more, on_error, on_short}
use Rattle.just_env.proofs.Ends.{ends_short}
use Rattle.just_env.proofs.command.run_commands.Goals as goal

pub commands-init : goal.commands-init
commands-init g c = record {
  ran = on_start c.args.environ.now.pairs c.args.shell.now (text_of c.args.folder) (g.H.Host.told c.args.host.now) c.args.commands.now _ (search rules);
}

pub commands-preserved : goal.commands-preserved
commands-preserved g c = record {
  ran = on_more c.args.environ.now.pairs c.args.shell.now (text_of c.args.folder) (g.H.Host.told c.args.host.now) c.args.commands.now (g.H.Host.told c.commands.host) (g.H.Host.told c.run_command.new.host)
      c.commands.command-index c.command-item.result c.commands.pairs c.commands-test.true c.command-item.is c.commands.invariant.ran
      c.in-Ok.more c.in_ok-pairs-in-Ok.pairs c.in-Ok.ensures.ran c.in_ok-pairs-in-Ok.ensures;
}

pub returns-in_err-pairs-in-Ok-clause-ran : goal.returns-in_err-pairs-in-Ok-clause-ran
returns-in_err-pairs-in-Ok-clause-ran g c =
    on_short c.args.environ.now.pairs c.args.shell.now (text_of c.args.folder) (g.H.Host.told c.args.host.now) c.args.commands.now (g.H.Host.told c.commands.host) (g.H.Host.told c.run_command.new.host)
    c.commands.command-index c.command-item.result c.commands.pairs c.commands-test.true c.command-item.is c.commands.invariant.ran
    c.in-Ok.more _ c.in-Ok.ensures.ran (search rules)

pub returns-in-Err-clause-ran : goal.returns-in-Err-clause-ran
returns-in-Err-clause-ran g c =
    on_error c.args.environ.now.pairs c.args.shell.now (text_of c.args.folder) (g.H.Host.told c.args.host.now) c.args.commands.now (g.H.Host.told c.commands.host) (g.H.Host.told c.run_command.new.host)
    c.commands.command-index c.command-item.result c.commands.pairs c.commands-test.true c.command-item.is c.commands.invariant.ran
    c.in-Err.error c.in-Err.ensures.ran

pub returns-clause-ran : goal.returns-clause-ran
returns-clause-ran g c =
    let last : length c.args.commands.now ≤ c.commands.command-index = let h = c.commands-test.false in omega (arith, h) in
    on_end c.args.environ.now.pairs c.args.shell.now (text_of c.args.folder) (g.H.Host.told c.args.host.now) c.args.commands.now (g.H.Host.told c.commands.host) c.commands.command-index c.commands.pairs last c.commands.invariant.ran

pub returns-in_err-pairs-in-Ok-clause-program : goal.returns-in_err-pairs-in-Ok-clause-program
returns-in_err-pairs-in-Ok-clause-program g c = ends_short (λ p. p ≡ c.args.shell.now.command) c.args.shell.now.command refl _ _ (search rules)

pub returns-in-Err-clause-program : goal.returns-in-Err-clause-program
returns-in-Err-clause-program g c = c.in-Err.ensures.program
