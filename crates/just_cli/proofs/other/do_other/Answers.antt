-- Each is done as it is to be.
use Rattle.std.proofs.Common.{rules}
use Rattle.just_cli.specs.Tasks.{HasNoScript, IsPathOrNone}
use Rattle.just_cli.specs.declared.task.Other.TheVariants as no_run
use Rattle.just_cli.proofs.Ending.{does_so}
use Rattle.just_cli.proofs.other.do_other.Goals as goal

pub returns-in-Help : goal.returns-in-Help
returns-in-Help g c = does_so c.args.other no_run.Help c.args.quiet _ _ _ c.in-Help.is c.show.ensures

pub returns-in-Version : goal.returns-in-Version
returns-in-Version g c = does_so c.args.other no_run.Version c.args.quiet _ _ _ c.in-Version.is c.show_version.ensures

pub returns-in-Init : goal.returns-in-Init
returns-in-Init g c = does_so c.args.other (no_run.Init c.in-Init.path) c.args.quiet _ _ _ c.in-Init.is c.write_justfile.ensures

pub returns-in-Show : goal.returns-in-Show
returns-in-Show g c = does_so c.args.other (no_run.Show c.in-Show.printed) c.args.quiet _ _ _ c.in-Show.is c.print.ensures

pub returns-in-Nothing : goal.returns-in-Nothing
returns-in-Nothing g c = does_so c.args.other no_run.Nothing c.args.quiet _ _ _ c.in-Nothing.is c.done.ensures

pub returns-in-Write : goal.returns-in-Write
returns-in-Write g c = does_so c.args.other (no_run.Write c.in-Write.path c.in-Write.text) c.args.quiet _ _ _ c.in-Write.is (rw c.as_str.ensures at c.write_justfile-in-Write.ensures)

pub clean-requires-clause-path : goal.clean-requires-clause-path
clean-requires-clause-path g c =
    let known : IsPathOrNone c.in-Clean.path = rw c.in-Clean.is at c.requires.path in search rules

pub returns-in-Clean : goal.returns-in-Clean
returns-in-Clean g c = does_so c.args.other (no_run.Clean c.in-Clean.folder c.in-Clean.path) c.args.quiet _ _ _ c.in-Clean.is c.clean.ensures

pub invoke-requires-clause-alone : goal.invoke-requires-clause-alone
invoke-requires-clause-alone g c =
    let known : HasNoScript c.in-Invoke.child = rw c.in-Invoke.is at c.requires.path in search rules

pub returns-in-Invoke : goal.returns-in-Invoke
returns-in-Invoke g c = does_so c.args.other (no_run.Invoke c.in-Invoke.child) c.args.quiet _ _ _ c.in-Invoke.is c.invoke.ensures

pub returns-in-Vectors : goal.returns-in-Vectors
returns-in-Vectors g c = does_so c.args.other (no_run.Vectors c.in-Vectors.count) c.args.quiet _ _ _ c.in-Vectors.is c.show_vectors.ensures
