-- What the arguments ask for is what the words ask for; or the environment isn't there, or the words are faulty.
use Rattle.std.proofs.Common.{refl}
use Rattle.just_host_record.proofs.Moments.{moment_by}
use Rattle.just_cli.proofs.Asking.{quiet_without_environ, quiet_without_words, quiet_of_words}
use Rattle.just_cli.proofs.Chain.{asks_help, asks_version}
use Rattle.just_cli.proofs.Serving.{environ_lost, words_refused, words_served, words_unserved}
use Rattle.just_cli.proofs.prepare.prepare.Goals as goal

pub returns-in-Err-clause-refused : goal.returns-in-Err-clause-refused
returns-in-Err-clause-refused g c = environ_lost _ (g.H.Host.told c.args.host.now) _ (g.H.Host.told c.environment.new.host) _ c.environment.ensures.world c.in-Err.ensures.grew c.in-Err.ensures.refused

pub returns-in-Err-clause-quiet : goal.returns-in-Err-clause-quiet
returns-in-Err-clause-quiet g c = quiet_without_environ _ _ _ c.in-Err.ensures.refused

pub returns-in-Ok-serve-clause-asked : goal.returns-in-Ok-serve-clause-asked
returns-in-Ok-serve-clause-asked g c =
    let means = rw c.in-Ok-Go.field-0-is at c.in-Ok-Go.ensures.read in
    words_served _ (g.H.Host.told c.args.host.now) _ _ c.in-Ok.ensures.gives _ means (g.H.Host.told c.environment.new.host) (moment_by (g.H.Host.told c.environment.new.host) (g.H.Host.told c.args.host.now) c.in-Ok.ensures.grew c.environment.ensures.world) (g.H.Host.told c.serve.new.host) _ _ c.in-Ok-serve.ensures.asked c.in-Ok-serve.ensures.quiet c.in-Ok-serve.ensures.found

pub returns-in-Ok-Go-clause-refused : goal.returns-in-Ok-Go-clause-refused
returns-in-Ok-Go-clause-refused g c =
    words_unserved _ (g.H.Host.told c.args.host.now) _ _ c.in-Ok.ensures.gives _ (rw c.in-Ok-Go.field-0-is at c.in-Ok-Go.ensures.read) (g.H.Host.told c.environment.new.host) (moment_by (g.H.Host.told c.environment.new.host) (g.H.Host.told c.args.host.now) c.in-Ok.ensures.grew c.environment.ensures.world) (g.H.Host.told c.serve.new.host) _ _ c.in-Err-serve.ensures.asked

pub returns-in-Ok-Go-clause-quiet : goal.returns-in-Ok-Go-clause-quiet
returns-in-Ok-Go-clause-quiet g c = quiet_of_words _ _ _ c.in-Ok.ensures.gives _ _ _ (rw c.in-Ok-Go.field-0-is at c.in-Ok-Go.ensures.read) refl

pub returns-clause-refused : goal.returns-clause-refused
returns-clause-refused g c = words_refused _ (g.H.Host.told c.args.host.now) _ _ c.in-Ok.ensures.gives (g.H.Host.told c.environment.new.host) _ c.environment.ensures.world c.in-Ok.ensures.grew c.in-Err-read.ensures.refused

pub returns-clause-quiet : goal.returns-clause-quiet
returns-clause-quiet g c = quiet_without_words _ _ _ c.in-Ok.ensures.gives _ c.in-Err-read.ensures.refused

pub returns-in-Ok-Help-clause-asked : goal.returns-in-Ok-Help-clause-asked
returns-in-Ok-Help-clause-asked g c =
    (moment_by (g.H.Host.told c.environment.new.host) (g.H.Host.told c.args.host.now) c.in-Ok.ensures.grew c.environment.ensures.world, refl, asks_help _ _ _ c.in-Ok.ensures.gives (rw c.in-Ok-Help.field-0-is at c.in-Ok-Help.ensures.read))

pub returns-in-Ok-Version-clause-asked : goal.returns-in-Ok-Version-clause-asked
returns-in-Ok-Version-clause-asked g c =
    (moment_by (g.H.Host.told c.environment.new.host) (g.H.Host.told c.args.host.now) c.in-Ok.ensures.grew c.environment.ensures.world, refl, asks_version _ _ _ c.in-Ok.ensures.gives (rw c.in-Ok-Version.field-0-is at c.in-Ok-Version.ensures.read))
