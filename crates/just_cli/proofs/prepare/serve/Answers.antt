-- What the configuration asks for is what the arguments ask for; or there is none.
use Rattle.just_host_record.proofs.Moments.{moment_by}
use Rattle.just_cli.proofs.Serving.{folder_lost, configuration_refused, configured}
use Rattle.just_cli.proofs.prepare.serve.Goals as goal

pub returns-in-Err-clause-asked : goal.returns-in-Err-clause-asked
returns-in-Err-clause-asked g c = folder_lost (g.H.Host.told c.args.host.now) _ _ _ (g.H.Host.told c.current_folder.new.host) _ c.current_folder.ensures.world c.in-Err.ensures.grew c.in-Err.ensures.refused

pub returns-in-Err-configure-clause-asked : goal.returns-in-Err-configure-clause-asked
returns-in-Err-configure-clause-asked g c =
    configuration_refused (g.H.Host.told c.args.host.now) _ _ _ _ c.in-Ok.ensures.gives (g.H.Host.told c.current_folder.new.host) _ c.current_folder.ensures.world c.in-Ok.ensures.grew c.in-Err-configure.ensures.refused

pub returns-in-Ok-asked_by-clause-asked : goal.returns-in-Ok-asked_by-clause-asked
returns-in-Ok-asked_by-clause-asked g c =
    configured (g.H.Host.told c.args.host.now) _ _ _ _ c.in-Ok.ensures.gives _ c.in-Ok-configure.ensures.gives c.in-Ok-configure.ensures.config (g.H.Host.told c.current_folder.new.host) (g.H.Host.told c.asked_by.new.host)
    (moment_by (g.H.Host.told c.current_folder.new.host) (g.H.Host.told c.args.host.now) c.in-Ok.ensures.grew c.current_folder.ensures.world) _ _ c.in-Ok-asked_by.ensures.asked

pub returns-in-Err-asked_by-clause-asked : goal.returns-in-Err-asked_by-clause-asked
returns-in-Err-asked_by-clause-asked g c =
    configured (g.H.Host.told c.args.host.now) _ _ _ _ c.in-Ok.ensures.gives _ c.in-Ok-configure.ensures.gives c.in-Ok-configure.ensures.config (g.H.Host.told c.current_folder.new.host) (g.H.Host.told c.asked_by.new.host)
    (moment_by (g.H.Host.told c.current_folder.new.host) (g.H.Host.told c.args.host.now) c.in-Ok.ensures.grew c.current_folder.ensures.world) _ _ c.in-Err-asked_by.ensures.asked
