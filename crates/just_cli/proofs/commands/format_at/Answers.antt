-- The justfile is taken as a file, whose text is made anew; or it isn't taken.
use Rattle.just_cli.specs.Commands.{FormatsFile}
use Rattle.just_cli.proofs.Commanding.{file_untaken, file_asked, file_formats}
use Rattle.just_cli.proofs.commands.format_at.Goals as goal

pub returns-in-Err-clause-formats : goal.returns-in-Err-clause-formats
returns-in-Err-clause-formats g c =
    file_untaken (λ now. FormatsFile now c.args.config.now c.args.location.now.origin) _ _ _ (g.H.Host.told c.args.host.now) _ (g.H.Host.told c.take.new.host) _ _ c.in-Err.ensures

pub returns-clause-formats : goal.returns-clause-formats
returns-clause-formats g c =
    file_asked (λ now. FormatsFile now c.args.config.now c.args.location.now.origin) _ _ _ (g.H.Host.told c.args.host.now) _ (g.H.Host.told c.take.new.host) (g.H.Host.told c.format_file-made_anew.new.host) _ _ _ c.in-Ok.ensures c.format_file-made_anew.ensures.world _
    c.format_file-made_anew.ensures.grew (file_formats _ c.args.config.now c.args.location.now.origin _ _ c.format_file-made_anew.ensures.formats c.format_file-made_anew.ensures.refused)
