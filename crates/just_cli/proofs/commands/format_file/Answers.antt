-- The file is read and its text made anew; or one of both is refused.
use Rattle.std.proofs.Common.{sym, ◌∙◌}
use Rattle.just_cli.specs.Words.{JustfileRequest}
use Rattle.just_cli.proofs.Commanding.{unread, file_anew, file_refused}
use Rattle.just_cli.proofs.Prepared.{left_misses}
use Rattle.just_cli.proofs.commands.format_file.Goals as goal

pub returns-in-Err-clause-refused : goal.returns-in-Err-clause-refused
returns-in-Err-clause-refused g c =
    let j : JustfileRequest = record { wanted = c.args.wanted.now; environ = c.args.environ.now; justfile = c.args.path } in
    unread _ c.args.config.now c.args.origin.now j _ (rw c.as_path.ensures at c.in-Err.ensures.refused)

pub only-source-requires : goal.only-source-requires
only-source-requires g c = (_, c.sources.ensures ∙ c.in-Ok.ensures.source.2)

pub returns-in-Ok-formatted_anew-clause-formats : goal.returns-in-Ok-formatted_anew-clause-formats
returns-in-Ok-formatted_anew-clause-formats g c =
    let j : JustfileRequest = record { wanted = c.args.wanted.now; environ = c.args.environ.now; justfile = c.args.path } in
    file_anew _ c.args.config.now c.args.origin.now j _ (rw c.as_path.ensures at c.in-Ok.ensures.source) _ (sym c.sources.ensures ∙ c.only-source.ensures) _ c.is_file.ensures _ c.in-Ok-formatted_anew.ensures.anew

pub returns-clause-grew : goal.returns-clause-grew
returns-clause-grew g c = left_misses _ _ _ c.in-Err-formatted_anew.ensures.silent c.in-Ok.ensures.grew

pub returns-clause-refused : goal.returns-clause-refused
returns-clause-refused g c =
    let j : JustfileRequest = record { wanted = c.args.wanted.now; environ = c.args.environ.now; justfile = c.args.path } in
    file_refused _ c.args.config.now c.args.origin.now j _ (rw c.as_path.ensures at c.in-Ok.ensures.source) _ (sym c.sources.ensures ∙ c.only-source.ensures) _ c.is_file.ensures _ c.in-Err-formatted_anew.ensures.refused
