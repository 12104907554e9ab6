-- No file is there, or one whose text is read; a text that is refused leaves no entry.
use Rattle.std.proofs.Common.{rules}
use Rattle.just_path.specs.Path.{text_of}
use Rattle.just_env.proofs.Record.{gains_error, gains_nothing}
use Rattle.just_env.proofs.OneFile.{file_absent, file_there, file_unread, file_faulty}
use Rattle.just_env.proofs.file.load_file.Goals as goal

pub returns-clause-gains : goal.returns-clause-gains
returns-clause-gains g c = gains_error _ _ c.in-Err-pairs_of_text.error c.in-Ok-Some.ensures.gains c.in-Err-pairs_of_text.ensures.unheard

pub returns-in_err-named-clause-gains : goal.returns-in_err-named-clause-gains
returns-in_err-named-clause-gains g c = gains_nothing _ _ (search rules)

pub returns-in-Ok-None-clause-loaded : goal.returns-in-Ok-None-clause-loaded
returns-in-Ok-None-clause-loaded g c = file_absent (g.H.Host.told c.args.host.now).world c.args.environ.now.pairs (text_of c.args.path) (rw c.in-Ok-None.field-0-is at c.in-Ok-None.ensures.text)

pub returns-in-Ok-None-clause-gains : goal.returns-in-Ok-None-clause-gains
returns-in-Ok-None-clause-gains g c = c.in-Ok-None.ensures.gains

pub returns-in-Err-clause-loaded : goal.returns-in-Err-clause-loaded
returns-in-Err-clause-loaded g c = file_unread (g.H.Host.told c.args.host.now).world c.args.environ.now.pairs (text_of c.args.path) c.in-Err.error c.in-Err.ensures.text

pub returns-in-Err-clause-gains : goal.returns-in-Err-clause-gains
returns-in-Err-clause-gains g c = c.in-Err.ensures.gains

pub returns-in-Ok-clause-loaded : goal.returns-in-Ok-clause-loaded
returns-in-Ok-clause-loaded g c =
    file_there (g.H.Host.told c.args.host.now).world c.args.environ.now.pairs (text_of c.args.path) c.in-Ok-Some.text c.in-Ok.pairs (rw c.in-Ok-Some.field-0-is at c.in-Ok-Some.ensures.text) (rw c.as_str.ensures at c.in-Ok.ensures.pairs)

pub returns-in-Ok-clause-gains : goal.returns-in-Ok-clause-gains
returns-in-Ok-clause-gains g c = c.in-Ok-Some.ensures.gains

pub returns-clause-loaded : goal.returns-clause-loaded
returns-clause-loaded g c =
    file_faulty (g.H.Host.told c.args.host.now).world c.args.environ.now.pairs (text_of c.args.path) c.in_ok-named.named c.in-Ok-Some.text c.in-Err-pairs_of_text.error (rw c.in-Ok-Some.field-0-is at c.in-Ok-Some.ensures.text) c.in_ok-named.ensures (rw c.as_str.ensures at c.in-Err-pairs_of_text.ensures.refused)
