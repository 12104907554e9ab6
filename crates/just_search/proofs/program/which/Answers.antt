-- A search that is refused, and one without paths.
use Rattle.std.proofs.Common.{Ok, codes, sym, ap, ◌∙◌}
use Rattle.just_path_text.specs.Environ.{value_of}
use Rattle.just_path.specs.Path.{text_of}
use Rattle.just_search.specs.Programs.{program_paths}
use Rattle.just_search.proofs.Looks.{looks_nothing, which_refused}
use Rattle.just_search.proofs.program.which.Goals as goal

pub returns-in-Ok-clause-refused : goal.returns-in-Ok-clause-refused
returns-in-Ok-clause-refused g c =
    which_refused (g.H.Host.told c.args.host.now).world (program_paths (text_of c.args.folder) c.args.name.now (value_of (codes "PATH") c.args.environ.now.pairs)) c.as_slice.result.now c.in-Err-first_program.error (c.in-Ok.ensures.paths ∙ ap (λ xs. Ok xs) (sym c.as_slice.ensures.value)) c.in-Err-first_program.ensures.located

pub returns-clause-entries : goal.returns-clause-entries
returns-clause-entries g c = looks_nothing (g.H.Host.told c.args.host.now).entries c.in-Err.error c.in-Err.ensures.unheard
