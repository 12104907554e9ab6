-- Files were looked for, or weren't for want of memory.
use Rattle.std.proofs.Common.{rules, ◌∙◌}
use Rattle.just_path.specs.Path.{text_of}
use Rattle.just_env.proofs.Record.{gains_nothing, gains_unheard}
use Rattle.just_env.proofs.Owned.{found_pairs, found_refused}
use Rattle.just_env.proofs.module.load_found.Goals as goal

pub returns-in_err-paths-clause-gains : goal.returns-in_err-paths-clause-gains
returns-in_err-paths-clause-gains g c = gains_nothing _ _ (search rules)

pub returns-in_err-names-clause-gains : goal.returns-in_err-names-clause-gains
returns-in_err-names-clause-gains g c = gains_nothing _ _ (search rules)

pub returns-in-Ok-clause-loaded : goal.returns-in-Ok-clause-loaded
returns-in-Ok-clause-loaded g c =
    found_pairs (g.H.Host.told c.args.host.now).world c.args.ask.now c.args.environ.now.pairs (text_of c.args.folder) c.args.settings.now c.as_slice.result.now c.as_slice-2.result.now (c.as_slice.ensures ∙ c.in_ok-paths.ensures)
    (c.as_slice-2.ensures ∙ c.in_ok-names.ensures) c.in-Ok.found c.pairs_of_found.result c.in-Ok.ensures.found c.pairs_of_found.ensures.pairs

pub returns-in-Ok-clause-gains : goal.returns-in-Ok-clause-gains
returns-in-Ok-clause-gains g c = gains_unheard _ _ _ c.in-Ok.ensures.gains c.pairs_of_found.ensures.unheard

pub returns-clause-loaded : goal.returns-clause-loaded
returns-clause-loaded g c =
    found_refused (g.H.Host.told c.args.host.now).world c.args.ask.now c.args.environ.now.pairs (text_of c.args.folder) c.args.settings.now c.as_slice.result.now c.as_slice-2.result.now (c.as_slice.ensures ∙ c.in_ok-paths.ensures)
    (c.as_slice-2.ensures ∙ c.in_ok-names.ensures) c.in-Err.error c.in-Err.ensures.found

pub returns-clause-gains : goal.returns-clause-gains
returns-clause-gains g c = c.in-Err.ensures.gains
