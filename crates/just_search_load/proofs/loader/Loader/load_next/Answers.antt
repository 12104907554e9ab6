-- A source is read, and what it names comes before the other paths; or one of both is refused.
use Rattle.std.proofs.Common.{rules}
use Rattle.just_search_load.specs.Loads.{to_load}
use Rattle.just_search_load.specs.Shows.{sources_of}
use Rattle.just_search_load.proofs.Leading.{turns_loaded, turns_unread, turns_unseen}
use Rattle.just_env.specs.Answers.{GainsMisses}
use Rattle.just_env.proofs.Laws.{gains_before, misses_after}
use Rattle.just_search_load.proofs.loader.Loader.load_next.Goals as goal

pub returns-in-Err-clause-turns : goal.returns-in-Err-clause-turns
returns-in-Err-clause-turns g c =
    turns_unread (g.H.Host.told c.args.host.now).world c.args.environ.now.pairs (sources_of c.args.self.now) c.args.path c.args.place (to_load c.args.pending.now.items) c.in-Err.error c.requires.place c.requires.new c.in-Err.ensures.refused

pub returns-in-Err-push_names-clause-turns : goal.returns-in-Err-push_names-clause-turns
returns-in-Err-push_names-clause-turns g c =
    turns_unseen (g.H.Host.told c.args.host.now).world c.args.environ.now.pairs _ (sources_of c.args.self.now) c.args.path c.args.place c.in-Ok.source (to_load c.args.pending.now.items) c.in-Err-push_names.error c.read_source.ensures.world c.requires.place c.requires.new
    c.in-Ok.ensures.source c.in-Ok.ensures.text c.in-Err-push_names.ensures.names

pub returns-in_err-keep-clause-gains : goal.returns-in_err-keep-clause-gains
returns-in_err-keep-clause-gains g c =
    let gained : GainsMisses (g.H.Host.told c.args.host.now).entries (g.H.Host.told c.push_names.new.host).entries = misses_after _ _ _ c.in-Ok.ensures.entries c.in-Ok-push_names.ensures.gains in
    gains_before _ _ _ gained (search rules)

pub returns-clause-turns : goal.returns-clause-turns
returns-clause-turns g c =
    turns_loaded (g.H.Host.told c.args.host.now).world c.args.environ.now.pairs _ (sources_of c.args.self.now) _ c.args.path c.args.place c.in-Ok.source (to_load c.args.pending.now.items) (to_load c.push_names.new.pending.items) c.read_source.ensures.world c.requires.place c.requires.new
    c.in-Ok.ensures.source c.in-Ok.ensures.text c.in-Ok-push_names.ensures.names c.in_ok-keep.ensures.kept
