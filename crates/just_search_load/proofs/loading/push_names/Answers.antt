-- What was found is on the stack.
use Rattle.just_search_load.specs.Named.{SourceNames}
use Rattle.just_search_load.proofs.Skipped.{names_pushed}
use Rattle.just_search_load.proofs.loading.push_names.Goals as goal

pub returns-clause-names : goal.returns-clause-names
returns-clause-names g c =
    names_pushed (SourceNames (g.H.Host.told c.args.host.now).world c.args.environ.now.pairs c.args.source.now) _ _ c.args.pending.now.items c.stack_names.new.pending.items c.new-names.ensures.items c.in-Ok.ensures.added c.in_ok-stack_names.ensures
