-- The entries go, and it is told of; or one of both isn't done.
use Rattle.std.proofs.Common.{rules}
use Rattle.std.specs.Prelude.{IfSome}
use Rattle.just_cache_clean.specs.EntryTexts.{IsPath}
use Rattle.just_cli.proofs.CleaningLaws.{cleans_as, given_path, all_tidied, all_untidied, untidied}
use Rattle.just_cli.proofs.clean.tidy.Goals as goal

pub clean_entries-requires : goal.clean_entries-requires
clean_entries-requires g c =
    let known : IfSome c.borrowed.result (λ p. IsPath p.now.components) = given_path _ _ c.borrowed.ensures c.requires in search rules

pub returns-in-Ok-clause-tidied : goal.returns-in-Ok-clause-tidied
returns-in-Ok-clause-tidied g c =
    all_tidied _ _ _ (g.H.Host.told c.args.host.now) (g.H.Host.told c.clean_entries.new.host) (g.H.Host.told c.tell_cleaned.new.host) _ (cleans_as _ _ _ _ _ _ _ c.as_path.ensures c.borrowed.ensures c.in-Ok.ensures.cleans) c.tell_cleaned.ensures.world _ c.tell_cleaned.ensures.told

pub returns-in-Ok-clause-untidied : goal.returns-in-Ok-clause-untidied
returns-in-Ok-clause-untidied g c =
    all_untidied _ _ c.args.quiet (g.H.Host.told c.args.host.now) (g.H.Host.told c.clean_entries.new.host) (g.H.Host.told c.tell_cleaned.new.host) _ (cleans_as _ _ _ _ _ _ _ c.as_path.ensures c.borrowed.ensures c.in-Ok.ensures.cleans) c.tell_cleaned.ensures.world _ c.tell_cleaned.ensures.untold

pub returns-in-Err-clause-untidied : goal.returns-in-Err-clause-untidied
returns-in-Err-clause-untidied g c = untidied _ _ c.args.quiet (g.H.Host.told c.args.host.now) (g.H.Host.told c.clean_entries.new.host) c.in-Err.refused _ (cleans_as _ _ _ _ _ _ _ c.as_path.ensures c.borrowed.ensures c.in-Err.ensures.cleans) c.from.ensures
