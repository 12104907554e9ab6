-- What the cut at the end tells behind the one in front.
use Rattle.just_cache_clean.specs.EntryTexts.{back}
use Rattle.just_cache_clean.proofs.Cuts.{both_cut}
use Rattle.just_cache_clean.proofs.entry_text.inside.Goals as goal

pub returns-in-Some : goal.returns-in-Some
returns-in-Some c = both_cut c.args.text.now c.args.front.now back c.in-Some.rest.now c.before-in-Some.result c.in-Some.ensures c.before-in-Some.ensures
