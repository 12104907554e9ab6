-- The words that are left lead to the keys behind those that are done.
use Rattle.std.proofs.Common.{◌-◌, length, map}
use Rattle.just_eval_words.proofs.Invoked.{Leads}
use Rattle.just_eval_words.proofs.invocation.all_keys.Given as goal

abbrev pub invariant-words : goal.invariant-words
invariant-words l = Leads (map (λ m. m.now) l.modules) l.scopes l.root l.words l.keys.items l.at

abbrev pub decreases-words : goal.decreases-words
decreases-words l = length l.words - l.at
