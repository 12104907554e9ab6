-- The keys around a key have shorter chains of dependencies.
use Rattle.std.proofs.Common.{map}
use Rattle.just_eval_closure.proofs.Ends.{ranked}
use Rattle.just_eval_closure.proofs.closing.closure_within.Goals as goal

pub closure_of-requires-clause-ranked : goal.closure_of-requires-clause-ranked
closure_of-requires-clause-ranked c = ranked (map (λ m. m.now) c.args.request.now.modules.items) c.args.request.now.scopes.now c.requires.ends c.args.no_deps
