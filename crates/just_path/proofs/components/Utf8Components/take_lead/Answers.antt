-- Where nothing is left to take from the back.
use Rattle.std.proofs.Common.{refl, sym}
use Rattle.just_path.proofs.IteratorMoves.{last_over_names, last_over_whole}
use Rattle.just_path.proofs.components.Utf8Components.take_lead.Goals as goal

pub returns-then-self-clause-step : goal.returns-then-self-clause-step
returns-then-self-clause-step c = last_over_names c.args.self.now _ c.if-self.true c.if-self.true c.requires refl

pub returns-in-None-clause-step : goal.returns-in-None-clause-step
returns-in-None-clause-step c = last_over_whole c.args.self.now _ c.if-self.false refl c.requires (sym c.in-None.ensures) refl
