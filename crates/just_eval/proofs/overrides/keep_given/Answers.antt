-- An override of the module.
use Rattle.std.proofs.Common.{sym, ◌∙◌}
use Rattle.just_eval.proofs.GivenTexts.{kept_given}
use Rattle.just_eval.proofs.overrides.keep_given.Goals as goal

pub returns-then-same : goal.returns-then-same
returns-then-same c =
    kept_given c.args.one.now c.args.path.now c.args.given.now c.set.new.given (sym c.same.ensures ∙ c.if-same.true) c.in_ok-set.ensures.updates
