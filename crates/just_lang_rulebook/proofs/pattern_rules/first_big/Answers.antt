-- One more pattern, and none behind the last.
use Rattle.std.proofs.Common.{◌≤◌, length, arith}
use Rattle.just_lang_rulebook.proofs.BigPatterns.{big_step, big_end}
use Rattle.just_lang_rulebook.proofs.pattern_rules.first_big.Goals as goal

pub patterns-preserved : goal.patterns-preserved
patterns-preserved c =
    big_step c.patterns.found c.in_ok-here.here c.earlier-found.result c.args.patterns.now c.patterns.pattern-index c.pattern-item.result
    c.patterns-test.true c.pattern-item.is c.in_ok-here.ensures c.earlier-found.ensures c.patterns.invariant

pub returns : goal.returns
returns c =
    let past : length c.args.patterns.now ≤ c.patterns.pattern-index = omega arith in
    big_end c.patterns.found c.args.patterns.now c.patterns.pattern-index past c.patterns.invariant
