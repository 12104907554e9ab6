-- What is still to come, behind what was found, is the first of all.
use Rattle.just_lang_rulebook.proofs.BigPatterns.{GoesOn}
use Rattle.just_lang_rulebook.proofs.pattern_rules.first_big.Given as goal

abbrev pub invariant-patterns : goal.invariant-patterns
invariant-patterns l = GoesOn l.patterns l.found l.pattern-index
