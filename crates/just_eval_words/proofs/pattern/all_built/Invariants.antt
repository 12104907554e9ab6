-- Those that were built match where the patterns so far do.
use Rattle.just_eval_words.proofs.Matching.{AreBuiltTo}
use Rattle.just_eval_words.proofs.pattern.all_built.Given as goal

abbrev pub invariant-patterns : goal.invariant-patterns
invariant-patterns l = AreBuiltTo l.patterns l.pattern-index l.all.items
