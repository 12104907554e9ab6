-- What was added, and what is still to come.
use Rattle.std.proofs.Common.{◌≡◌, ◌++◌, map, drop}
use Rattle.std.specs.Prelude.{filter_map}
use Rattle.just_lang_rulebook.specs.Patterns.{pattern_pair, pattern_text}
use Rattle.just_lang_rulebook.proofs.patterns.push_of_arguments.Given as goal

abbrev pub invariant-arguments : goal.invariant-arguments
invariant-arguments g l =
    map pattern_pair l.found.items ++ filter_map (pattern_text (g.T.Texts.text_of l.texts) l.file) (drop l.argument-index l.arguments)
    ≡ map pattern_pair l.fn.found.items ++ filter_map (pattern_text (g.T.Texts.text_of l.texts) l.file) l.arguments
