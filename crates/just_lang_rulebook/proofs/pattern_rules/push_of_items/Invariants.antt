-- What was added, and what is still to come.
use Rattle.std.proofs.Common.{◌≡◌, ◌++◌, map, drop}
use Rattle.std.specs.List.{flat_map}
use Rattle.just_lang_spots.specs.Entries.{entries}
use Rattle.just_lang_rulebook.specs.Patterns.{pattern_pair, patterns_of}
use Rattle.just_lang_rulebook.proofs.pattern_rules.push_of_items.Given as goal

abbrev pub invariant-items : goal.invariant-items
invariant-items g l =
    map pattern_pair l.found.items ++ flat_map (λ x. patterns_of (g.T.Texts.text_of l.texts) x.0 x.1) (entries (drop l.one-index l.items))
    ≡ map pattern_pair l.fn.found.items ++ flat_map (λ x. patterns_of (g.T.Texts.text_of l.texts) x.0 x.1) (entries l.items)
