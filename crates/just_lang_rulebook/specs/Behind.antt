-- What is told of the rules behind those on the names that are used.
use Rattle.std.specs.Prelude.{◌≡◌, Option}
use Rattle.just_lang_types.specs.declared.error.CompileKind.TheVariants as kind
use Rattle.just_lang_layout.specs.declared.layout.Layout.{Layout}
use Rattle.just_lang_layout.specs.Paths.{Pairs}
use Rattle.just_lang_spots.specs.declared.spot.Spot.{Spot}
use Rattle.just_lang_spots.specs.Standing.{Wins}
use Rattle.just_lang_rulebook.specs.Patterns.{IsFirstTooBig}
use Rattle.just_lang_rulebook.specs.declared.broken.Broken.{Broken}
use Rattle.just_lang_rulebook.specs.First.{broken_at, or_behind, first_broken, IsAfter}
use Rattle.just_lang_rulebook.specs.Rules.{rules_on_arguments, rules_on_bodies, all_patterns}

-- a pattern that is too big, else the first broken rule on bodies
abbrev pub IsSizeOrBehind : Pairs → Wins → Layout → Option Broken → Type 0
IsSizeOrBehind environ wins layout answer =
    (size : Option Spot) × IsFirstTooBig (all_patterns environ layout) size
    × (answer ≡ or_behind (broken_at kind.ArgumentPatternSize size) (first_broken (rules_on_bodies wins layout)))

-- the first broken rule on arguments, else one of these
abbrev pub IsFirstBehind : Pairs → Wins → Layout → Option Broken → Type 0
IsFirstBehind environ wins layout = IsAfter (first_broken (rules_on_arguments environ layout)) (IsSizeOrBehind environ wins layout)
