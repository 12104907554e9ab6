-- The rules behind those on the names that are used, by what was found.
use Rattle.std.proofs.Common.{◌≡◌, Option, Some, None, refl, sym, ap, subst, ◌∙◌}
use Rattle.just_lang_types.specs.declared.error.CompileKind.TheVariants as kind
use Rattle.just_lang_layout.specs.declared.layout.Layout.{Layout}
use Rattle.just_lang_layout.specs.Paths.{Pairs}
use Rattle.just_lang_spots.specs.declared.spot.Spot.{Spot}
use Rattle.just_lang_spots.specs.Standing.{Wins}
use Rattle.just_lang_rulebook.specs.Patterns.{IsFirstTooBig}
use Rattle.just_lang_rulebook.specs.declared.broken.Broken.{Broken}
use Rattle.just_lang_rulebook.specs.First.{broken_at, or_behind, first_broken, IsAfter}
use Rattle.just_lang_rulebook.specs.Rules.{rules_on_arguments, rules_on_bodies, all_patterns}
use Rattle.just_lang_rulebook.specs.Behind.{IsSizeOrBehind, IsFirstBehind}

-- a pattern is too big
pub size_found : (environ : Pairs) (wins : Wins) (layout : Layout) (size : Option Spot) (spot : Spot) (answer : Option Broken) → IsFirstTooBig (all_patterns environ layout) size → size ≡ Some spot
    → answer ≡ broken_at kind.ArgumentPatternSize (Some spot) → IsSizeOrBehind environ wins layout answer
size_found environ wins layout size spot answer h e k =
    (size, h, k ∙ ap (λ (s : Option Spot). or_behind (broken_at kind.ArgumentPatternSize s) (first_broken (rules_on_bodies wins layout))) (sym e))

-- none is
pub size_missing : (environ : Pairs) (wins : Wins) (layout : Layout) (size : Option Spot) (answer : Option Broken) → IsFirstTooBig (all_patterns environ layout) size → size ≡ None
    → answer ≡ first_broken (rules_on_bodies wins layout) → IsSizeOrBehind environ wins layout answer
size_missing environ wins layout size answer h e k =
    (size, h, k ∙ ap (λ (s : Option Spot). or_behind (broken_at kind.ArgumentPatternSize s) (first_broken (rules_on_bodies wins layout))) (sym e))

-- a rule on arguments is broken
pub argument_found : (environ : Pairs) (wins : Wins) (layout : Layout) (o : Option Broken) (b : Broken) → o ≡ first_broken (rules_on_arguments environ layout) → o ≡ Some b
    → IsFirstBehind environ wins layout (Some b)
argument_found environ wins layout o b h e =
    subst (λ (p : Option Broken). IsAfter p (IsSizeOrBehind environ wins layout) (Some b)) (sym e ∙ h) refl

-- none is
pub argument_missing : (environ : Pairs) (wins : Wins) (layout : Layout) (o answer : Option Broken) → o ≡ first_broken (rules_on_arguments environ layout) → o ≡ None
    → IsSizeOrBehind environ wins layout answer → IsFirstBehind environ wins layout answer
argument_missing environ wins layout o answer h e k =
    subst (λ (p : Option Broken). IsAfter p (IsSizeOrBehind environ wins layout) answer) (sym e ∙ h) k
