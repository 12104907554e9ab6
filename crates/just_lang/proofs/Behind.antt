-- The first broken rule, by what was found of each part of the rules.
use Rattle.std.proofs.Common.{◌≡◌, ◌++◌, List, Option, Some, None, subst}
use Rattle.just_lang_types.specs.declared.error.CompileKind.{CompileKind}
use Rattle.just_lang_layout.specs.declared.layout.Layout.{Layout}
use Rattle.just_lang_layout.specs.Paths.{Pairs}
use Rattle.just_lang_spots.specs.declared.spot.Spot.{Spot}
use Rattle.just_lang_spots.specs.Standing.{Wins}
use Rattle.just_lang_rulebook.specs.declared.broken.Broken.{Broken}
use Rattle.just_lang_rulebook.specs.Behind.{IsFirstBehind}
use Rattle.just_lang_rulebook.specs.First.{first_broken}
use Rattle.just_lang_rulebook.specs.Rules.{rules_in_front, all_patterns}
use Rattle.just_lang.specs.Order.{IsFirstBroken}
use Rattle.just_lang.specs.Rules.{kinds_in_front, kinds_on_names, kinds_on_cycles, kinds_behind, Breaks, IsFirstRule, IsFirstFurther, IsFirstCircular, rules_on_names}
use Rattle.just_lang.proofs.OrderLaws.{front_broken, behind_broken}
use Rattle.just_lang.proofs.Listed.{front_is, names_are, are_behind}
use Rattle.just_lang.proofs.Sizes.{read_spots, read_too_big}

module _ (environ : Pairs) (wins : Wins) (layout : Layout) where
  first_same : (big : List Spot) (kinds : List CompileKind) (o p : Option Broken) → o ≡ p → IsFirstBroken (Breaks environ wins layout big) kinds o → IsFirstBroken (Breaks environ wins layout big) kinds p
  first_same big kinds o p e h = subst (λ (x : Option Broken). IsFirstBroken (Breaks environ wins layout big) kinds x) e h

  -- one on names is broken
  pub names_found : (o : Option Broken) (b : Broken) → o ≡ first_broken (rules_on_names environ wins layout) → o ≡ Some b → IsFirstFurther environ wins layout (Some b)
  unfolding IsFirstFurther
  names_found o b h e =
      let big = read_spots (all_patterns environ layout) in (
        big,
        read_too_big (all_patterns environ layout),
        front_broken (Breaks environ wins layout big) kinds_on_names (kinds_on_cycles ++ kinds_behind) b (first_same big kinds_on_names o (Some b) e (names_are environ wins layout big o h)),
      )

  -- none of these is, and one on cycles is
  pub circular_found : (names o : Option Broken) (b : Broken) → names ≡ first_broken (rules_on_names environ wins layout) → names ≡ None → IsFirstCircular wins layout o → o ≡ Some b
      → IsFirstFurther environ wins layout (Some b)
  unfolding IsFirstFurther IsFirstCircular
  circular_found names o b h e g f =
      let big = read_spots (all_patterns environ layout) in
      let breaks = Breaks environ wins layout big in (
        big,
        read_too_big (all_patterns environ layout),
        behind_broken breaks kinds_on_names (kinds_on_cycles ++ kinds_behind) (Some b) (first_same big kinds_on_names names None e (names_are environ wins layout big names h))
            (front_broken breaks kinds_on_cycles kinds_behind b (first_same big kinds_on_cycles o (Some b) f (g environ big))),
      )

  -- none of both is
  pub further_found : (names o answer : Option Broken) → names ≡ first_broken (rules_on_names environ wins layout) → names ≡ None → IsFirstCircular wins layout o → o ≡ None
      → IsFirstBehind environ wins layout answer → IsFirstFurther environ wins layout answer
  unfolding IsFirstFurther IsFirstCircular
  further_found names o answer h e g f k =
      let b = are_behind environ wins layout answer k in
      let breaks = Breaks environ wins layout b.big in (
        b.big,
        b.too_big,
        behind_broken breaks kinds_on_names (kinds_on_cycles ++ kinds_behind) answer (first_same b.big kinds_on_names names None e (names_are environ wins layout b.big names h))
            (behind_broken breaks kinds_on_cycles kinds_behind answer (first_same b.big kinds_on_cycles o None f (g environ b.big)) b.first),
      )

  -- one in front of all these is
  pub front_found : (o : Option Broken) (b : Broken) → o ≡ first_broken (rules_in_front environ wins layout) → o ≡ Some b → IsFirstRule environ wins layout (Some b)
  unfolding IsFirstRule
  front_found o b h e =
      let big = read_spots (all_patterns environ layout) in (
        big,
        read_too_big (all_patterns environ layout),
        front_broken (Breaks environ wins layout big) kinds_in_front (kinds_on_names ++ (kinds_on_cycles ++ kinds_behind)) b
            (first_same big kinds_in_front o (Some b) e (front_is environ wins layout big o h)),
      )

  -- none in front is
  pub front_missing : (o answer : Option Broken) → o ≡ first_broken (rules_in_front environ wins layout) → o ≡ None → IsFirstFurther environ wins layout answer → IsFirstRule environ wins layout answer
  unfolding IsFirstRule IsFirstFurther
  front_missing o answer h e k = (
    k.0,
    k.1,
    behind_broken (Breaks environ wins layout k.0) kinds_in_front (kinds_on_names ++ (kinds_on_cycles ++ kinds_behind)) answer
        (first_same k.0 kinds_in_front o None e (front_is environ wins layout k.0 o h)) k.2,
  )
