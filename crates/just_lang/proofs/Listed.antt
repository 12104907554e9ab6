-- The rules whose places are lists.
use Rattle.std.proofs.Common.{◌≡◌, List, ◌∷◌, ◌++◌, Option, Some, None, refl, sym, ap, ◌∙◌, subst}
use Rattle.std.specs.List.{AllByRecursion as ByRecursion}
use Rattle.just_lang_types.specs.declared.error.CompileKind.TheVariants as kind
use Rattle.just_lang_layout.specs.declared.layout.Layout.{Layout}
use Rattle.just_lang_layout.specs.Paths.{Pairs}
use Rattle.just_lang_spots.specs.declared.spot.Spot.{Spot}
use Rattle.just_lang_spots.specs.Spots.{first_spot}
use Rattle.just_lang_spots.specs.Standing.{Wins}
use Rattle.just_lang_rulebook.specs.declared.broken.Broken.{Broken}
use Rattle.just_lang_rulebook.specs.Behind.{IsSizeOrBehind, IsFirstBehind}
use Rattle.just_lang_rulebook.specs.First.{Asked, broken_at, or_behind, first_broken, IsAfter}
use Rattle.just_lang_rulebook.specs.Rules.{rules_in_front, rules_on_arguments, rules_on_bodies, all_patterns}
use Rattle.just_lang_rulebook.proofs.Orders.{first_of_both}
use Rattle.just_lang.specs.Order.{IsFirstBroken}
use Rattle.just_lang.specs.Rules.{kinds_in_front, kinds_on_names, kinds_behind, Breaks, AreTooBig, rules_on_names}
use Rattle.just_lang.proofs.OrderLaws.{IsListed, listed}
use Rattle.just_lang.proofs.Sizes.{read_spots, read_too_big, picked, picked_too_big}

module _ (environ : Pairs) (wins : Wins) (layout : Layout) (big : List Spot) where
  front_listed : ByRecursion (IsListed (Breaks environ wins layout big)) (rules_in_front environ wins layout)
  front_listed =
      (((λ s h. h), (λ s h. h)), (((λ s h. h), (λ s h. h)), (((λ s h. h), (λ s h. h)), (((λ s h. h), (λ s h. h)), (((λ s h. h), (λ s h. h)), (((λ s h. h), (λ s h. h)), (((λ s h. h), (λ s h. h)), (((λ s h. h), (λ s h. h)), (((λ s h. h), (λ s h. h)), (((λ s h. h), (λ s h. h)), (((λ s h. h), (λ s h. h)), (((λ s h. h), (λ s h. h)), (((λ s h. h), (λ s h. h)), (((λ s h. h), (λ s h. h)), (((λ s h. h), (λ s h. h)), tt)))))))))))))))

  names_listed : ByRecursion (IsListed (Breaks environ wins layout big)) (rules_on_names environ wins layout)
  names_listed =
      (((λ s h. h), (λ s h. h)), (((λ s h. h), (λ s h. h)), (((λ s h. h), (λ s h. h)), (((λ s h. h), (λ s h. h)), (((λ s h. h), (λ s h. h)), tt)))))

  -- the rules behind those on names and cycles, with the size of patterns
  abbrev pub rules_behind : List Asked
  rules_behind = rules_on_arguments environ layout ++ ((kind.ArgumentPatternSize, big) ∷ rules_on_bodies wins layout)

  behind_listed : ByRecursion (IsListed (Breaks environ wins layout big)) rules_behind
  behind_listed =
      (((λ s h. h), (λ s h. h)), (((λ s h. h), (λ s h. h)), (((λ s h. h), (λ s h. h)), (((λ s h. h), (λ s h. h)), (((λ s h. h), (λ s h. h)), tt)))))

  pub front_is : (o : Option Broken) → o ≡ first_broken (rules_in_front environ wins layout) → IsFirstBroken (Breaks environ wins layout big) kinds_in_front o
  front_is o e =
      subst (λ (p : Option Broken). IsFirstBroken (Breaks environ wins layout big) kinds_in_front p) (sym e)
      (listed (Breaks environ wins layout big) (rules_in_front environ wins layout) front_listed)

  pub names_are : (o : Option Broken) → o ≡ first_broken (rules_on_names environ wins layout) → IsFirstBroken (Breaks environ wins layout big) kinds_on_names o
  names_are o e =
      subst (λ (p : Option Broken). IsFirstBroken (Breaks environ wins layout big) kinds_on_names p) (sym e)
      (listed (Breaks environ wins layout big) (rules_on_names environ wins layout) names_listed)

  pub behind_is : (o : Option Broken) → o ≡ first_broken rules_behind → IsFirstBroken (Breaks environ wins layout big) kinds_behind o
  behind_is o e =
      subst (λ (p : Option Broken). IsFirstBroken (Breaks environ wins layout big) kinds_behind p) (sym e)
      (listed (Breaks environ wins layout big) rules_behind behind_listed)

-- ---- the size of patterns

pub record AreBehind (environ : Pairs) (wins : Wins) (layout : Layout) (answer : Option Broken) : Type 0 where
  pub big : List Spot
  pub too_big : AreTooBig (all_patterns environ layout) big
  pub first : IsFirstBroken (Breaks environ wins layout big) kinds_behind answer

module _ (environ : Pairs) (wins : Wins) (layout : Layout) (answer : Option Broken) where
  by_arguments : (o : Option Broken) → first_broken (rules_on_arguments environ layout) ≡ o → IsAfter o (IsSizeOrBehind environ wins layout) answer → AreBehind environ wins layout answer
  by_arguments None e h =
      let p = picked (all_patterns environ layout) h.0 h.1 in
      let bodies : Option Broken = first_broken (rules_on_bodies wins layout) in
      let is : answer ≡ first_broken (rules_behind environ wins layout p.big) =
      h.2 ∙ ap (λ (s : Option Spot). or_behind (broken_at kind.ArgumentPatternSize s) bodies) (sym p.first)
      ∙ ap (λ (b : Option Broken). or_behind b (or_behind (broken_at kind.ArgumentPatternSize (first_spot p.big)) bodies)) (sym e)
      ∙ sym (first_of_both (rules_on_arguments environ layout) ((kind.ArgumentPatternSize, p.big) ∷ rules_on_bodies wins layout)) in
      record { big = p.big; too_big = picked_too_big (all_patterns environ layout) p.big p.picks; first = behind_is environ wins layout p.big answer is }
  by_arguments (Some b) e h =
      let big = read_spots (all_patterns environ layout) in
      let rest : Option Broken = first_broken ((kind.ArgumentPatternSize, big) ∷ rules_on_bodies wins layout) in
      let is : answer ≡ first_broken (rules_behind environ wins layout big) =
      h ∙ ap (λ (x : Option Broken). or_behind x rest) (sym e) ∙ sym (first_of_both (rules_on_arguments environ layout) ((kind.ArgumentPatternSize, big) ∷ rules_on_bodies wins layout)) in
      record { big = big; too_big = read_too_big (all_patterns environ layout); first = behind_is environ wins layout big answer is }

  pub are_behind : IsFirstBehind environ wins layout answer → AreBehind environ wins layout answer
  are_behind h = by_arguments (first_broken (rules_on_arguments environ layout)) refl h
