-- The rules on the texts of a project, in their order, each with the places where it is broken.
use Rattle.std.specs.Prelude.{◌≡◌, ℕ, true, List, [], ◌∷◌, ◌++◌, Option, Contains}
use Rattle.just_lang_syntax.specs.declared.error.FaultKind.TheVariants as fault
use Rattle.just_lang_types.specs.declared.error.CompileKind.{CompileKind}
use Rattle.just_lang_types.specs.declared.error.CompileKind.TheVariants as kind
use Rattle.just_lang_layout.specs.declared.layout.Layout.{Layout}
use Rattle.just_lang_layout.specs.Paths.{Pairs}
use Rattle.just_lang_spots.specs.declared.spot.Spot.{Spot}
use Rattle.just_lang_spots.specs.Standing.{Wins}
use Rattle.just_lang_rulebook.specs.Patterns.{is_pattern, whole_pattern}
use Rattle.just_lang_rulebook.specs.declared.broken.Broken.{Broken}
use Rattle.just_lang_rulebook.specs.Faults.{fault_spots}
use Rattle.just_lang_rulebook.specs.First.{Asked}
use Rattle.just_lang_rulebook.specs.Meant.{meant}
use Rattle.just_lang_rulebook.specs.Rules.{source_limit_spots, shell_expansion_spots, unknown_setting_spots, duplicate_setting_spots, unknown_attribute_spots, duplicate_attribute_spots, attribute_conflict_spots, duplicate_recipe_spots, duplicate_variable_spots, duplicate_alias_spots, duplicate_parameter_spots, required_parameter_spots, unknown_arg_parameter_spots, unread_pattern_spots, guard_and_infallible_spots, default_recipe_spots, all_patterns}
use Rattle.just_lang_names.specs.ScopeSpots.{undefined_variable_spots}
use Rattle.just_lang_names.specs.TargetSpots.{unknown_alias_target_spots, unknown_dependency_spots, dependency_argument_count_spots, dependency_is_option_spots}
use Rattle.just_lang.specs.Cycles.{IsCircularVariable, IsCircularRecipe}
use Rattle.just_lang.specs.Order.{IsFirstBroken}

-- ---- the kinds of rules in their order

abbrev pub kinds_in_front : List CompileKind
kinds_in_front =
    kind.Syntax ∷ kind.Unsupported ∷ kind.Depth ∷ kind.SourceLimit
    ∷ kind.ShellExpansion ∷ kind.UnknownSetting ∷ kind.DuplicateSetting ∷ kind.UnknownAttribute ∷ kind.DuplicateAttribute ∷ kind.AttributeConflict
    ∷ kind.DuplicateRecipe ∷ kind.DuplicateVariable ∷ kind.DuplicateAlias ∷ kind.DuplicateParameter ∷ kind.RequiredParameterFollowsDefault ∷ []

abbrev pub kinds_on_names : List CompileKind
kinds_on_names = kind.UndefinedVariable ∷ kind.UnknownAliasTarget ∷ kind.UnknownDependency ∷ kind.DependencyArgumentCount ∷ kind.DependencyIsOption ∷ []

abbrev pub kinds_on_cycles : List CompileKind
kinds_on_cycles = kind.CircularVariable ∷ kind.CircularRecipe ∷ []

abbrev pub kinds_behind : List CompileKind
kinds_behind = kind.UnknownArgParameter ∷ kind.ArgumentPatternRegex ∷ kind.ArgumentPatternSize ∷ kind.GuardAndInfallible ∷ kind.DuplicateDefault ∷ []

abbrev pub kinds : List CompileKind
kinds = kinds_in_front ++ (kinds_on_names ++ (kinds_on_cycles ++ kinds_behind))

-- ---- the places of each

-- some of the patterns are too big, by their places: only what the grammar reads is too big, and what isn't is read for a whole value too
pub record AreTooBig (patterns : List (List ℕ × Spot)) (big : List Spot) : Type 0 where
  pub read : (spot : Spot) → Contains big spot → (text : List ℕ) × Contains patterns (text, spot) × (is_pattern text ≡ true)
  pub others : (text : List ℕ) (spot : Spot) → Contains patterns (text, spot) → is_pattern text ≡ true → (Contains big spot → ⊥) → is_pattern (whole_pattern text) ≡ true

-- where a project breaks the rule of a kind; too big are the patterns at these places
module _ (environ : Pairs) (wins : Wins) (layout : Layout) (big : List Spot) where
  abbrev pub Breaks : CompileKind → Spot → Type 0
  Breaks kind.Syntax s = Contains (fault_spots fault.Syntax layout) s
  Breaks kind.Unsupported s = Contains (fault_spots fault.Unsupported layout) s
  Breaks kind.Depth s = Contains (fault_spots fault.Depth layout) s
  Breaks kind.SourceLimit s = Contains (source_limit_spots layout) s
  Breaks kind.ShellExpansion s = Contains (shell_expansion_spots environ layout) s
  Breaks kind.UnknownSetting s = Contains (unknown_setting_spots layout) s
  Breaks kind.DuplicateSetting s = Contains (duplicate_setting_spots layout) s
  Breaks kind.UnknownAttribute s = Contains (unknown_attribute_spots layout) s
  Breaks kind.DuplicateAttribute s = Contains (duplicate_attribute_spots environ layout) s
  Breaks kind.AttributeConflict s = Contains (attribute_conflict_spots layout) s
  Breaks kind.DuplicateRecipe s = Contains (duplicate_recipe_spots wins layout) s
  Breaks kind.DuplicateVariable s = Contains (duplicate_variable_spots wins layout) s
  Breaks kind.DuplicateAlias s = Contains (duplicate_alias_spots layout) s
  Breaks kind.DuplicateParameter s = Contains (duplicate_parameter_spots layout) s
  Breaks kind.RequiredParameterFollowsDefault s = Contains (required_parameter_spots environ layout) s
  Breaks kind.UndefinedVariable s = Contains (undefined_variable_spots wins layout) s
  Breaks kind.UnknownAliasTarget s = Contains (unknown_alias_target_spots wins layout) s
  Breaks kind.UnknownDependency s = Contains (unknown_dependency_spots wins layout) s
  Breaks kind.DependencyArgumentCount s = Contains (dependency_argument_count_spots (meant environ) wins layout) s
  Breaks kind.DependencyIsOption s = Contains (dependency_is_option_spots (meant environ) wins layout) s
  Breaks kind.CircularVariable s = IsCircularVariable wins layout s
  Breaks kind.CircularRecipe s = IsCircularRecipe wins layout s
  Breaks kind.UnknownArgParameter s = Contains (unknown_arg_parameter_spots environ layout) s
  Breaks kind.ArgumentPatternRegex s = Contains (unread_pattern_spots environ layout) s
  Breaks kind.ArgumentPatternSize s = Contains big s
  Breaks kind.GuardAndInfallible s = Contains (guard_and_infallible_spots layout) s
  Breaks kind.DuplicateDefault s = Contains (default_recipe_spots wins layout) s

-- the first broken rule of a project, where one file wins over another where `wins` says so; which patterns are too big is the library's answer
unfoldable pub IsFirstRule : Pairs → Wins → Layout → Option Broken → Type 0
IsFirstRule environ wins layout answer =
    (big : List Spot) × AreTooBig (all_patterns environ layout) big × IsFirstBroken (Breaks environ wins layout big) kinds answer

-- ---- parts of these, as they are asked

-- the first broken rule of those behind the rules in front
unfoldable pub IsFirstFurther : Pairs → Wins → Layout → Option Broken → Type 0
IsFirstFurther environ wins layout answer =
    (big : List Spot) × AreTooBig (all_patterns environ layout) big × IsFirstBroken (Breaks environ wins layout big) (kinds_on_names ++ (kinds_on_cycles ++ kinds_behind)) answer

-- of those on cycles, which patterns and the environment have no part in
unfoldable pub IsFirstCircular : Wins → Layout → Option Broken → Type 0
IsFirstCircular wins layout answer = (environ : Pairs) (big : List Spot) → IsFirstBroken (Breaks environ wins layout big) kinds_on_cycles answer

abbrev pub rules_on_variables : Wins → Layout → List Asked
rules_on_variables wins layout =
    (kind.UndefinedVariable, undefined_variable_spots wins layout)
    ∷ (kind.UnknownAliasTarget, unknown_alias_target_spots wins layout)
    ∷ (kind.UnknownDependency, unknown_dependency_spots wins layout) ∷ []

abbrev pub rules_on_arities : Pairs → Wins → Layout → List Asked
rules_on_arities environ wins layout =
    (kind.DependencyArgumentCount, dependency_argument_count_spots (meant environ) wins layout)
    ∷ (kind.DependencyIsOption, dependency_is_option_spots (meant environ) wins layout) ∷ []

abbrev pub rules_on_names : Pairs → Wins → Layout → List Asked
rules_on_names environ wins layout = rules_on_variables wins layout ++ rules_on_arities environ wins layout
