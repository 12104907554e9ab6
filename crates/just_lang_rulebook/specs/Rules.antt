-- The rules on single items and on the items of a module, in the order in which they are asked, each with its places in a project.
use Rattle.std.specs.Prelude.{ℕ, List, [], ◌∷◌, ◌++◌, map, filter, length}
use Rattle.std.specs.List.{flat_map}
use Rattle.just_lang_syntax.specs.declared.ast.AstItem.{AstItem}
use Rattle.just_lang_syntax.specs.declared.error.FaultKind.TheVariants as fault
use Rattle.just_lang_types.specs.declared.error.CompileKind.TheVariants as kind
use Rattle.just_lang_layout.specs.declared.layout.Layout.{Layout}
use Rattle.just_lang_layout.specs.Items.{items_of_files, items_of_module}
use Rattle.just_lang_layout.specs.Paths.{Pairs}
use Rattle.just_lang_spots.specs.declared.spot.Spot.{Spot}
use Rattle.just_lang_spots.specs.Items.{item_name, is_recipe_here}
use Rattle.just_lang_spots.specs.Repeated.{repeated}
use Rattle.just_lang_spots.specs.Standing.{Wins, standing}
use Rattle.just_lang_rules.specs.FaultSpots.{source_limit_spot}
use Rattle.just_lang_rules.specs.Expansions.{expansion_spots_of}
use Rattle.just_lang_rules.specs.Literals.{literals_of}
use Rattle.just_lang_rules.specs.SettingSpots.{unknown_setting_of, duplicate_setting_spots as duplicate_settings}
use Rattle.just_lang_rules.specs.AttributeSpots.{unknown_attribute_of, duplicate_attribute_of, conflict_of, unknown_args_of}
use Rattle.just_lang_rulebook.specs.DuplicateSpots.{duplicate_recipes, duplicate_variables, duplicate_aliases}
use Rattle.just_lang_rules.specs.ParameterSpots.{parameter_name, parameters_of, required_follows_of}
use Rattle.just_lang_rules.specs.DefaultSpots.{duplicate_default_spots}
use Rattle.just_lang_rules.specs.ConstantTexts.{variables_of}
use Rattle.just_lang_rulebook.specs.GuardSpots.{guard_spots_among}
use Rattle.just_lang_rulebook.specs.Patterns.{patterns_of, unread_spots}
use Rattle.just_lang_rulebook.specs.Faults.{fault_spots}
use Rattle.just_lang_rulebook.specs.First.{Asked}
use Rattle.just_lang_rulebook.specs.Meant.{meant}

-- what the items of all files give
abbrev pub of_items : {A : Type 0} → (ℕ → AstItem → List A) → Layout → List A
of_items f layout = flat_map (λ x. f x.0 x.1) (items_of_files layout.files)

-- what the items of each module give
abbrev pub of_modules : {A : Type 0} → (List (ℕ × AstItem) → List A) → Layout → List A
of_modules f layout = flat_map (λ m. f (items_of_module layout.files m)) layout.modules

-- the attributes `default` but the first, among the recipes that stand in a module
abbrev pub standing_default_spots : Wins → List (ℕ × AstItem) → List Spot
standing_default_spots wins items = duplicate_default_spots (standing item_name wins (filter is_recipe_here items))

-- ---- the places of each rule

-- the beginning of the first file behind 4,096 others
unfoldable pub source_limit_spots : Layout → List Spot
source_limit_spots layout = source_limit_spot (length layout.files)

unfoldable pub shell_expansion_spots : Pairs → Layout → List Spot
shell_expansion_spots environ layout = of_items (λ file x. expansion_spots_of (meant environ) file (literals_of x)) layout

unfoldable pub unknown_setting_spots : Layout → List Spot
unknown_setting_spots layout = of_items unknown_setting_of layout

unfoldable pub duplicate_setting_spots : Layout → List Spot
duplicate_setting_spots layout = of_modules duplicate_settings layout

unfoldable pub unknown_attribute_spots : Layout → List Spot
unknown_attribute_spots layout = of_items unknown_attribute_of layout

unfoldable pub duplicate_attribute_spots : Pairs → Layout → List Spot
duplicate_attribute_spots environ layout = of_items (duplicate_attribute_of (meant environ)) layout

unfoldable pub attribute_conflict_spots : Layout → List Spot
attribute_conflict_spots layout = of_items conflict_of layout

unfoldable pub duplicate_recipe_spots : Wins → Layout → List Spot
duplicate_recipe_spots wins layout = of_modules (duplicate_recipes wins) layout

unfoldable pub duplicate_variable_spots : Wins → Layout → List Spot
duplicate_variable_spots wins layout = of_modules (duplicate_variables wins) layout

unfoldable pub duplicate_alias_spots : Layout → List Spot
duplicate_alias_spots layout = of_modules duplicate_aliases layout

unfoldable pub duplicate_parameter_spots : Layout → List Spot
duplicate_parameter_spots layout = of_items (λ file x. repeated (map (parameter_name file) (parameters_of x))) layout

unfoldable pub required_parameter_spots : Pairs → Layout → List Spot
required_parameter_spots environ layout = of_items (required_follows_of (meant environ)) layout

unfoldable pub unknown_arg_parameter_spots : Pairs → Layout → List Spot
unknown_arg_parameter_spots environ layout = of_items (unknown_args_of (meant environ)) layout

unfoldable pub unread_pattern_spots : Pairs → Layout → List Spot
unread_pattern_spots environ layout = of_items (λ file x. unread_spots (patterns_of (meant environ) file x)) layout

unfoldable pub guard_and_infallible_spots : Layout → List Spot
guard_and_infallible_spots layout = of_modules guard_spots_among layout

unfoldable pub default_recipe_spots : Wins → Layout → List Spot
default_recipe_spots wins layout = of_modules (standing_default_spots wins) layout

-- the names in constant texts that aren't constants
unfoldable pub not_constant_spots : Layout → List Spot
not_constant_spots layout = of_items variables_of layout

-- the patterns of all parameters, each with its place
unfoldable pub all_patterns : Pairs → Layout → List (List ℕ × Spot)
all_patterns environ layout = of_items (patterns_of (meant environ)) layout

-- ---- the rules in their order

abbrev pub rules_on_files : Layout → List Asked
rules_on_files layout =
    (kind.Syntax, fault_spots fault.Syntax layout)
    ∷ (kind.Unsupported, fault_spots fault.Unsupported layout)
    ∷ (kind.Depth, fault_spots fault.Depth layout)
    ∷ (kind.SourceLimit, source_limit_spots layout) ∷ []

abbrev pub rules_on_attributes : Pairs → Layout → List Asked
rules_on_attributes environ layout =
    (kind.ShellExpansion, shell_expansion_spots environ layout)
    ∷ (kind.UnknownSetting, unknown_setting_spots layout)
    ∷ (kind.DuplicateSetting, duplicate_setting_spots layout)
    ∷ (kind.UnknownAttribute, unknown_attribute_spots layout)
    ∷ (kind.DuplicateAttribute, duplicate_attribute_spots environ layout)
    ∷ (kind.AttributeConflict, attribute_conflict_spots layout) ∷ []

abbrev pub rules_on_duplicates : Pairs → Wins → Layout → List Asked
rules_on_duplicates environ wins layout =
    (kind.DuplicateRecipe, duplicate_recipe_spots wins layout)
    ∷ (kind.DuplicateVariable, duplicate_variable_spots wins layout)
    ∷ (kind.DuplicateAlias, duplicate_alias_spots layout)
    ∷ (kind.DuplicateParameter, duplicate_parameter_spots layout)
    ∷ (kind.RequiredParameterFollowsDefault, required_parameter_spots environ layout) ∷ []

-- the rules in front of those on the names that are used
abbrev pub rules_in_front : Pairs → Wins → Layout → List Asked
rules_in_front environ wins layout = rules_on_files layout ++ (rules_on_attributes environ layout ++ rules_on_duplicates environ wins layout)

-- the rules behind those, up to the size of patterns, and behind it
abbrev pub rules_on_arguments : Pairs → Layout → List Asked
rules_on_arguments environ layout =
    (kind.UnknownArgParameter, unknown_arg_parameter_spots environ layout)
    ∷ (kind.ArgumentPatternRegex, unread_pattern_spots environ layout) ∷ []

abbrev pub rules_on_bodies : Wins → Layout → List Asked
rules_on_bodies wins layout =
    (kind.GuardAndInfallible, guard_and_infallible_spots layout)
    ∷ (kind.DuplicateDefault, default_recipe_spots wins layout) ∷ []
