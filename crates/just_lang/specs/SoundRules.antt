-- The rules that a layout has to break nowhere for its justfile to be sound.
use Rattle.std.specs.Prelude.{◌≡◌, ℕ, List, [], map, Option}
use Rattle.std.specs.List.{flat_map}
use Rattle.just_lang_syntax.specs.declared.ast.AstItem.{AstItem}
use Rattle.just_lang_syntax.specs.declared.ast.StringLiteral.{StringLiteral}
use Rattle.just_lang_layout.specs.declared.layout.Layout.{Layout}
use Rattle.just_lang_layout.specs.declared.layout.Module.{Module}
use Rattle.just_lang_layout.specs.Items.{items_of_files, items_of_module}
use Rattle.just_lang_spots.specs.declared.spot.Spot.{Spot}
use Rattle.just_lang_spots.specs.Repeated.{repeated}
use Rattle.just_lang_spots.specs.Standing.{Wins}
use Rattle.just_lang_rules.specs.AttributeSpots.{duplicate_attribute_of}
use Rattle.just_lang_rules.specs.ParameterSpots.{parameter_name, parameters_of, required_follows_of}
use Rattle.just_lang_rulebook.specs.DuplicateSpots.{duplicate_aliases}
use Rattle.just_lang_names.specs.ScopeSpots.{undefined_variable_spots}
use Rattle.just_lang_names.specs.TargetSpots.{dependency_argument_count_spots, dependency_is_option_spots}

-- the parameters whose names another one before them has
abbrev pub duplicate_parameters : Layout → List Spot
duplicate_parameters layout = flat_map (λ (x : ℕ × AstItem). repeated (map (parameter_name x.0) (parameters_of x.1))) (items_of_files layout.files)

-- the attributes whose names, or of `arg` whose parameters, another one before them has
abbrev pub duplicate_attributes : (StringLiteral → Option (List ℕ)) → Layout → List Spot
duplicate_attributes text_of layout = flat_map (λ (x : ℕ × AstItem). duplicate_attribute_of text_of x.0 x.1) (items_of_files layout.files)

-- the parameters that want a value, are no options and stand behind one with a default
abbrev pub misplaced_parameters : (StringLiteral → Option (List ℕ)) → Layout → List Spot
misplaced_parameters text_of layout = flat_map (λ (x : ℕ × AstItem). required_follows_of text_of x.0 x.1) (items_of_files layout.files)

-- the aliases whose names another one before them in their module has
abbrev pub repeated_aliases : Layout → List Spot
repeated_aliases layout = flat_map (λ (m : Module). duplicate_aliases (items_of_module layout.files m)) layout.modules

pub record BreaksNoRule (text_of : StringLiteral → Option (List ℕ)) (wins : Wins) (layout : Layout) : Type 0 where
  pub aliases : repeated_aliases layout ≡ []
  pub attributes : duplicate_attributes text_of layout ≡ []
  pub parameters : duplicate_parameters layout ≡ []
  pub order : misplaced_parameters text_of layout ≡ []
  pub variables : undefined_variable_spots wins layout ≡ []
  pub counts : dependency_argument_count_spots text_of wins layout ≡ []
  pub options : dependency_is_option_spots text_of wins layout ≡ []
