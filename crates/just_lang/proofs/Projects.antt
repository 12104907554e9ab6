-- The justfile of sources that break no rule is sound.
use Rattle.std.proofs.Common.{◌≡◌, ℕ, List, [], ◌∷◌, Option, Some, None, refl, arith}
use Rattle.std.specs.Prelude.{slice_get, option_map, Contains}
use Rattle.std.proofs.lemmas.List.Elements.{Contains-append_left, Contains-push}
use Rattle.just_lang_types.specs.declared.recipe.Modulepath.{Modulepath}
use Rattle.just_lang_layout.specs.declared.layout.Layout.{Layout}
use Rattle.just_lang_layout.specs.declared.layout.Module.{Module}
use Rattle.just_lang_layout.specs.Paths.{Pairs}
use Rattle.just_lang_spots.specs.declared.spot.Spot.{Spot}
use Rattle.just_lang_spots.specs.Standing.{Wins}
use Rattle.just_lang_rulebook.specs.Meant.{meant}
use Rattle.just_lang_rulebook.specs.Rules.{duplicate_alias_spots, duplicate_attribute_spots, duplicate_parameter_spots, required_parameter_spots}
use Rattle.just_lang.specs.Cycles.{IsFirstSpot}
use Rattle.just_lang_names.specs.Lookup.{Target, Found_recipe, Found_module, Found_absent, Found_nothing, dependency_target, alias_target}
use Rattle.just_lang_names.specs.ScopeSpots.{undefined_variable_spots}
use Rattle.just_lang_names.specs.TargetSpots.{dependency_argument_count_spots, dependency_is_option_spots}
use Rattle.just_lang_shapes.specs.Recipes.{path_within}
use Rattle.just_lang.specs.Errors.{BreaksNone}
use Rattle.just_lang.proofs.Unbroken.{unbroken}
use Rattle.just_lang.specs.Linked as project
use Rattle.just_lang.specs.SoundLinks.{path_of_target, alias_of_target, recipe_or_nothing, module_or_nothing, AreLinked}
use Rattle.just_lang.specs.SoundProjects.{ProjectsAreSound}
use Rattle.just_lang.specs.SoundRules.{repeated_aliases, duplicate_attributes, duplicate_parameters, misplaced_parameters, BreaksNoRule}
use Rattle.just_lang.proofs.Laws.{sound_of_sources}

module _ (layout : Layout) where
  -- ---- what paths come to

  same_path : (o : Option Module) (name : List ℕ) → option_map (λ (x : Module). path_within x.path name) o ≡ option_map (λ (p : Modulepath). path_within p name) (option_map (λ (x : Module). x.path) o)
  same_path None name = refl
  same_path (Some m) name = refl

  same_recipe : (t : Target) → project.recipe_path layout t ≡ path_of_target layout t
  same_recipe (Found_recipe m file r) = same_path (slice_get layout.modules m) r.name.text
  same_recipe (Found_module m) = refl
  same_recipe Found_absent = refl
  same_recipe (Found_nothing name) = refl

  same_as_recipe : (o : Option Module) (name : List ℕ) → project.as_recipe (option_map (λ (x : Module). path_within x.path name) o) ≡ recipe_or_nothing layout (option_map (λ (p : Modulepath). path_within p name) (option_map (λ (x : Module). x.path) o))
  same_as_recipe None name = refl
  same_as_recipe (Some m) name = refl

  same_as_module : (o : Option Module) → project.as_module (option_map (λ (x : Module). x.path) o) ≡ module_or_nothing layout (option_map (λ (x : Module). x.path) o)
  same_as_module None = refl
  same_as_module (Some m) = refl

  same_alias : (t : Target) → project.linked_target layout t ≡ alias_of_target layout t
  same_alias (Found_recipe m file r) = same_as_recipe (slice_get layout.modules m) r.name.text
  same_alias (Found_module m) = same_as_module (slice_get layout.modules m)
  same_alias Found_absent = refl
  same_alias (Found_nothing name) = refl

  pub linked : (wins : Wins) (causes : List (Option ℕ)) → AreLinked layout wins (project.links_of wins layout causes)
  linked wins causes = record {
    dependencies = λ number path. same_recipe (dependency_target wins layout number path);
    aliases = λ number path. same_alias (alias_target wins layout number path);
  }

-- ---- rules that are broken nowhere

none_at_all : (xs : List Spot) → IsFirstSpot (λ s. Contains xs s) None → xs ≡ []
unfolding IsFirstSpot
none_at_all [] h = refl
none_at_all (x ∷ xs) h = absurd (h x (Contains-append_left (x ∷ []) xs x (Contains-push [] x)))

module _ (environ : Pairs) (wins : Wins) (layout : Layout) (none : BreaksNone environ wins layout) where
  aliases_once : repeated_aliases layout ≡ []
  unfolding duplicate_alias_spots
  aliases_once = none_at_all (repeated_aliases layout) (unbroken environ wins layout none 12 (omega arith))

  parameters_once : duplicate_parameters layout ≡ []
  unfolding duplicate_parameter_spots
  parameters_once = none_at_all (duplicate_parameters layout) (unbroken environ wins layout none 13 (omega arith))

  attributes_once : duplicate_attributes (meant environ) layout ≡ []
  unfolding duplicate_attribute_spots
  attributes_once = none_at_all (duplicate_attributes (meant environ) layout) (unbroken environ wins layout none 8 (omega arith))

  in_order : misplaced_parameters (meant environ) layout ≡ []
  unfolding required_parameter_spots
  in_order = none_at_all (misplaced_parameters (meant environ) layout) (unbroken environ wins layout none 14 (omega arith))

  names_known : undefined_variable_spots wins layout ≡ []
  names_known = none_at_all (undefined_variable_spots wins layout) (unbroken environ wins layout none 15 (omega arith))

  counts_fit : dependency_argument_count_spots (meant environ) wins layout ≡ []
  counts_fit = none_at_all (dependency_argument_count_spots (meant environ) wins layout) (unbroken environ wins layout none 18 (omega arith))

  no_options : dependency_is_option_spots (meant environ) wins layout ≡ []
  no_options = none_at_all (dependency_is_option_spots (meant environ) wins layout) (unbroken environ wins layout none 19 (omega arith))

  pub breaks_none : BreaksNoRule (meant environ) wins layout
  breaks_none = record { aliases = aliases_once; attributes = attributes_once; parameters = parameters_once; order = in_order; variables = names_known; counts = counts_fit; options = no_options }

pub projects_are_sound : ProjectsAreSound
projects_are_sound sources environ j made =
    let wins = made.made.wins in
    let causes = made.made.made.causes in
    sound_of_sources sources environ (meant environ) (project.links_of wins made.layout causes) wins made.layout j made.layout_is (linked made.layout wins causes) (breaks_none environ wins made.layout made.made.none_broken) made.made.made.justfile
