-- What the tables give is what the modules give.
use Rattle.std.proofs.Common.{rules, ◌≡◌, ◌∙◌, ℕ, ap, map}
use Rattle.std.specs.List.{flat_map}
use Rattle.just_lang_layout.specs.declared.layout.Module.{Module}
use Rattle.just_lang_names.specs.Standing.{standing_recipe_items}
use Rattle.just_lang_spots.specs.Entries.{entries}
use Rattle.just_lang_names.specs.declared.names.ModuleNames.{ModuleNames}
use Rattle.just_lang_names.specs.Names.{layout_of, wins_of}
use Rattle.just_lang_names.specs.TargetSpots.{dependencies_in}
use Rattle.just_lang_names.specs.Targets.{dependency_of, dependencies_of}
use Rattle.just_lang_names.proofs.TableLaws.{given_same}
use Rattle.just_lang_names.proofs.listed.all_dependencies.Goals as goal

pub returns : goal.returns
returns c =
    let names = c.args.names.now in
    let listed : map dependency_of c.in_ok-list.list.items ≡ dependencies_of names.modules.items = search rules in
    listed ∙ given_same (λ (x : ℕ × Module). flat_map (dependencies_in x.0) (standing_recipe_items (wins_of names) (layout_of names).files x.1)) (λ (x : ℕ × ModuleNames). flat_map (dependencies_in x.0) (entries x.1.recipes.items)) (wins_of names) (layout_of names).files
    (λ k m n h. ap (flat_map (dependencies_in k)) h.recipes_are) 0 (layout_of names).modules names.modules.items c.requires.modules_are
