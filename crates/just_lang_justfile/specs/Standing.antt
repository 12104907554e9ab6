-- The recipes, the variables and the absent modules of a module.
use Rattle.std.specs.Prelude.{ℕ, List, map, filter, filter_map}
use Rattle.just_lang_syntax.specs.declared.ast.AstItem.{AstItem}
use Rattle.just_lang_layout.specs.declared.layout.File.{File}
use Rattle.just_lang_layout.specs.declared.layout.Module.{Module}
use Rattle.just_lang_layout.specs.Items.{item_at}
use Rattle.just_lang_spots.specs.Items.{item_name, is_recipe_here, is_assignment}
use Rattle.just_lang_spots.specs.Standing.{Wins, standing}

-- the recipes that stand: of each name the last one of this platform that no importing file's beats
abbrev pub standing_recipes : Wins → List (ℕ × AstItem) → List (ℕ × AstItem)
standing_recipes wins items = standing item_name wins (filter is_recipe_here items)

-- the variables that stand
abbrev pub standing_variables : Wins → List (ℕ × AstItem) → List (ℕ × AstItem)
standing_variables wins items = standing item_name wins (filter is_assignment items)

-- the names that items give
abbrev pub names_of : List (ℕ × AstItem) → List (List ℕ)
names_of items = map (λ x. item_name x.1) items

-- the names of the modules that may be missing and are
abbrev pub absent_names : List File → Module → List (List ℕ)
absent_names files m = names_of (filter_map (item_at files) m.absent)
