-- The paths of a project's public recipes.
use Rattle.std.specs.Prelude.{◌≡◌, ℕ, Bool, List, [], ◌∷◌, ◌++◌, map, codes}
use Rattle.std.specs.List.{flat_map}
use Rattle.just_print.specs.Printed.{newline, separated}
use Rattle.just_print_lists.specs.declared.listed.ListedRecipe.{ListedRecipe}
use Rattle.just_print_lists.specs.declared.listed.ListedModule.{ListedModule}
use Rattle.just_print_lists.specs.Listed.{name_of, path_of, is_private, recipes_of, modules_of}
use Rattle.just_print_lists.specs.Groups.{public_in_order}

-- the public recipes and the public modules of a module, by their names or in the order of the sources
abbrev pub public_recipes : Bool → ListedModule → List ListedRecipe
public_recipes unsorted m = public_in_order (λ (r : ListedRecipe). r.name) (λ (r : ListedRecipe). r.private) unsorted (recipes_of m)

abbrev pub public_modules : Bool → ListedModule → List ListedModule
public_modules unsorted m = public_in_order name_of is_private unsorted (modules_of m)

-- The modules `all` are these and the public ones within them, each before those within it.
pub data AreInTurn (unsorted : Bool) : List ListedModule → List ListedModule → Type 0 where
  none : AreInTurn unsorted [] []
  first : (m : ListedModule) (ms all : List ListedModule) → AreInTurn unsorted (public_modules unsorted m ++ ms) all → AreInTurn unsorted (m ∷ ms) (m ∷ all)

-- names, each with `::` behind it
abbrev pub front_of : List (List ℕ) → List ℕ
front_of names = flat_map (λ n. n ++ codes "::") names

-- the path of a recipe of that name in a module
abbrev pub path_within : ListedModule → List ℕ → List ℕ
path_within m name = front_of (path_of m).components ++ name

-- the paths of a module's own public recipes
abbrev pub paths_of : Bool → ListedModule → List (List ℕ)
paths_of unsorted m = map (λ (r : ListedRecipe). path_within m r.name) (public_recipes unsorted m)

-- the paths of a project's public recipes: a module's own before those of the modules within it
abbrev pub ArePaths : Bool → ListedModule → List (List ℕ) → Type 0
ArePaths unsorted root paths = (all : List ListedModule) × AreInTurn unsorted (root ∷ []) all × (paths ≡ flat_map (paths_of unsorted) all)

-- texts on a line, with blanks between them
abbrev pub joined_line : List (List ℕ) → List ℕ
joined_line texts = separated (codes " ") texts ++ newline
