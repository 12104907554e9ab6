-- Recipes and aliases that can't be run, since they depend on modules that aren't there.
use Rattle.std.specs.Prelude.{ℕ, ◌&&◌, ◌||◌, not, Bool, true, false, is_some, if◌then◌else◌, List, [], ◌∷◌, ◌++◌, map, filter_map, slice_get, get_or, Option, Some, None}
use Rattle.std.specs.Option.{option_map_or}
use Rattle.just_lang_syntax.specs.declared.ast.AstDependency.{AstDependency}
use Rattle.just_lang_syntax.specs.declared.ast.Name.{Name}
use Rattle.just_lang_spots.specs.Origins.{AreOrigins}
use Rattle.just_lang_layout.specs.declared.layout.Layout.{Layout}
use Rattle.just_lang.specs.Cycles.{Standing, all_recipes, recipe_graph, dependencies_of, place_of_target}
use Rattle.just_lang_names.specs.Lookup.{child, is_absent, recipe_named, alias_target}
use Rattle.just_lang_spots.specs.Repeated.{is_among}
use Rattle.just_lang_spots.specs.Standing.{Wins}

-- ---- names of modules that aren't there

abbrev pub if_absent : Name → Bool → Option (List ℕ)
if_absent n is_it = if is_it then Some n.text else None

module _ (last : ℕ → Name → Option (List ℕ)) (layout : Layout) where
  -- behind a name: what follows, where it is a module's; else that name, where it is that of one that isn't there
  abbrev pub absent_behind : (ℕ → Option (List ℕ)) → Name → ℕ → Option ℕ → Option (List ℕ)
  absent_behind further n m (Some k) = further k
  absent_behind further n m None = if_absent n (is_absent layout m n.text)

  abbrev pub absent_with : List Name → ℕ → Option (List ℕ)
  absent_with [] m = None
  absent_with (n ∷ []) m = last m n
  absent_with (n ∷ n' ∷ names) m = absent_behind (absent_with (n' ∷ names)) n m (child layout m n.text)

-- the name of the module that a dependency's path goes through and that isn't there
abbrev pub absent_of_dependency : Layout → ℕ → List Name → Option (List ℕ)
absent_of_dependency layout m names = absent_with (λ m n. None) layout names m

-- an alias's path may also end in one; a recipe or a module of its name goes before
abbrev pub absent_end : Wins → Layout → ℕ → Name → Option (List ℕ)
absent_end wins layout m n =
    if_absent n (not (is_some (recipe_named wins layout m n.text) || is_some (child layout m n.text)) && is_absent layout m n.text)

abbrev pub absent_of_alias : Wins → Layout → ℕ → List Name → Option (List ℕ)
absent_of_alias wins layout m names = absent_with (absent_end wins layout) layout names m

-- ---- recipes

-- each text once, in the order of its first place; `before` are those that stand in front
abbrev pub each_once : List (List ℕ) → List (List ℕ) → List (List ℕ)
each_once before [] = []
each_once before (x ∷ xs) = if is_among x before then each_once (before ++ x ∷ []) xs else x ∷ each_once (before ++ x ∷ []) xs

-- the modules that aren't there among those that a recipe's own dependencies go through
abbrev pub own_absent : Layout → Standing → List (List ℕ)
own_absent layout x = each_once [] (filter_map (λ (d : AstDependency). absent_of_dependency layout x.0 d.path) (dependencies_of x.2))

abbrev pub is_filled : {A : Type 0} → List A → Bool
is_filled [] = false
is_filled (x ∷ xs) = true

-- for each recipe the one for whose own modules it can't be run: itself, where it has such modules, else that of the first recipe that it depends on and
-- that can't be run; none where there is no such recipe
abbrev pub AreCauses : Wins → Layout → List (Option ℕ) → Type 0
AreCauses wins layout causes =
    AreOrigins (recipe_graph wins layout) (map (λ x. is_filled (own_absent layout x)) (all_recipes wins layout)) causes

-- the modules of a cause
abbrev pub modules_of_cause : Wins → Layout → Option ℕ → List (List ℕ)
modules_of_cause wins layout None = []
modules_of_cause wins layout (Some n) = option_map_or (own_absent layout) (slice_get (all_recipes wins layout) n) []

-- the modules for which a recipe of that number can't be run; none where it can
abbrev pub modules_of_recipe : Wins → Layout → List (Option ℕ) → ℕ → List (List ℕ)
modules_of_recipe wins layout causes n = modules_of_cause wins layout (get_or causes n None)

-- ---- aliases

abbrev pub modules_of_number : Wins → Layout → List (Option ℕ) → Option ℕ → List (List ℕ)
modules_of_number wins layout causes None = []
modules_of_number wins layout causes (Some n) = modules_of_recipe wins layout causes n

abbrev pub modules_of_end : Wins → Layout → List (Option ℕ) → ℕ → List Name → Option (List ℕ) → List (List ℕ)
modules_of_end wins layout causes m names (Some name) = name ∷ []
modules_of_end wins layout causes m names None = modules_of_number wins layout causes (place_of_target wins layout (alias_target wins layout m names))

-- the modules for which an alias can't be run: the one that its path goes through and that isn't there, else those of its recipe
abbrev pub modules_of_alias : Wins → Layout → List (Option ℕ) → ℕ → List Name → List (List ℕ)
modules_of_alias wins layout causes m names = modules_of_end wins layout causes m names (absent_of_alias wins layout m names)
