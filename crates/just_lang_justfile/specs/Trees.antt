-- The justfile of a layout: a tree of modules.
use Rattle.std.specs.Prelude.{◌≡◌, ℕ, Bool, true, false, if◌then◌else◌, List, [], ◌∷◌, map, Option, Some, None, All, bytes_eq}
use Rattle.std.specs.List.{enumerate_from, AllZip}
use Rattle.std.specs.Option.{option_map_or}
use Rattle.std.specs.Cmp.Lexicographic.{pointwise}
use Rattle.just_lang_syntax.specs.declared.ast.StringLiteral.{StringLiteral}
use Rattle.just_lang_types.specs.declared.project.Justfile.{Justfile}
use Rattle.just_lang_layout.specs.declared.layout.Layout.{Layout}
use Rattle.just_lang_layout.specs.declared.layout.Module.{Module}
use Rattle.just_lang_spots.specs.Standing.{Wins}
use Rattle.just_lang_types.specs.Modules.{path_of, modules_of, AreModules}
use Rattle.just_lang_justfile.specs.Links.{Links}
use Rattle.just_lang_justfile.specs.Modules.{IsModuleOf}

-- ---- paths

abbrev pub front : List ℕ → List (List ℕ) → List (List ℕ)
front x [] = []
front x (y ∷ ys) = x ∷ front y ys

-- a path without its last name; the root's has none
abbrev pub without_last : List (List ℕ) → Option (List (List ℕ))
without_last [] = None
without_last (x ∷ xs) = Some (front x xs)

-- whether a path has one name more than another, behind it
abbrev pub is_within : List (List ℕ) → List (List ℕ) → Bool
is_within path inner = option_map_or (pointwise bytes_eq path) (without_last inner) false

-- whether the first of some paths is directly within one
abbrev pub is_first_within : List (List ℕ) → List (List (List ℕ)) → Bool
is_first_within path [] = false
is_first_within path (p ∷ ps) = is_within path p

-- the paths behind those directly within one
abbrev pub behind_those_within : List (List ℕ) → List (List (List ℕ)) → List (List (List ℕ))
behind_those_within path [] = []
behind_those_within path (p ∷ ps) = if is_within path p then behind_those_within path ps else p ∷ ps

-- the paths of the modules that stand in none of these, where each stands before those within it
abbrev pub outermost : List Module → List (List (List ℕ))
outermost [] = []
outermost (m ∷ ms) = m.path.components ∷ behind_those_within m.path.components (outermost ms)

-- ---- the justfile

abbrev pub paths_of : List Justfile → List (List (List ℕ))
paths_of js = map (λ (j : Justfile). (path_of j).components) js

-- the modules within one are directly within its path
abbrev pub IsAround : Justfile → Type 0
IsAround j = All (λ (inner : Justfile). is_within (path_of j).components (path_of inner).components ≡ true) (modules_of j)

-- these are the justfiles of modules of these numbers
abbrev pub AreModulesOf : (StringLiteral → Option (List ℕ)) → Links → Wins → Layout → List (ℕ × Module) → List Justfile → Type 0
AreModulesOf text_of links wins layout = AllZip (λ (x : ℕ × Module) (j : Justfile). IsModuleOf text_of links wins layout.files x.0 x.1 j × IsAround j)

-- the justfile of a layout: it and the modules within it, each before those within it, are the modules of the layout, one for one
pub record IsJustfileOf (text_of : StringLiteral → Option (List ℕ)) (links : Links) (wins : Wins) (layout : Layout) (j : Justfile) : Type 0 where
  pub all : List Justfile
  pub in_order : AreModules (j ∷ []) all
  pub each : AreModulesOf text_of links wins layout (enumerate_from 0 layout.modules) all
