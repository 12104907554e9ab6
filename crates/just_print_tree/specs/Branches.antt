-- A project as listings show it: the modules of its layout beside those of its justfile, as a tree.
use Rattle.std.specs.Prelude.{◌≡◌, ℕ, Bool, false, not, List, [], ◌∷◌, ◌++◌, map, filter, filter_map, length, Option, Some, None}
use Rattle.std.specs.Option.{option_and_then}
use Rattle.just_lang_syntax.specs.declared.ast.AstItem.{AstItem}
use Rattle.just_lang_syntax.specs.declared.ast.AstItem.TheVariants as item
use Rattle.just_lang_syntax.specs.declared.ast.StringLiteral.{StringLiteral}
use Rattle.just_lang_types.specs.declared.project.Justfile.{Justfile, out-Justfile}
use Rattle.just_lang_types.specs.Modules.{modules_of, AreModules}
use Rattle.just_lang_layout.specs.declared.layout.File.{File}
use Rattle.just_lang_layout.specs.declared.layout.Layout.{Layout}
use Rattle.just_lang_layout.specs.declared.layout.Module.{Module}
use Rattle.just_lang_layout.specs.Items.{items_of_module}
use Rattle.just_lang_spots.specs.declared.spot.Spot.{Spot}
use Rattle.just_lang_spots.specs.Standing.{Wins}
use Rattle.just_lang_shapes.specs.Attributes.{is_private}
use Rattle.just_lang_justfile.specs.Declarations.{declaration_of}
use Rattle.just_print_lists.specs.declared.listed.ListedModule.{ListedModule, out-ListedModule}
use Rattle.just_print_lists.specs.Listed.{modules_of as inner_of, is_private as is_left_out}
use Rattle.just_print_tree.specs.Told.{ToldRecipe, told_of, told_each, enabled}
use Rattle.just_print_tree.specs.Names.{listed_recipes, listed_aliases}
use Rattle.just_print_tree.specs.Groups.{spot_in, recipe_spots, groups_among}

-- the last name of a path; the root's has none
abbrev pub last_name : List (List ℕ) → List ℕ
last_name [] = []
last_name (x ∷ []) = x
last_name (x ∷ y ∷ ys) = last_name (y ∷ ys)

-- whether listings leave out the module that a `mod` names
abbrev pub is_hidden : Option (ℕ × AstItem) → Bool
is_hidden None = false
is_hidden (Some (n, item.Module attributes optional name path comment)) = is_private attributes name.text
is_hidden (Some (n, item.Blank)) = false
is_hidden (Some (n, item.Comment text)) = false
is_hidden (Some (n, item.Alias name path comment)) = false
is_hidden (Some (n, item.Import optional path comment)) = false
is_hidden (Some (n, item.Assignment export name value comment)) = false
is_hidden (Some (n, item.Unexport name comment)) = false
is_hidden (Some (n, item.Setting name value comment)) = false
is_hidden (Some (n, item.Recipe r)) = false

-- ---- branches

-- a module of the layout, its justfile, and what listings show of it
pub record Branch : Type 0 where
  pub laid : Module
  pub justfile : Justfile
  pub listed : ListedModule

-- the places of the names of the public ones among modules
abbrev pub module_spots : List File → List Branch → List Spot
module_spots files bs = filter_map (λ (b : Branch). option_and_then spot_in (declaration_of files b.laid)) (filter (λ (b : Branch). not (is_left_out b.listed)) bs)

-- what listings show of a module, by its recipes, each beside what is written of it, and the places of the public modules within it
pub record IsListed (text_of : StringLiteral → Option (List ℕ)) (files : List File) (all : List (List ToldRecipe)) (own : List ToldRecipe) (within : List Spot) (m : Module) (j : Justfile) (l : ListedModule) : Type 0 where
  pub name : (out-ListedModule l).name ≡ last_name m.path.components
  pub path : (out-ListedModule l).path ≡ m.path
  pub doc : (out-ListedModule l).doc ≡ (out-Justfile j).doc
  pub groups : (out-ListedModule l).groups ≡ (out-Justfile j).groups
  pub private : (out-ListedModule l).private ≡ is_hidden (declaration_of files m)
  pub recipes : (out-ListedModule l).recipes ≡ listed_recipes text_of j own
  pub aliases : (out-ListedModule l).aliases ≡ listed_aliases all m.path (out-Justfile j).recipe_aliases
  pub named_groups : (out-ListedModule l).named_groups ≡ groups_among text_of (within ++ recipe_spots (enabled j own)) (items_of_module files m)

module _ (text_of : StringLiteral → Option (List ℕ)) (wins : Wins) (files : List File) (all : List (List ToldRecipe)) where
  -- what listings show of a branch, with those directly within it
  pub record IsBranch (b : Branch) (inner : List Branch) : Type 0 where
    pub justfiles : modules_of b.justfile ≡ map (λ (i : Branch). i.justfile) inner
    pub modules : inner_of b.listed ≡ map (λ (i : Branch). i.listed) inner
    pub listed : IsListed text_of files all (told_of wins files b.laid b.justfile) (module_spots files inner) b.laid b.justfile b.listed

-- The modules of a layout, in their order, are those of these branches and of those within them, each before those within it.
pub data AreListed (text_of : StringLiteral → Option (List ℕ)) (wins : Wins) (files : List File) (all : List (List ToldRecipe)) : List Module → List Branch → Type 0 where
  none : AreListed text_of wins files all [] []
  first : (b : Branch) (inner bs : List Branch) (ms : List Module) → IsBranch text_of wins files all b inner → AreListed text_of wins files all ms (inner ++ bs) → AreListed text_of wins files all (b.laid ∷ ms) (b ∷ bs)

-- what listings show of the project that has this layout and this justfile
pub record IsTreeOf (text_of : StringLiteral → Option (List ℕ)) (wins : Wins) (layout : Layout) (j : Justfile) (l : ListedModule) : Type 0 where
  pub modules : List Justfile
  pub in_order : AreModules (j ∷ []) modules
  pub root : Branch
  pub justfile : root.justfile ≡ j
  pub listed : root.listed ≡ l
  pub within : AreListed text_of wins layout.files (told_each wins layout.files layout.modules modules) layout.modules (root ∷ [])

-- a layout has as many modules as a justfile
abbrev pub HasModulesOf : List Module → Justfile → Type 0
HasModulesOf ms j = (all : List Justfile) × AreModules (j ∷ []) all × (length all ≡ length ms)
