-- Where in a project stands what a command asks for.
use Rattle.std.specs.Prelude.{ℕ, if◌then◌else◌, List, [], ◌∷◌, filter_map, find, Option, Some, None, bytes_eq}
use Rattle.std.specs.Option.{option_and_then}
use Rattle.just_lang_syntax.specs.declared.ast.AstItem.{AstItem}
use Rattle.just_lang_syntax.specs.declared.ast.AstItem.TheVariants as item
use Rattle.just_lang_syntax.specs.declared.ast.Name.{Name}
use Rattle.just_lang_types.specs.declared.recipe.Modulepath.{Modulepath}
use Rattle.just_lang_types.specs.Keys.{same_path}
use Rattle.just_lang_layout.specs.declared.layout.Layout.{Layout}
use Rattle.just_lang_layout.specs.declared.layout.Module.{Module}
use Rattle.just_lang_layout.specs.Items.{items_of_module}
use Rattle.just_print_lists.specs.declared.listed.ListedModule.{ListedModule}
use Rattle.just_print_lists.specs.Listed.{name_of, modules_of}

-- ---- in the tree of listings

abbrev pub listed_within : ListedModule → List ℕ → Option ListedModule
listed_within l name = find (λ (inner : ListedModule). bytes_eq (name_of inner) name) (modules_of l)

-- what listings show of the module that names lead to
abbrev pub listed_at : List (List ℕ) → ListedModule → Option ListedModule
listed_at [] l = Some l
listed_at (name ∷ names) l = option_and_then (listed_at names) (listed_within l name)

-- ---- in the layout

-- the module of a path
abbrev pub laid_at : Layout → Modulepath → Option Module
laid_at layout path = find (λ (m : Module). same_path m.path path) layout.modules

-- the target of the alias of that name, as its file has it
abbrev pub target_in : List ℕ → ℕ × AstItem → Option (List Name)
target_in alias (n, item.Alias name target comment) = if bytes_eq name.text alias then Some target else None
target_in alias (n, item.Blank) = None
target_in alias (n, item.Comment text) = None
target_in alias (n, item.Import optional path comment) = None
target_in alias (n, item.Module attributes optional name path comment) = None
target_in alias (n, item.Assignment export name value comment) = None
target_in alias (n, item.Unexport name comment) = None
target_in alias (n, item.Setting name value comment) = None
target_in alias (n, item.Recipe r) = None

abbrev pub first_of : {A : Type 0} → List A → Option A
first_of [] = None
first_of (x ∷ xs) = Some x

-- in the module of that path
abbrev pub alias_target_at : Layout → Modulepath → List ℕ → Option (List Name)
alias_target_at layout path alias = option_and_then (λ (m : Module). first_of (filter_map (target_in alias) (items_of_module layout.files m))) (laid_at layout path)
