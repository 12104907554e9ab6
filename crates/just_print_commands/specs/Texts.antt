-- What `--list`, `--show` and `--usage` print of what a path leads to.
use Rattle.std.specs.Prelude.{◌≡◌, ℕ, List, [], ◌∷◌, ◌++◌, map, is_some, if◌then◌else◌, Option, Some, None, Ok}
use Rattle.std.specs.Option.{option_map_or, unwrap_or}
use Rattle.just_lang_syntax.specs.declared.ast.Name.{Name}
use Rattle.just_lang_types.specs.declared.project.Justfile.{Justfile}
use Rattle.just_lang_types.specs.Modules.{path_of, settings_of, Located}
use Rattle.just_lang_layout.specs.declared.layout.Layout.{Layout}
use Rattle.just_eval_closure.specs.Answers.{Answer}
use Rattle.just_eval_words.specs.Commands.{inner_at, named_at}
use Rattle.just_eval_words.specs.Names.{Target, recipe_in}
use Rattle.just_print.specs.Shown.{shown_text}
use Rattle.just_print_lists.specs.declared.listed.ListedModule.{ListedModule}
use Rattle.just_print_lists.specs.Indentations.{chosen_indentation}
use Rattle.just_print_lists.specs.LongUsages.{alias_line, usage_text}
use Rattle.just_print_entries.specs.declared.options.ListOptions.{ListOptions}
use Rattle.just_print_entries.specs.Listings.{IsListing, unknown_group}
use Rattle.just_print_tree.specs.Told.{ToldRecipe, found_told}
use Rattle.just_print_commands.specs.Projects.{Parts}
use Rattle.just_print_commands.specs.Places.{listed_at, alias_target_at}

-- the module that names lead to from the root, and what the last of them comes to in the module that those in front of it lead to
abbrev pub inner_of : Parts → List (List ℕ) → Answer Justfile
inner_of p names = inner_at p.modules names p.root

abbrev pub named_of : Parts → List (List ℕ) → Answer Target
named_of p names = named_at p.modules names p.root

-- ---- a listing

-- what listings show of the module that names lead to
pub record IsListedAt (p : Parts) (names : List (List ℕ)) (l : ListedModule) : Type 0 where
  pub inner : Justfile
  pub leads : inner_of p names ≡ Ok inner
  pub shown : listed_at (path_of inner).components p.tree ≡ Some l

-- The listing of the module that names lead to.
pub record IsListOf (p : Parts) (o : ListOptions) (names : List (List ℕ)) (text : List ℕ) : Type 0 where
  pub listed : ListedModule
  pub there : IsListedAt p names listed
  pub known : unknown_group o.groups.now listed ≡ None
  pub listing : IsListing o listed text

-- ---- recipes

-- the names of a path
abbrev pub texts_of : List Name → List (List ℕ)
texts_of names = map (λ (n : Name). n.text) names

-- the line of the alias of that name, unless the module has a recipe of it
abbrev pub alias_text : Layout → Justfile → List ℕ → List ℕ
alias_text layout j name =
    if is_some (recipe_in j name) then [] else option_map_or (λ (target : List Name). alias_line name (texts_of target)) (alias_target_at layout (path_of j) name) []

-- that line in the module that names lead to
pub record IsLineAt (p : Parts) (front : List (List ℕ)) (last line : List ℕ) : Type 0 where
  pub inner : Justfile
  pub leads : inner_of p front ≡ Ok inner
  pub line_is : line ≡ alias_text p.layout inner last

-- the recipe that names lead to, and the line of the alias that the last of them is, where it is one
pub record IsFound (p : Parts) (names : List (List ℕ)) (l : Located) (line : List ℕ) : Type 0 where
  pub recipe : named_of p names ≡ Ok (Target.to_recipe l)
  pub front : List (List ℕ)
  pub last : List ℕ
  pub split : names ≡ front ++ last ∷ []
  pub named : IsLineAt p front last line

-- a recipe as its file has it, with its doc: its body is indented as is given, else as its module has it set
abbrev pub written_text : Option (List ℕ) → Justfile → ToldRecipe → List ℕ
written_text given j x = shown_text (unwrap_or x.recipe.doc []) (chosen_indentation given (settings_of j).indentation) x.written

-- What `--show` prints of the recipe that names lead to.
pub record IsShownOf (p : Parts) (given : Option (List ℕ)) (names : List (List ℕ)) (text : List ℕ) : Type 0 where
  pub located : Located
  pub line : List ℕ
  pub found : IsFound p names located line
  pub told : ToldRecipe
  pub written : found_told p.recipes located.recipe.path ≡ Some told
  pub text_is : text ≡ line ++ written_text given located.parent told

-- What `--usage` prints of it, under the path that was given.
pub record IsUsageOf (p : Parts) (names : List (List ℕ)) (text : List ℕ) : Type 0 where
  pub located : Located
  pub line : List ℕ
  pub found : IsFound p names located line
  pub text_is : text ≡ line ++ usage_text names located.recipe.parameters
