-- The recipes of a listing, their other names, and the width of what stands before docs.
use Rattle.std.specs.Prelude.{ℕ, Bool, not, ◌&&◌, nat_lt, if◌then◌else◌, List, [], ◌∷◌, ◌++◌, map, filter, codes}
use Rattle.std.specs.List.{flat_map}
use Rattle.std.specs.Option.{unwrap_or}
use Rattle.just_print.specs.Usages.{path_text}
use Rattle.just_print_entries.specs.declared.options.AliasStyle.{AliasStyle}
use Rattle.just_print_lists.specs.declared.listed.ListedRecipe.{ListedRecipe}
use Rattle.just_print_lists.specs.declared.listed.ListedAlias.{ListedAlias}
use Rattle.just_print_lists.specs.declared.listed.ListedModule.{ListedModule}
use Rattle.just_print_lists.specs.Listed.{name_of, doc_of, aliases_of}
use Rattle.just_print_lists.specs.Order.{public_by_name}
use Rattle.just_print_lists.specs.Greatest.{greatest}
use Rattle.just_print_entries.specs.Styles.{is_hidden, is_left, is_inline, is_separate}
use Rattle.just_print_entries.specs.Entries.{width, has_lines, doc_above, signature_line, entry_lines}

-- ---- other names

-- the names that are shown, by the bytes: none with `_` in front
abbrev pub shown : AliasStyle → List (List ℕ) → List (List ℕ)
shown style names = if is_hidden style then [] else public_by_name (λ n. n) names

-- the other names of recipes of other modules
abbrev pub other_aliases : AliasStyle → ListedModule → List ListedAlias
other_aliases style m = if is_hidden style then [] else public_by_name (λ (a : ListedAlias). a.name) (aliases_of m)

-- what is said of another name
abbrev pub alias_doc : List ℕ → List ℕ
alias_doc target = codes "alias for `" ++ (target ++ codes "`")

-- ---- signatures

-- a recipe under a name of it
abbrev pub signature : List ℕ → List ℕ → List ℕ
signature name parameters = name ++ parameters

abbrev pub module_line : ListedModule → List ℕ
module_line m = name_of m ++ codes " ..."

-- ---- the width

-- the greatest of the widths of at most 50; 0 where there is none
abbrev pub widest : List ℕ → ℕ
widest widths = greatest (filter (λ w. not (nat_lt 50 w)) widths)

-- one width more: the wider of two, unless it is wider than 50
abbrev pub wider : ℕ → ℕ → ℕ
wider n w = if nat_lt n w && not (nat_lt 50 w) then w else n

-- the widths of a recipe under its names
abbrev pub recipe_widths : AliasStyle → ListedRecipe → List ℕ
recipe_widths style r = map (λ n. width (signature n r.parameters)) (r.name ∷ shown style r.aliases)

abbrev pub alias_width : ListedAlias → ℕ
alias_width a = width (signature a.name a.parameters)

abbrev pub module_width : ListedModule → ℕ
module_width m = width (module_line m)

-- all widths of a module with these recipes, aliases and modules
abbrev pub widths : AliasStyle → Bool → List ListedRecipe → List ListedAlias → List ListedModule → List ℕ
widths style list_submodules rs others ms = flat_map (recipe_widths style) rs ++ (map alias_width others ++ (if list_submodules then [] else map module_width ms))

-- ---- entries

module _ (indent : List ℕ) (columns : ℕ) (style : AliasStyle) where
  -- another name as an entry of its own
  unfoldable pub separate_lines : ListedRecipe → List ℕ → List ℕ
  separate_lines r name = entry_lines indent columns (is_left style) (signature name r.parameters) (alias_doc r.name) []

  -- a recipe, with its other names behind it or below it
  abbrev pub recipe_lines : ListedRecipe → List ℕ
  recipe_lines r =
      entry_lines indent columns (is_left style) (signature r.name r.parameters) (unwrap_or r.doc []) (if is_inline style then shown style r.aliases else [])
      ++ flat_map (separate_lines r) (if is_separate style then shown style r.aliases else [])

  -- another name of a recipe of another module
  unfoldable pub alias_lines : ListedAlias → List ℕ
  alias_lines a = entry_lines indent columns (is_left style) (signature a.name a.parameters) (alias_doc (path_text a.target.components)) []

  -- a module, with its doc behind it; a doc of several lines stands above it
  abbrev pub module_lines : ListedModule → List ℕ
  module_lines m =
      if has_lines (unwrap_or (doc_of m) []) then doc_above indent (unwrap_or (doc_of m) []) ++ signature_line indent columns (is_left style) (module_line m) [] []
      else signature_line indent columns (is_left style) (module_line m) (unwrap_or (doc_of m) []) []
