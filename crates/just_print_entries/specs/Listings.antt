-- The listing of a project.
use Rattle.std.specs.Prelude.{◌≡◌, ℕ, Bool, true, false, not, ◌&&◌, if◌then◌else◌, List, [], ◌∷◌, ◌++◌, Option, find, codes}
use Rattle.std.specs.List.{flat_map}
use Rattle.just_print.specs.Printed.{newline, only_if}
use Rattle.just_print_entries.specs.declared.options.ListOptions.{ListOptions}
use Rattle.just_print_lists.specs.declared.listed.ListedRecipe.{ListedRecipe}
use Rattle.just_print_lists.specs.declared.listed.ListedAlias.{ListedAlias}
use Rattle.just_print_lists.specs.declared.listed.ListedModule.{ListedModule}
use Rattle.just_print_lists.specs.Listed.{name_of, groups_of, named_groups_of}
use Rattle.just_print_lists.specs.Order.{in_order}
use Rattle.just_print_lists.specs.Groups.{is_nil, has_name, ungrouped, grouped}
use Rattle.just_print_entries.specs.Recipes.{other_aliases, widest, widths, recipe_lines, alias_lines, module_lines}
use Rattle.just_print_lists.specs.Summaries.{public_recipes, public_modules}

-- A listing is made of parts: lines, and modules with what stands before each of their lines.
pub data Piece : Type 0 where
  lines : List ℕ → Piece
  inner : List ℕ → ListedModule → Piece

-- ---- groups

abbrev pub recipe_groups : ListedRecipe → List (List ℕ)
recipe_groups r = r.groups

-- the line of a group, behind a blank line where another group is before it
abbrev pub group_line : List ℕ → Bool → List ℕ → List ℕ
group_line indent is_later group = only_if is_later newline ++ (indent ++ (codes "[" ++ (group ++ (codes "]" ++ newline))))

module _ (o : ListOptions) (indent : List ℕ) (columns : ℕ) (has_named : Bool) where
  -- the line before a module that is listed with what stands in it: behind a blank line where there are no named groups, but the first
  abbrev pub inner_line : Bool → ListedModule → List ℕ
  inner_line is_later m = only_if (is_later && not has_named) newline ++ (indent ++ (name_of m ++ (codes ":" ++ newline)))

  abbrev pub inner_pieces : Bool → List ListedModule → List Piece
  inner_pieces is_later [] = []
  inner_pieces is_later (m ∷ ms) = lines (inner_line is_later m) ∷ inner (indent ++ o.prefix.now) m ∷ inner_pieces true ms

  -- the modules that end a group
  abbrev pub module_pieces : List ListedModule → List Piece
  module_pieces ms = if o.list_submodules then inner_pieces false ms else lines (flat_map (module_lines indent columns o.alias_style) ms) ∷ []

  -- a group: its line, its recipes, other names, modules
  abbrev pub group_pieces : List ℕ → List ListedRecipe → List ListedAlias → List ListedModule → List Piece
  group_pieces front rs others ms =
      lines (front ++ (flat_map (recipe_lines indent columns o.alias_style) rs ++ flat_map (alias_lines indent columns o.alias_style) others)) ∷ module_pieces ms

  -- named groups, from one on
  abbrev pub named_pieces : List ListedRecipe → List ListedModule → Bool → List (List ℕ) → List Piece
  named_pieces rs ms is_later [] = []
  named_pieces rs ms is_later (g ∷ gs) = group_pieces (group_line indent is_later g) (grouped recipe_groups g rs) [] (grouped groups_of g ms) ++ named_pieces rs ms true gs

  -- what is in no group
  abbrev pub ungrouped_pieces : Bool → List ListedRecipe → List ListedAlias → List ListedModule → List Piece
  ungrouped_pieces is_there rs others ms = if is_there then group_pieces [] (ungrouped recipe_groups rs) others (ungrouped groups_of ms) else []

-- ---- modules

-- the groups that are given, in that order, else those that are named, by the bytes or in the order of the sources
abbrev pub listed_groups : Bool → List (List ℕ) → ListedModule → List (List ℕ)
listed_groups unsorted given m = if is_nil given then in_order (λ g. g) unsorted (named_groups_of m) else given

-- whether there is something in no group that is listed
abbrev pub has_ungrouped : List (List ℕ) → List ListedRecipe → List ListedAlias → List ListedModule → Bool
has_ungrouped given rs others ms = is_nil given && not (is_nil (ungrouped recipe_groups rs) && (is_nil others && is_nil (ungrouped groups_of ms)))

-- what is in no group, where it is listed, and named groups
abbrev pub group_list : ListOptions → List ℕ → ℕ → Bool → Bool → List (List ℕ) → List ListedRecipe → List ListedAlias → List ListedModule → List Piece
group_list o indent columns has_named is_there groups rs others ms = ungrouped_pieces o indent columns has_named is_there rs others ms ++ named_pieces o indent columns has_named rs ms is_there groups

-- the parts of a module with these recipes, other names and modules
abbrev pub pieces_with : ListOptions → List (List ℕ) → List ℕ → ListedModule → List ListedRecipe → List ListedAlias → List ListedModule → List Piece
pieces_with o given indent m rs others ms =
    group_list o indent (widest (widths o.alias_style o.list_submodules rs others ms)) (not (is_nil (named_groups_of m))) (has_ungrouped given rs others ms) (listed_groups o.unsorted given m) rs others ms

-- the parts of a module, of whose groups those are listed that are given, where some are
unfoldable pub pieces : ListOptions → List (List ℕ) → List ℕ → ListedModule → List Piece
pieces o given indent m = pieces_with o given indent m (public_recipes o.unsorted m) (other_aliases o.alias_style m) (public_modules o.unsorted m)

-- The text of parts: lines as they are, and in place of a module its parts.
pub data AreWritten (o : ListOptions) : List Piece → List ℕ → Type 0 where
  nothing : AreWritten o [] []
  written : (text : List ℕ) (ps : List Piece) (rest : List ℕ) → AreWritten o ps rest → AreWritten o (lines text ∷ ps) (text ++ rest)
  within : (indent : List ℕ) (m : ListedModule) (ps : List Piece) (text : List ℕ) → AreWritten o (pieces o [] indent m ++ ps) text → AreWritten o (inner indent m ∷ ps) text

-- The listing of a module: the heading, and its parts behind one prefix.
abbrev pub IsListing : ListOptions → ListedModule → List ℕ → Type 0
IsListing o m text = (body : List ℕ) × AreWritten o (pieces o o.groups.now o.prefix.now m) body × (text ≡ o.heading.now ++ body)

-- the first of the groups that are given that the module doesn't have
abbrev pub unknown_group : List (List ℕ) → ListedModule → Option (List ℕ)
unknown_group given m = find (λ g. not (has_name g (named_groups_of m))) given
