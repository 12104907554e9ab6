-- The names of variables and of groups.
use Rattle.std.specs.Prelude.{ℕ, Bool, List, ◌++◌, map, codes}
use Rattle.std.specs.List.{flat_map}
use Rattle.just_lang_types.specs.declared.scope.Assignment.{Assignment}
use Rattle.just_print.specs.Printed.{newline}
use Rattle.just_print_lists.specs.declared.listed.ListedModule.{ListedModule}
use Rattle.just_print_lists.specs.Listed.{named_groups_of}
use Rattle.just_print_lists.specs.Order.{in_order, public_by_name}
use Rattle.just_print_lists.specs.Summaries.{joined_line}

-- the names that don't begin with `_`, by the bytes, with blanks between them
abbrev pub variables_text : List Assignment → List ℕ
variables_text xs = joined_line (map (λ (a : Assignment). a.name) (public_by_name (λ (a : Assignment). a.name) xs))

-- a group on a line behind the prefix
abbrev pub group_name : List ℕ → List ℕ → List ℕ
group_name prefix group = prefix ++ (group ++ newline)

-- `Recipe groups:` and each group, in the order of a listing
abbrev pub groups_text : Bool → List ℕ → ListedModule → List ℕ
groups_text unsorted prefix m = codes "Recipe groups:" ++ (newline ++ flat_map (group_name prefix) (in_order (λ g. g) unsorted (named_groups_of m)))
