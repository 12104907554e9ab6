-- The parts of a module, by what of it is listed.
use Rattle.std.proofs.Common.{◌≡◌, ℕ, Bool, not, List, ap, ◌∙◌}
use Rattle.just_print_entries.specs.declared.options.ListOptions.{ListOptions}
use Rattle.just_print_lists.specs.declared.listed.ListedRecipe.{ListedRecipe}
use Rattle.just_print_lists.specs.declared.listed.ListedAlias.{ListedAlias}
use Rattle.just_print_lists.specs.declared.listed.ListedModule.{ListedModule}
use Rattle.just_print_lists.specs.Listed.{named_groups_of}
use Rattle.just_print_lists.specs.Groups.{is_nil}
use Rattle.just_print_lists.specs.Summaries.{public_recipes, public_modules}
use Rattle.just_print_entries.specs.Recipes.{other_aliases, widest, widths}
use Rattle.just_print_entries.specs.Listings.{Piece, group_list, has_ungrouped, listed_groups, pieces_with, pieces}

pub pieces_are : (o : ListOptions) (given : List (List ℕ)) (indent : List ℕ) (m : ListedModule) (rs : List ListedRecipe) (others : List ListedAlias) (ms : List ListedModule) (columns : ℕ) (has_named : Bool) (parts : List Piece)
    → rs ≡ public_recipes o.unsorted m → others ≡ other_aliases o.alias_style m → ms ≡ public_modules o.unsorted m
    → columns ≡ widest (widths o.alias_style o.list_submodules rs others ms) → has_named ≡ not (is_nil (named_groups_of m))
    → parts ≡ group_list o indent columns has_named (has_ungrouped given rs others ms) (listed_groups o.unsorted given m) rs others ms → parts ≡ pieces o given indent m
unfolding pieces
pieces_are o given indent m rs others ms columns has_named parts a b c e f g =
    let there : Bool = has_ungrouped given rs others ms in
    let gs : List (List ℕ) = listed_groups o.unsorted given m in
    g ∙ ap (λ n. group_list o indent n has_named there gs rs others ms) e
    ∙ ap (λ h. group_list o indent (widest (widths o.alias_style o.list_submodules rs others ms)) h there gs rs others ms) f
    ∙ ap (λ l. pieces_with o given indent m l others ms) a ∙ ap (λ l. pieces_with o given indent m (public_recipes o.unsorted m) l ms) b
    ∙ ap (λ l. pieces_with o given indent m (public_recipes o.unsorted m) (other_aliases o.alias_style m) l) c
