-- The paths are those of the public recipes.
use Rattle.std.proofs.Common.{◌≡◌, ◌++◌, ◌∙◌, List, map, OnOk, Bor, ap, subst}
use Rattle.just_print_lists.specs.declared.listed.ListedRecipe.{ListedRecipe}
use Rattle.just_print_lists.specs.Groups.{public_in_order}
use Rattle.just_print_lists.specs.Summaries.{path_within}
use Rattle.just_print_lists.proofs.summary.push_paths_of.Goals as goal

pub returns : goal.returns
returns c =
    let are = ap (λ (l : List (Bor ListedRecipe)). map (λ r. r.now) l) c.as_slice-2.ensures.value ∙ c.in_ok-recipes.ensures
    ∙ ap (λ (rs : List ListedRecipe). public_in_order (λ (r : ListedRecipe). r.name) (λ (r : ListedRecipe). r.private) c.args.unsorted rs) c.as_slice.ensures in
    subst (λ (rs : List ListedRecipe). OnOk c.push_paths.result (c.push_paths.new.paths.items ≡ c.args.paths.now.items ++ map (λ (r : ListedRecipe). path_within c.args.outer.now r.name) rs)) are c.push_paths.ensures
