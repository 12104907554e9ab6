-- The parts of a module are fewer than it with all within it.
use Rattle.std.proofs.Common.{◌≡◌, ℕ, suc, ◌+◌, ◌<◌, ◌≤◌, Bool, true, false, not, List, [], ◌∷◌, ◌++◌, map, reverse, refl, ap, ◌∙◌, arith}
use Rattle.just_print_entries.specs.declared.options.ListOptions.{ListOptions}
use Rattle.just_print_lists.specs.declared.listed.ListedRecipe.{ListedRecipe}
use Rattle.just_print_lists.specs.declared.listed.ListedAlias.{ListedAlias}
use Rattle.just_print_lists.specs.declared.listed.ListedModule.{ListedModule}
use Rattle.just_print_lists.specs.declared.listed.ListedModule.TheOpen.{ListedModule-F}
use Rattle.just_print_lists.specs.declared.listed.ListedModule.TheFolds.{fold-ListedModule, fold_out-ListedModule}
use Rattle.just_print_lists.specs.Listed.{name_of, groups_of, is_private, modules_of, named_groups_of}
use Rattle.just_print_lists.specs.Order.{in_order}
use Rattle.just_print_lists.specs.Groups.{has_name, is_nil, ungrouped, grouped}
use Rattle.just_print_lists.specs.Summaries.{public_recipes, public_modules}
use Rattle.just_print_entries.specs.Recipes.{other_aliases, widest, widths}
use Rattle.just_print_entries.specs.Listings.{Piece, recipe_groups, group_line, inner_pieces, module_pieces, group_pieces, named_pieces, ungrouped_pieces, has_ungrouped, pieces}
use Rattle.just_print_entries.specs.Listings.Piece.{lines, inner}
use Rattle.just_print_entries.specs.Written.{opened}
use Rattle.just_print_lists.proofs.Weights.{total, total_append, total_reverse, total_filter, total_in_order}

abbrev pub sum_more : List ℕ → ℕ
sum_more [] = 0
sum_more (n ∷ ns) = suc n + sum_more ns

-- for each of some groups so many
abbrev pub each : List (List ℕ) → ℕ → ℕ
each gs n = total (λ (g : List ℕ). n) gs

abbrev pub bulk_step : ListedModule-F ℕ → ℕ
bulk_step f = suc ((2 + sum_more f.modules) + each f.named_groups (2 + sum_more f.modules))

-- a module with all that its listing has, or more
abbrev pub bulk : ListedModule → ℕ
bulk = fold-ListedModule ℕ bulk_step

-- modules with the lines before them
abbrev pub bulks : List ListedModule → ℕ
bulks = total (λ (m : ListedModule). suc (bulk m))

summed : (ms : List ListedModule) → sum_more (map bulk ms) ≡ bulks ms
summed [] = refl
summed (m ∷ ms) = ap (λ n. suc (bulk m) + n) (summed ms)

bulk_is : (m : ListedModule) → bulk m ≡ suc ((2 + bulks (modules_of m)) + each (named_groups_of m) (2 + bulks (modules_of m)))
bulk_is m = fold_out-ListedModule ℕ bulk_step m ∙ ap (λ n. suc ((2 + n) + each (named_groups_of m) (2 + n))) (summed (modules_of m))

abbrev pub piece_weight : Piece → ℕ
piece_weight (lines text) = 1
piece_weight (inner indent m) = bulk m

abbrev pub piece_weights : List Piece → ℕ
piece_weights = total piece_weight

-- ---- groups

each_more : (gs : List (List ℕ)) (n m : ℕ) → n ≤ m → each gs n ≤ each gs m
each_more [] n m h = omega arith
each_more (g ∷ gs) n m h =
    let rest : each gs n ≤ each gs m = each_more gs n m h in
    omega (arith, h, rest)

module _ (o : ListOptions) (indent : List ℕ) (columns : ℕ) (has_named : Bool) where
  inner_weights : (is_later : Bool) (ms : List ListedModule) → piece_weights (inner_pieces o indent columns has_named is_later ms) ≡ bulks ms
  inner_weights is_later [] = refl
  inner_weights is_later (m ∷ ms) =
      let rest : piece_weights (inner_pieces o indent columns has_named true ms) ≡ bulks ms = inner_weights true ms in
      omega (arith, rest)

  module_weights : (ms : List ListedModule) → piece_weights (module_pieces o indent columns has_named ms) ≤ suc (bulks ms)
  module_weights ms = go o.list_submodules refl
    where
      go : (b : Bool) → o.list_submodules ≡ b → piece_weights (module_pieces o indent columns has_named ms) ≤ suc (bulks ms)
      go true e =
          let same : piece_weights (module_pieces o indent columns has_named ms) ≡ bulks ms = rw e (inner_weights false ms) in
          omega (arith, same)
      go false e =
          let same : piece_weights (module_pieces o indent columns has_named ms) ≡ 1 = rw e refl in
          omega (arith, same)

  group_weights : (front : List ℕ) (rs : List ListedRecipe) (others : List ListedAlias) (ms : List ListedModule) → piece_weights (group_pieces o indent columns has_named front rs others ms) ≤ 2 + bulks ms
  group_weights front rs others ms =
      let some : piece_weights (module_pieces o indent columns has_named ms) ≤ suc (bulks ms) = module_weights ms in
      omega (arith, some)

  named_weights : (rs : List ListedRecipe) (ms : List ListedModule) (is_later : Bool) (gs : List (List ℕ)) → piece_weights (named_pieces o indent columns has_named rs ms is_later gs) ≤ each gs (2 + bulks ms)
  named_weights rs ms is_later [] = omega arith
  named_weights rs ms is_later (g ∷ gs) =
      let own : List Piece = group_pieces o indent columns has_named (group_line indent is_later g) (grouped recipe_groups g rs) [] (grouped groups_of g ms) in
      let others : List Piece = named_pieces o indent columns has_named rs ms true gs in
      let both : piece_weights (own ++ others) ≡ piece_weights own + piece_weights others = total_append piece_weight own others in
      let one : piece_weights own ≤ 2 + bulks (grouped groups_of g ms) = group_weights (group_line indent is_later g) (grouped recipe_groups g rs) [] (grouped groups_of g ms) in
      let some : bulks (grouped groups_of g ms) ≤ bulks ms = total_filter (λ (m : ListedModule). suc (bulk m)) (λ m. has_name g (groups_of m)) ms in
      let rest : piece_weights others ≤ each gs (2 + bulks ms) = named_weights rs ms true gs in
      omega (arith, both, one, some, rest)

  ungrouped_weights : (is_there : Bool) (rs : List ListedRecipe) (others : List ListedAlias) (ms : List ListedModule) → piece_weights (ungrouped_pieces o indent columns has_named is_there rs others ms) ≤ 2 + bulks ms
  ungrouped_weights true rs others ms =
      let one : piece_weights (group_pieces o indent columns has_named [] (ungrouped recipe_groups rs) others (ungrouped groups_of ms)) ≤ 2 + bulks (ungrouped groups_of ms) = group_weights [] (ungrouped recipe_groups rs) others (ungrouped groups_of ms) in
      let some : bulks (ungrouped groups_of ms) ≤ bulks ms = total_filter (λ (m : ListedModule). suc (bulk m)) (λ m. is_nil (groups_of m)) ms in
      omega (arith, one, some)
  ungrouped_weights false rs others ms = omega arith

-- ---- modules

-- the parts of a module are fewer than it
pub pieces_fewer : (o : ListOptions) (indent : List ℕ) (m : ListedModule) → piece_weights (pieces o [] indent m) < bulk m
unfolding pieces
pieces_fewer o indent m =
    let rs : List ListedRecipe = public_recipes o.unsorted m in
    let others : List ListedAlias = other_aliases o.alias_style m in
    let ms : List ListedModule = public_modules o.unsorted m in
    let columns : ℕ = widest (widths o.alias_style o.list_submodules rs others ms) in
    let has_named : Bool = not (is_nil (named_groups_of m)) in
    let is_there : Bool = has_ungrouped [] rs others ms in
    let gs : List (List ℕ) = in_order (λ g. g) o.unsorted (named_groups_of m) in
    let free : List Piece = ungrouped_pieces o indent columns has_named is_there rs others ms in
    let named : List Piece = named_pieces o indent columns has_named rs ms is_there gs in
    let both : piece_weights (free ++ named) ≡ piece_weights free + piece_weights named = total_append piece_weight free named in
    let one : piece_weights free ≤ 2 + bulks ms = ungrouped_weights o indent columns has_named is_there rs others ms in
    let two : piece_weights named ≤ each gs (2 + bulks ms) = named_weights o indent columns has_named rs ms is_there gs in
    let ordered : List ListedModule = in_order name_of o.unsorted (modules_of m) in
    let kept : bulks ms ≤ bulks ordered = total_filter (λ (n : ListedModule). suc (bulk n)) (λ n. not (is_private n)) ordered in
    let same : bulks ordered ≡ bulks (modules_of m) = total_in_order (λ (n : ListedModule). suc (bulk n)) name_of o.unsorted (modules_of m) in
    let within : 2 + bulks ms ≤ 2 + bulks (modules_of m) = omega (arith, kept, same) in
    let more : each gs (2 + bulks ms) ≤ each gs (2 + bulks (modules_of m)) = each_more gs (2 + bulks ms) (2 + bulks (modules_of m)) within in
    let as_many : each gs (2 + bulks (modules_of m)) ≡ each (named_groups_of m) (2 + bulks (modules_of m)) = total_in_order (λ (g : List ℕ). 2 + bulks (modules_of m)) (λ g. g) o.unsorted (named_groups_of m) in
    let whole : bulk m ≡ suc ((2 + bulks (modules_of m)) + each (named_groups_of m) (2 + bulks (modules_of m))) = bulk_is m in
    omega (arith, both, one, two, within, more, as_many, whole)

opened_fewer : (o : ListOptions) (p : Piece) → piece_weights (opened o p) < piece_weight p
opened_fewer o (lines text) = omega arith
opened_fewer o (inner indent m) = pieces_fewer o indent m

less : (a b c d e : ℕ) → a ≡ c + e → b ≡ c + (d + 0) → e < d → a < b
less a b c d e h g k = omega (arith, h, g, k)

-- what is pending becomes less
pub fewer_pieces : (o : ListOptions) (ps us qs : List Piece) (p : Piece) → ps ≡ us ++ p ∷ [] → qs ≡ us ++ reverse (opened o p) → piece_weights qs < piece_weights ps
fewer_pieces o ps us qs p is are =
    less (piece_weights qs) (piece_weights ps) (piece_weights us) (piece_weight p) (piece_weights (opened o p))
    (ap piece_weights are ∙ total_append piece_weight us (reverse (opened o p)) ∙ ap (λ n. piece_weights us + n) (total_reverse piece_weight (opened o p)))
    (ap piece_weights is ∙ total_append piece_weight us (p ∷ [])) (opened_fewer o p)
