-- Widths, one more at a time.
use Rattle.std.proofs.Common.{◌≡◌, ℕ, Bool, true, false, not, ◌&&◌, cond, List, [], ◌∷◌, ◌++◌, map, refl, sym, ap, ◌∙◌}
use Rattle.std.specs.Prelude.{nat_lt, filter, if◌then◌else◌}
use Rattle.std.specs.List.{flat_map, fold}
use Rattle.std.proofs.lemmas.List.Sums.{fold-append}
use Rattle.just_print_entries.specs.declared.options.AliasStyle.{AliasStyle}
use Rattle.just_print_lists.specs.declared.listed.ListedRecipe.{ListedRecipe}
use Rattle.just_print_lists.specs.declared.listed.ListedAlias.{ListedAlias}
use Rattle.just_print_lists.specs.declared.listed.ListedModule.{ListedModule}
use Rattle.just_print_lists.specs.Greatest.{greater}
use Rattle.just_print_entries.specs.Entries.{width}
use Rattle.just_print_entries.specs.Recipes.{shown, signature, wider, widest, widths, recipe_widths, alias_width, module_width}

-- taken one by one, they give the greatest of those of at most 50
one_by_one : (n : ℕ) (ws : List ℕ) → fold wider n ws ≡ fold greater n (filter (λ w. not (nat_lt 50 w)) ws)
one_by_one n [] = refl
one_by_one n (w ∷ ws) =
    let narrow : List ℕ = filter (λ v. not (nat_lt 50 v)) ws in
    elim (nat_lt 50 w) as (λ b. fold wider (cond (nat_lt n w && not b) w n) ws ≡ fold greater n (cond (not b) (w ∷ narrow) narrow)) [
      | true ↦ elim (nat_lt n w) as (λ a. fold wider (cond (a && false) w n) ws ≡ fold greater n narrow) [ true ↦ one_by_one n ws | false ↦ one_by_one n ws ]
      | false ↦ elim (nat_lt n w) as (λ a. fold wider (cond (a && true) w n) ws ≡ fold greater (cond a w n) narrow) [ true ↦ one_by_one w ws | false ↦ one_by_one n ws ]
    ]

-- a recipe under its name, and under its other ones
pub recipe_one : (style : AliasStyle) (n own all : ℕ) (r : ListedRecipe) (parameters : List ℕ) (names : List (List ℕ)) → parameters ≡ r.parameters → own ≡ wider n (width (signature r.name parameters)) → names ≡ shown style r.aliases
    → all ≡ fold wider own (map (λ name. width (signature name parameters)) names) → all ≡ fold wider n (recipe_widths style r)
recipe_one style n own all r parameters names f g h e =
    e ∙ ap (λ (o : ℕ). fold wider o (map (λ name. width (signature name parameters)) names)) g
    ∙ ap (λ (ps : List ℕ). fold wider (wider n (width (signature r.name ps))) (map (λ name. width (signature name ps)) names)) f
    ∙ ap (λ (ns : List (List ℕ)). fold wider (wider n (width (signature r.name r.parameters))) (map (λ name. width (signature name r.parameters)) ns)) h

-- one more recipe
pub recipe_more : (style : AliasStyle) (n : ℕ) (r : ListedRecipe) (rs : List ListedRecipe)
    → fold wider (fold wider n (recipe_widths style r)) (flat_map (recipe_widths style) rs) ≡ fold wider n (flat_map (recipe_widths style) (r ∷ rs))
recipe_more style n r rs = sym (fold-append wider n (recipe_widths style r) (flat_map (recipe_widths style) rs))

-- recipes, other names and modules, one behind the other
pub three_widths : (style : AliasStyle) (list_submodules : Bool) (rs : List ListedRecipe) (others : List ListedAlias) (ms : List ListedModule) (a b c : ℕ)
    → a ≡ fold wider 0 (flat_map (recipe_widths style) rs) → b ≡ fold wider a (map alias_width others) → c ≡ fold wider b (if list_submodules then [] else map module_width ms)
    → c ≡ widest (widths style list_submodules rs others ms)
three_widths style list_submodules rs others ms a b c e f g =
    let some : List ℕ = if list_submodules then [] else map module_width ms in
    let first : List ℕ = flat_map (recipe_widths style) rs in
    g ∙ ap (λ n. fold wider n some) f ∙ sym (fold-append wider a (map alias_width others) some) ∙ ap (λ n. fold wider n (map alias_width others ++ some)) e
    ∙ sym (fold-append wider 0 first (map alias_width others ++ some)) ∙ one_by_one 0 (first ++ (map alias_width others ++ some))
