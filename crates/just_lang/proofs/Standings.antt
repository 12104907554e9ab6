-- The recipes of all modules, module by module.
use Rattle.std.proofs.Common.{◌≡◌, ℕ, suc, ◌+◌, ◌<◌, ◌≤◌, inl, inr, List, [], ◌∷◌, ◌++◌, length, map, take, get_or, Some, sym, ap, ◌∙◌, subst, arith, add-one}
use Rattle.std.specs.Prelude.{filter_map, slice_get}
use Rattle.std.proofs.lemmas.Bool.{cases_eq}
use Rattle.std.proofs.lemmas.List.{length-map, length_push, get_or_push, get_or_append_left, take_all}
use Rattle.just_lang_syntax.specs.declared.ast.AstItem.{AstItem}
use Rattle.just_lang_layout.specs.declared.layout.Layout.{Layout}
use Rattle.just_lang_layout.specs.declared.layout.Module.{Module}
use Rattle.just_lang_spots.specs.Items.{recipe_in}
use Rattle.just_lang_spots.specs.Standing.{Wins}
use Rattle.just_lang_names.specs.Standing.{standing_recipe_items}
use Rattle.just_lang.specs.declared.recipe.StandingRecipe as code
use Rattle.just_lang.specs.Cycles.{Standing, in_module, recipes_from, recipes_before}
use Rattle.just_lang.specs.CycleTables.{standing, standings, standing_in, AreStanding}
use Rattle.just_lang.proofs.RecipeGraphs.{from_take}
use Rattle.just_lang.proofs.Loops.{map_picked}

pub record AreStandingBelow (wins : Wins) (layout : Layout) (n : ℕ) (list : List code.StandingRecipe) (before : List ℕ) : Type 0 where
  pub list_is : standings list ≡ recipes_from wins layout.files 0 (take n layout.modules)
  pub size : length before ≡ n
  pub each : (m : ℕ) → m < n → get_or before m 0 ≡ recipes_before wins layout m

module _ (wins : Wins) (layout : Layout) where
  pub none_standing : (list : List code.StandingRecipe) (before : List ℕ) → list ≡ [] → before ≡ [] → AreStandingBelow wins layout 0 list before
  none_standing list before l b = record { list_is = ap standings l; size = ap length b; each = λ m h. absurd (omega (arith, h)) }

  -- with those of one more module
  pub standing_more : (i : ℕ) (m : Module) (items : List (ℕ × AstItem)) (list list' : List code.StandingRecipe) (before before' : List ℕ) → slice_get layout.modules i ≡ Some m
      → items ≡ standing_recipe_items wins layout.files m → before' ≡ before ++ length list ∷ [] → standings list' ≡ standings list ++ filter_map (standing_in i) items
      → AreStandingBelow wins layout i list before → AreStandingBelow wins layout (i + 1) list' before'
  standing_more i m items list list' before before' at is b l old =
      let size : length before' ≡ i + 1 = ap length b ∙ length_push before (length list) ∙ ap (λ k. k + 1) old.size in
      let same : i ≡ 0 + i = omega arith in
      let all : standings list' ≡ recipes_from wins layout.files 0 (take (suc i) layout.modules) =
      l ∙ ap (λ (rs : List Standing). standings list ++ rs) (sym (map_picked (in_module i) recipe_in items))
      ∙ ap (λ (rs : List Standing). rs ++ map (in_module i) (filter_map recipe_in items)) old.list_is
      ∙ ap (λ (xs : List (ℕ × AstItem)). recipes_from wins layout.files 0 (take i layout.modules) ++ map (in_module i) (filter_map recipe_in xs)) is
      ∙ ap (λ k. recipes_from wins layout.files 0 (take i layout.modules) ++ map (in_module k) (filter_map recipe_in (standing_recipe_items wins layout.files m))) same
      ∙ sym (from_take wins layout.files 0 layout.modules i m at) in
      let many : length list ≡ recipes_before wins layout i = sym (length-map list standing) ∙ ap length old.list_is in
      record {
        list_is = rw add-one all;
        size = size;
        each = λ k h. elim (cases_eq k i) [
          | inl e ↦ ap (λ (ns : List ℕ). get_or ns k 0) b ∙ get_or_push before (length list) 0 k (old.size ∙ sym e) ∙ many ∙ ap (recipes_before wins layout) (sym e)
          | inr ne ↦ let less : k < i = omega (arith, ne, h) in ap (λ (ns : List ℕ). get_or ns k 0) b ∙ get_or_append_left before (length list ∷ []) 0 k (subst (λ n. k < n) (sym old.size) less) ∙ old.each k less
        ];
      }

  -- in all modules
  pub standing_all_modules : (n : ℕ) (list : List code.StandingRecipe) (before : List ℕ) → length layout.modules ≤ n → AreStandingBelow wins layout n list before → AreStanding wins layout list before
  standing_all_modules n list before e old =
      record {
        list_is = old.list_is ∙ ap (λ (ms : List Module). recipes_from wins layout.files 0 ms) (take_all n layout.modules e);
        before_are = record { size = let size = old.size in omega (arith, e, size); each = λ m h. old.each m (omega (arith, e, h)) };
      }
