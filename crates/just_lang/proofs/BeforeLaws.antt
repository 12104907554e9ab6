-- How many recipes stand in the modules so far.
use Rattle.std.proofs.Common.{◌≡◌, ℕ, suc, ◌+◌, ◌<◌, ◌≤◌, inl, inr, List, [], ◌∷◌, ◌++◌, length, map, take, get_or, Some, refl, sym, ap, ◌∙◌, subst, arith, add-one, length-append}
use Rattle.std.specs.Prelude.{slice_get}
use Rattle.std.proofs.lemmas.Bool.{cases_eq}
use Rattle.std.proofs.lemmas.List.{length-map, length_push, get_or_push, get_or_append_left}
use Rattle.just_lang_syntax.specs.declared.ast.AstItem.{AstItem}
use Rattle.just_lang_syntax.specs.declared.ast.AstRecipe.{AstRecipe}
use Rattle.just_lang_layout.specs.declared.layout.Layout.{Layout}
use Rattle.just_lang_layout.specs.declared.layout.Module.{Module}
use Rattle.just_lang_spots.specs.Entries.{entry, entries}
use Rattle.just_lang_spots.specs.Items.{recipe_in}
use Rattle.just_lang_spots.specs.Standing.{Wins}
use Rattle.just_lang_names.specs.declared.names.ModuleNames.{ModuleNames}
use Rattle.just_lang_names.specs.declared.names.Names.{Names}
use Rattle.just_lang_names.specs.Names.{AreNames, layout_of, wins_of}
use Rattle.just_lang_names.specs.Standing.{standing_recipe_items, standing_recipes}
use Rattle.just_lang.specs.Cycles.{in_module, recipe_name, recipes_from, recipes_before}
use Rattle.just_lang.proofs.LastPlaces.{length_through, recipe_things}
use Rattle.just_lang.proofs.RecipeGraphs.{from_take, table_at, tables_length}
use Rattle.just_lang.specs.Befores.{AreBeforeEach}

pub record AreBeforeBelow (wins : Wins) (layout : Layout) (n count : ℕ) (before : List ℕ) : Type 0 where
  pub count_is : count ≡ recipes_before wins layout n
  pub size : length before ≡ n
  pub each : (m : ℕ) → m < n → get_or before m 0 ≡ recipes_before wins layout m

module _ (wins : Wins) (layout : Layout) where
  pub none_before : (before : List ℕ) → before ≡ [] → AreBeforeBelow wins layout 0 0 before
  none_before before b = record { count_is = refl; size = ap length b; each = λ m h. absurd (omega (arith, h)) }

  -- with one more module
  before_more : (i : ℕ) (m : Module) (items : List (ℕ × AstItem)) (count count' : ℕ) (before before' : List ℕ) → slice_get layout.modules i ≡ Some m → items ≡ standing_recipe_items wins layout.files m
      → before' ≡ before ++ count ∷ [] → count' ≡ count + length items → AreBeforeBelow wins layout i count before → AreBeforeBelow wins layout (i + 1) count' before'
  before_more i m items count count' before before' at is b c old =
      let here : List (ℕ × AstRecipe) = standing_recipes wins layout.files m in
      let many : length here ≡ length items = length_through recipe_in recipe_name (standing_recipe_items wins layout.files m) (recipe_things wins layout.files m) ∙ ap length (sym is) in
      let more : recipes_before wins layout (suc i) ≡ recipes_before wins layout i + length here =
      ap length (from_take wins layout.files 0 layout.modules i m at) ∙ length-append (recipes_from wins layout.files 0 (take i layout.modules)) (map (in_module (0 + i)) here)
      ∙ ap (λ k. recipes_before wins layout i + k) (length-map here (in_module (0 + i))) in
      let counted : count' ≡ recipes_before wins layout (suc i) = let old_count = old.count_is in omega (arith, c, many, more, old_count) in
      record {
        count_is = rw add-one counted;
        size = ap length b ∙ length_push before count ∙ ap (λ k. k + 1) old.size;
        each = λ k h. elim (cases_eq k i) [
          | inl e ↦ ap (λ (ns : List ℕ). get_or ns k 0) b ∙ get_or_push before count 0 k (old.size ∙ sym e) ∙ old.count_is ∙ ap (recipes_before wins layout) (sym e)
          | inr ne ↦ let less : k < i = omega (arith, ne, h) in ap (λ (ns : List ℕ). get_or ns k 0) b ∙ get_or_append_left before (count ∷ []) 0 k (subst (λ n. k < n) (sym old.size) less) ∙ old.each k less
        ];
      }

module _ (names : Names) (are : AreNames names) where
  pub module_more : (k : ℕ) (n : ModuleNames) (count count' : ℕ) (before before' : List ℕ) → k < length names.modules.items → n ≡ get_or names.modules.items k n → before' ≡ before ++ count ∷ []
      → count' ≡ count + length n.recipes.items → AreBeforeBelow (wins_of names) (layout_of names) k count before → AreBeforeBelow (wins_of names) (layout_of names) (k + 1) count' before'
  module_more k n count count' before before' h e b c old =
      let t = table_at (wins_of names) (layout_of names).files (layout_of names).modules names.modules.items are.modules_are k n h e in
      let same : length (entries n.recipes.items) ≡ length n.recipes.items = length-map n.recipes.items entry in
      before_more (wins_of names) (layout_of names) k t.of_module (entries n.recipes.items) count count' before before' t.at t.names_are.recipes_are b (omega (arith, c, same)) old

  pub modules_all : (k count : ℕ) (before : List ℕ) → length names.modules.items ≤ k → k ≤ length names.modules.items → AreBeforeBelow (wins_of names) (layout_of names) k count before
      → AreBeforeEach (wins_of names) (layout_of names) before
  modules_all k count before h h' old =
      let size = tables_length (wins_of names) (layout_of names).files (layout_of names).modules names.modules.items are.modules_are in
      let own = old.size in
      record { size = omega (arith, size, own, h, h'); each = λ m less. old.each m (omega (arith, size, h, less)) }
