-- The names of the recipes, and of the variables, that stand in a module.
use Rattle.std.proofs.Common.{◌≡◌, ℕ, suc, inl, inr, Bool, true, false, ◌||◌, cond, List, [], ◌∷◌, map, Option, Some, None, refl, sym, ap, ◌∙◌, subst}
use Rattle.std.specs.Prelude.{bytes_eq, filter_map, slice_get, unwrap_or}
use Rattle.std.specs.List.{list_any, cons_option, AllByRecursion as ByRecursion}
use Rattle.std.specs.Option.{option_and_then}
use Rattle.std.specs.Cmp.Lexicographic.{bytes_decides}
use Rattle.just_eval_closure.proofs.Items.{In, in_map}
use Rattle.just_lang_syntax.specs.declared.ast.AstItem.{AstItem}
use Rattle.just_lang_syntax.specs.declared.ast.AstItem.TheVariants as item
use Rattle.just_lang_syntax.specs.declared.ast.AstRecipe.{AstRecipe}
use Rattle.just_lang_layout.specs.declared.layout.File.{File}
use Rattle.just_lang_layout.specs.declared.layout.Layout.{Layout}
use Rattle.just_lang_layout.specs.declared.layout.Module.{Module}
use Rattle.just_lang_spots.specs.Entries.{or_place, last_place}
use Rattle.just_lang_spots.specs.Items.{item_name, recipe_in, variable_in}
use Rattle.just_lang_spots.specs.Standing.{Wins, has_name, unbeaten, last_of_each, named}
use Rattle.just_lang_spots.proofs.LastPlaces.{named_is}
use Rattle.just_lang_names.specs.Lookup.{recipe_named}
use Rattle.just_lang_names.specs.Standing.{recipe_items, variable_items, standing_recipe_items, standing_recipes, standing_variable_items, standing_variables}
use Rattle.just_lang.specs.Cycles.{recipe_name, variable_name}
use Rattle.just_lang.proofs.LastPlaces.{IsThing, place_through, recipe_things, variable_things}
use Rattle.just_cli_plan.proofs.Apart.{AreApart}

or_second : (b c : Bool) → b || c ≡ false → c ≡ false
or_second true c h = absurd (cc)
or_second false c h = h

-- the place of an item with a name
abbrev pub IsNamedAt : {A : Type 0} → (A → List ℕ) → List ℕ → List (ℕ × A) → ℕ → Type 0
IsNamedAt {A} name q xs k = (x : ℕ × A) × (slice_get xs k ≡ Some x) × (name x.1 ≡ q)

module _ {A : Type 0} (name : A → List ℕ) where
  abbrev pub names_of : List (ℕ × A) → List (List ℕ)
  names_of xs = map (λ x. name x.1) xs

  last_in : (xs : List (ℕ × A)) (y : ℕ × A) → In y (last_of_each name xs) → In y xs
  last_in [] y i = i
  last_in (x ∷ xs) y i =
      elim (list_any (has_name name (name x.1)) xs) as (λ b. In y (cond b (last_of_each name xs) (x ∷ last_of_each name xs)) → In y (x ∷ xs)) [
        | true ↦ λ j. inr (last_in xs y j)
        | false ↦ λ j. elim j [
          | inl s ↦ inl s
          | inr k ↦ inr (last_in xs y k)
        ]
      ] i

  none_named : (xs : List (ℕ × A)) (y : ℕ × A) (q : List ℕ) → list_any (has_name name q) xs ≡ false → In y xs → name y.1 ≡ q → ⊥
  none_named [] y q h i s = i
  none_named (x ∷ xs) y q h (inl is) s =
      let t : bytes_eq (name x.1) q ≡ true = (bytes_decides (name x.1) q).1 (ap (λ (z : ℕ × A). name z.1) is ∙ s) in
      let no : true ≡ false = subst (λ b. (b || list_any (has_name name q) xs) ≡ false) t h in
      absurd (cc)
  none_named (x ∷ xs) y q h (inr i) s = none_named xs y q (or_second (has_name name q x) (list_any (has_name name q) xs) h) i s

  -- the last of each name have different names
  pub names_apart : (xs : List (ℕ × A)) → AreApart (names_of (last_of_each name xs))
  names_apart [] = tt
  names_apart (x ∷ xs) =
      elim (list_any (has_name name (name x.1)) xs) as (λ b. list_any (has_name name (name x.1)) xs ≡ b → AreApart (names_of (cond b (last_of_each name xs) (x ∷ last_of_each name xs)))) [
        | true ↦ λ t. names_apart xs
        | false ↦ λ f. ((λ i. let h = in_map (λ z. name z.1) (last_of_each name xs) (name x.1) i in none_named xs h.0 (name x.1) f (last_in xs h.0 h.1) h.2), names_apart xs)
      ] refl

  first_named : (q : List ℕ) (x : ℕ × A) (xs : List (ℕ × A)) (k : ℕ) (b : Bool) → has_name name q x ≡ b → or_place b None ≡ Some k → IsNamedAt name q (x ∷ xs) k
  first_named q x xs k true t e =
      let is : 0 ≡ k = ap (λ (o : Option ℕ). unwrap_or o 0) e in
      subst (λ n. IsNamedAt name q (x ∷ xs) n) is (x, refl, (bytes_decides (name x.1) q).0 t)
  first_named q x xs k false t e = absurd (cc)

  -- the last place of a name has an item of that name
  pub last_named : (q : List ℕ) (xs : List (ℕ × A)) (k : ℕ) → last_place name q xs ≡ Some k → IsNamedAt name q xs k
  last_named q [] k e = absurd (cc)
  last_named q (x ∷ xs) k e =
      elim (last_place name q xs) as (λ o. last_place name q xs ≡ o → or_place (has_name name q x) o ≡ Some k → IsNamedAt name q (x ∷ xs) k) [
        | None ↦ λ l e. first_named q x xs k (has_name name q x) refl e
        | Some j ↦ λ l e.
            let is : suc j ≡ k = ap (λ (o : Option ℕ). unwrap_or o 0) e in
            let h = last_named q xs j l in
            subst (λ n. IsNamedAt name q (x ∷ xs) n) is (h.0, h.1, h.2)
      ] refl e

pub names_through : {B : Type 0} (as_thing : ℕ × AstItem → Option (ℕ × B)) (name : B → List ℕ) (xs : List (ℕ × AstItem)) → ByRecursion (IsThing as_thing name) xs
    → names_of name (filter_map as_thing xs) ≡ names_of item_name xs
names_through as_thing name [] all = refl
names_through {B} as_thing name (x ∷ xs) all =
    ap (λ (o : Option (ℕ × B)). names_of name (cons_option o (filter_map as_thing xs))) all.0.is
    ∙ ap (λ (q : List ℕ). q ∷ names_of name (filter_map as_thing xs)) all.0.same ∙ ap (λ (qs : List (List ℕ)). item_name x.1 ∷ qs) (names_through as_thing name xs all.1)

-- the recipes of a module have different names, and so have its variables
pub recipes_apart : (wins : Wins) (files : List File) (m : Module) → AreApart (names_of recipe_name (standing_recipes wins files m))
recipes_apart wins files m =
    subst (λ (qs : List (List ℕ)). AreApart qs) (sym (names_through recipe_in recipe_name (standing_recipe_items wins files m) (recipe_things wins files m)))
    (names_apart item_name (unbeaten item_name wins (recipe_items files m)))

pub variables_apart : (wins : Wins) (files : List File) (m : Module) → AreApart (names_of variable_name (standing_variables wins files m))
variables_apart wins files m =
    subst (λ (qs : List (List ℕ)). AreApart qs) (sym (names_through variable_in variable_name (standing_variable_items wins files m) (variable_things wins files m)))
    (names_apart item_name (unbeaten item_name wins (variable_items files m)))

-- ---- a recipe of a name

named_as : (x : ℕ × AstItem) (z : ℕ × AstRecipe) → recipe_in x ≡ Some z → recipe_name z.1 ≡ item_name x.1
named_as (n, item.Recipe r) z e = sym (ap (λ (o : Option (ℕ × AstRecipe)). recipe_name (unwrap_or o (n, r)).1) e)
named_as (n, item.Blank) z e = absurd (cc)
named_as (n, item.Comment text) z e = absurd (cc)
named_as (n, item.Alias name target comment) z e = absurd (cc)
named_as (n, item.Import optional path comment) z e = absurd (cc)
named_as (n, item.Module attributes optional name path comment) z e = absurd (cc)
named_as (n, item.Assignment export name value comment) z e = absurd (cc)
named_as (n, item.Unexport name comment) z e = absurd (cc)
named_as (n, item.Setting name value comment) z e = absurd (cc)

-- a recipe that a name comes to in a module
pub record IsRecipeOf (wins : Wins) (layout : Layout) (m : ℕ) (q : List ℕ) (z : ℕ × AstRecipe) : Type 0 where
  pub of_module : Module
  pub at : slice_get layout.modules m ≡ Some of_module
  pub place : ℕ
  pub is_place : last_place recipe_name q (standing_recipes wins layout.files of_module) ≡ Some place
  pub same : recipe_name z.1 ≡ q

module _ (wins : Wins) (layout : Layout) (m : ℕ) (q : List ℕ) (z : ℕ × AstRecipe) where
  recipe_at_place : (x : Module) → slice_get layout.modules m ≡ Some x → (o : Option ℕ) → last_place item_name q (standing_recipe_items wins layout.files x) ≡ o
      → option_and_then recipe_in (option_and_then (slice_get (standing_recipe_items wins layout.files x)) o) ≡ Some z → IsRecipeOf wins layout m q z
  recipe_at_place x at None l e = absurd (cc)
  recipe_at_place x at (Some k) l e =
      let h = last_named item_name q (standing_recipe_items wins layout.files x) k l in
      let r : recipe_in h.0 ≡ Some z = sym (ap (λ (o : Option (ℕ × AstItem)). option_and_then recipe_in o) h.1) ∙ e in
      record { of_module = x; at = at; place = k; is_place = place_through recipe_in recipe_name q (standing_recipe_items wins layout.files x) (recipe_things wins layout.files x) ∙ l; same = named_as h.0 z r ∙ h.2 }

  recipe_in_module : (o : Option Module) → slice_get layout.modules m ≡ o
      → option_and_then recipe_in (option_and_then (λ (x : Module). named item_name q (standing_recipe_items wins layout.files x)) o) ≡ Some z → IsRecipeOf wins layout m q z
  recipe_in_module None at e = absurd (cc)
  recipe_in_module (Some x) at e =
      recipe_at_place x at (last_place item_name q (standing_recipe_items wins layout.files x)) refl
      (sym (ap (λ (o : Option (ℕ × AstItem)). option_and_then recipe_in o) (named_is item_name q (standing_recipe_items wins layout.files x))) ∙ e)

  pub recipe_found : recipe_named wins layout m q ≡ Some z → IsRecipeOf wins layout m q z
  recipe_found e = recipe_in_module (slice_get layout.modules m) refl e
