-- The recipes and modules that paths come to.
use Rattle.std.proofs.Common.{◌≡◌, ◌⊎◌, inl, inr, ℕ, Bool, true, false, List, [], ◌∷◌, Option, Some, None, refl, ap, ◌∙◌, subst}
use Rattle.std.specs.Prelude.{slice_get}
use Rattle.std.specs.Option.{option_and_then}
use Rattle.just_lang_syntax.specs.declared.ast.AstItem.{AstItem}
use Rattle.just_lang_syntax.specs.declared.ast.AstItem.TheVariants as item
use Rattle.just_lang_syntax.specs.declared.ast.AstRecipe.{AstRecipe}
use Rattle.just_lang_syntax.specs.declared.ast.Name.{Name}
use Rattle.just_lang_layout.specs.declared.layout.Layout.{Layout}
use Rattle.just_lang_layout.specs.declared.layout.Module.{Module}
use Rattle.just_lang_spots.specs.Items.{item_name, recipe_in}
use Rattle.just_lang_spots.specs.Standing.{Wins, named, or_earlier, has_name}
use Rattle.just_lang_names.specs.Lookup.{Target, Found_recipe, Found_module, Found_absent, Found_nothing, child, is_absent, recipe_named, recipe_or, module_or, absent_or, dependency_end, alias_end, behind, target_with, dependency_target, alias_target}
use Rattle.just_lang_names.specs.Standing.{standing_recipe_items}

-- ---- members of a list

abbrev pub IsIn : {A : Type 0} → A → List A → Type 0
IsIn x [] = ⊥
IsIn x (y ∷ ys) = (y ≡ x) ⊎ IsIn x ys

named_in : (q : List ℕ) (xs : List (ℕ × AstItem)) (x : ℕ × AstItem) → named item_name q xs ≡ Some x → IsIn x xs
named_in q [] x h = absurd (let no : ⊥ = cc in no)
named_in q (y ∷ ys) x h = by (named item_name q ys) refl (λ e. named_in q ys x e) h
  where
    here : (b : Bool) → or_earlier y b None ≡ Some x → IsIn x (y ∷ ys)
    here true l = inl (let same : y ≡ x = cc in same)
    here false l = absurd (let no : ⊥ = cc in no)

    by : (o : Option (ℕ × AstItem)) → named item_name q ys ≡ o → (named item_name q ys ≡ Some x → IsIn x ys) → or_earlier y (has_name item_name q y) o ≡ Some x → IsIn x (y ∷ ys)
    by (Some z) e rest k = inr (rest (e ∙ k))
    by None e rest k = here (has_name item_name q y) k

recipe_is : (x : ℕ × AstItem) (file : ℕ) (r : AstRecipe) → recipe_in x ≡ Some (file, r) → x ≡ (file, item.Recipe r)
recipe_is (n, item.Recipe s) file r h = ap (λ (p : ℕ × AstRecipe). (p.0, item.Recipe p.1)) (let same : (n, s) ≡ (file, r) = cc in same)
recipe_is (n, item.Blank) file r h = absurd (let no : ⊥ = cc in no)
recipe_is (n, item.Comment text) file r h = absurd (let no : ⊥ = cc in no)
recipe_is (n, item.Alias name target comment) file r h = absurd (let no : ⊥ = cc in no)
recipe_is (n, item.Import optional path comment) file r h = absurd (let no : ⊥ = cc in no)
recipe_is (n, item.Module attributes optional name path comment) file r h = absurd (let no : ⊥ = cc in no)
recipe_is (n, item.Assignment export name value comment) file r h = absurd (let no : ⊥ = cc in no)
recipe_is (n, item.Unexport name comment) file r h = absurd (let no : ⊥ = cc in no)
recipe_is (n, item.Setting name value comment) file r h = absurd (let no : ⊥ = cc in no)

module _ (wins : Wins) (layout : Layout) where
  -- a recipe stands in the module of that number
  pub record Stands (number file : ℕ) (r : AstRecipe) : Type 0 where
    pub parent : Module
    pub parent_is : slice_get layout.modules number ≡ Some parent
    pub among : IsIn (file, item.Recipe r) (standing_recipe_items wins layout.files parent)

  abbrev ItemOf : Option Module → List ℕ → Option (ℕ × AstItem)
  ItemOf o name = option_and_then (λ (m : Module). named item_name name (standing_recipe_items wins layout.files m)) o

  stands_by : (number : ℕ) (name : List ℕ) (file : ℕ) (r : AstRecipe) (o : Option Module) → slice_get layout.modules number ≡ o → option_and_then recipe_in (ItemOf o name) ≡ Some (file, r) → Stands number file r
  stands_by number name file r None e h = absurd (let no : ⊥ = cc in no)
  stands_by number name file r (Some m) e h = by (named item_name name (standing_recipe_items wins layout.files m)) refl h
    where
      by : (x : Option (ℕ × AstItem)) → named item_name name (standing_recipe_items wins layout.files m) ≡ x → option_and_then recipe_in x ≡ Some (file, r) → Stands number file r
      by None k l = absurd (let no : ⊥ = cc in no)
      by (Some x) k l = record {
        parent = m;
        parent_is = e;
        among = subst (λ (y : ℕ × AstItem). IsIn y (standing_recipe_items wins layout.files m)) (recipe_is x file r l) (named_in name (standing_recipe_items wins layout.files m) x k);
      }

  stands : (number : ℕ) (name : List ℕ) (file : ℕ) (r : AstRecipe) → recipe_named wins layout number name ≡ Some (file, r) → Stands number file r
  stands number name file r h = stands_by number name file r (slice_get layout.modules number) refl h

  same_recipe : (m number file n : ℕ) (r s : AstRecipe) → Found_recipe m n s ≡ Found_recipe number file r → (m ≡ number) × (◌≡◌ {A = Option (ℕ × AstRecipe)} (Some (n, s)) (Some (file, r)))
  same_recipe m number file n r s h = (ap number_of h, ap found_of h)
    where
      number_of : Target → ℕ
      number_of (Found_recipe k l t) = k
      number_of (Found_module k) = 0
      number_of Found_absent = 0
      number_of (Found_nothing name) = 0

      found_of : Target → Option (ℕ × AstRecipe)
      found_of (Found_recipe k l t) = Some (l, t)
      found_of (Found_module k) = None
      found_of Found_absent = None
      found_of (Found_nothing name) = None

  -- the last name of a path leads to such a recipe
  abbrev Leads : (ℕ → Name → Target) → Type 0
  Leads last = (m : ℕ) (n : Name) (number file : ℕ) (r : AstRecipe) → last m n ≡ Found_recipe number file r → Stands number file r

  not_absent : (b : Bool) (n : Name) (number file : ℕ) (r : AstRecipe) → absent_or (Found_nothing n) b ≡ Found_recipe number file r → ⊥
  not_absent true n number file r h = cc
  not_absent false n number file r h = cc

  not_module : (o : Option ℕ) (b : Bool) (n : Name) (number file : ℕ) (r : AstRecipe) → module_or (absent_or (Found_nothing n) b) o ≡ Found_recipe number file r → ⊥
  not_module None b n number file r h = not_absent b n number file r h
  not_module (Some k) b n number file r h = cc

  recipe_leads : (otherwise : Target) (m : ℕ) (n : Name) (number file : ℕ) (r : AstRecipe) → (otherwise ≡ Found_recipe number file r → ⊥) → recipe_or otherwise m (recipe_named wins layout m n.text) ≡ Found_recipe number file r → Stands number file r
  recipe_leads otherwise m n number file r not h = by (recipe_named wins layout m n.text) refl h
    where
      by : (o : Option (ℕ × AstRecipe)) → recipe_named wins layout m n.text ≡ o → recipe_or otherwise m o ≡ Found_recipe number file r → Stands number file r
      by None e k = absurd (not k)
      by (Some x) e k =
          let same = same_recipe m number file x.0 r x.1 k in
          subst (λ (l : ℕ). Stands l file r) same.0 (stands m n.text file r (e ∙ same.1))

  dependency_leads : Leads (dependency_end wins layout)
  dependency_leads m n number file r h = recipe_leads (Found_nothing n) m n number file r (λ e. let no : ⊥ = cc in no) h

  alias_leads : Leads (alias_end wins layout)
  alias_leads m n number file r h =
      recipe_leads (module_or (absent_or (Found_nothing n) (is_absent layout m n.text)) (child layout m n.text)) m n number file r
      (λ e. not_module (child layout m n.text) (is_absent layout m n.text) n number file r e) h

  path_leads : (last : ℕ → Name → Target) → Leads last → (names : List Name) (m number file : ℕ) (r : AstRecipe) → target_with last layout names m ≡ Found_recipe number file r → Stands number file r
  path_leads last leads [] m number file r h = absurd (let no : ⊥ = cc in no)
  path_leads last leads (n ∷ []) m number file r h = leads m n number file r h
  path_leads last leads (n ∷ n' ∷ names) m number file r h = by (child layout m n.text) (λ inner e. path_leads last leads (n' ∷ names) inner number file r e) h
    where
      by : (o : Option ℕ) → ((inner : ℕ) → target_with last layout (n' ∷ names) inner ≡ Found_recipe number file r → Stands number file r) → behind last layout (target_with last layout (n' ∷ names)) n m o ≡ Found_recipe number file r → Stands number file r
      by None further k = absurd (not_absent (is_absent layout m n.text) n number file r k)
      by (Some inner) further k = further inner k

  -- the recipe that a dependency's path comes to stands, and so does that of an alias's
  pub dependency_stands : (names : List Name) (m number file : ℕ) (r : AstRecipe) → dependency_target wins layout m names ≡ Found_recipe number file r → Stands number file r
  dependency_stands names m number file r h = path_leads (dependency_end wins layout) dependency_leads names m number file r h

  pub alias_stands : (names : List Name) (m number file : ℕ) (r : AstRecipe) → alias_target wins layout m names ≡ Found_recipe number file r → Stands number file r
  alias_stands names m number file r h = path_leads (alias_end wins layout) alias_leads names m number file r h
