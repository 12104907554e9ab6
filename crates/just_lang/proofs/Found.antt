-- A recipe is found by its path.
use Rattle.std.proofs.Common.{◌≡◌, ◌≢◌, inl, inr, ℕ, zero, suc, ◌+◌, Bool, true, false, ◌&&◌, cond, List, [], ◌∷◌, ◌++◌, map, Option, Some, refl, sym, ap, ◌∙◌, subst}
use Rattle.std.specs.Prelude.{slice_get, filter, find, bytes_eq, Contains}
use Rattle.std.specs.List.{AllByRecursion, enumerate_from, list_any}
use Rattle.std.specs.Cmp.Lexicographic.{pointwise, nat_list_eq_equiv, lists_equiv}
use Rattle.std.proofs.lemmas.List.Elements.{Contains-append_left, Contains-append_right, Contains-push}
use Rattle.std.proofs.lemmas.Slice.Eq.{bytes_eq-Decides}
use Rattle.just_lang_syntax.specs.declared.ast.AstItem.{AstItem}
use Rattle.just_lang_syntax.specs.declared.ast.AstItem.TheVariants as item
use Rattle.just_lang_syntax.specs.declared.ast.AstRecipe.{AstRecipe}
use Rattle.just_lang_syntax.specs.declared.ast.StringLiteral.{StringLiteral}
use Rattle.just_lang_types.specs.Keys.{same_path}
use Rattle.just_lang_types.specs.declared.project.Justfile.{Justfile}
use Rattle.just_lang_types.specs.declared.recipe.Modulepath.{Modulepath}
use Rattle.just_lang_types.specs.declared.recipe.Parameter.{Parameter}
use Rattle.just_lang_types.specs.declared.recipe.Recipe.{Recipe}
use Rattle.just_lang_layout.specs.declared.layout.File.{File}
use Rattle.just_lang_layout.specs.declared.layout.Layout.{Layout}
use Rattle.just_lang_layout.specs.declared.layout.Module.{Module}
use Rattle.just_lang_layout.specs.Items.{items_of_module}
use Rattle.just_lang_spots.specs.Items.{item_name, is_recipe_here}
use Rattle.just_lang_spots.specs.Standing.{Wins, has_name, last_of_each, unbeaten, standing}
use Rattle.just_lang_shapes.specs.Parameters.{parameters_of}
use Rattle.just_lang_shapes.specs.Recipes.{path_within, recipe_of}
use Rattle.just_lang_types.specs.Modules.{Located, located, path_of, recipe_at, recipes_of}
use Rattle.just_lang_justfile.specs.Links.{Links}
use Rattle.just_lang_justfile.specs.Recipes as made
use Rattle.just_lang_justfile.specs.Standing.{standing_recipes, names_of}
use Rattle.just_lang_justfile.specs.Trees.{AreModulesOf}
use Rattle.just_lang.proofs.Lists.{left_false, right_false, differs}
use Rattle.just_lang.proofs.SoundPaths.{AreApart}
use Rattle.just_lang.proofs.Targets.{IsIn, Stands}

-- ---- paths

last_is : (p q : List (List ℕ)) (a b : List ℕ) → p ++ a ∷ [] ≡ q ++ b ∷ [] → (p ≡ q) × (a ≡ b)
last_is [] [] a b h = (refl, cc)
last_is [] (y ∷ []) a b h = absurd (let no : ⊥ = cc in no)
last_is [] (y ∷ z ∷ q) a b h = absurd (let no : ⊥ = cc in no)
last_is (x ∷ []) [] a b h = absurd (let no : ⊥ = cc in no)
last_is (x ∷ w ∷ p) [] a b h = absurd (let no : ⊥ = cc in no)
last_is (x ∷ p) (y ∷ q) a b h =
    let rest = last_is p q a b (let tails : p ++ a ∷ [] ≡ q ++ b ∷ [] = cc in tails) in
    let first : x ≡ y = cc in
    (ap (λ (z : List ℕ). z ∷ p) first ∙ ap (λ (l : List (List ℕ)). y ∷ l) rest.0, rest.1)

same_lists : (xs ys : List (List ℕ)) → pointwise bytes_eq xs ys ≡ true → xs ≡ ys
same_lists [] [] h = refl
same_lists [] (y ∷ ys) h = absurd (let no : ⊥ = cc in no)
same_lists (x ∷ xs) [] h = absurd (let no : ⊥ = cc in no)
same_lists (x ∷ xs) (y ∷ ys) h = by (bytes_eq x y) refl (λ e. same_lists xs ys e) h
  where
    by : (b : Bool) → bytes_eq x y ≡ b → (pointwise bytes_eq xs ys ≡ true → xs ≡ ys) → (b && pointwise bytes_eq xs ys) ≡ true → x ∷ xs ≡ y ∷ ys
    by true e rest k = ap (λ (z : List ℕ). z ∷ xs) ((bytes_eq-Decides x y).0 e) ∙ ap (λ (l : List (List ℕ)). y ∷ l) (rest k)
    by false e rest k = absurd (let no : ⊥ = cc in no)

path_itself : (p : Modulepath) → same_path p p ≡ true
path_itself p = (lists_equiv nat_list_eq_equiv).refl p.components

other_path : (p q : Modulepath) (a b : List ℕ) → ((p.components ≡ q.components) → (a ≡ b) → ⊥) → same_path (path_within p a) (path_within q b) ≡ false
other_path p q a b differ = by (same_path (path_within p a) (path_within q b)) refl
  where
    by : (t : Bool) → same_path (path_within p a) (path_within q b) ≡ t → t ≡ false
    by false e = refl
    by true e = absurd (let is = last_is p.components q.components a b (same_lists (p.components ++ a ∷ []) (q.components ++ b ∷ []) e) in differ is.0 is.1)

-- ---- finding

find_left : {A : Type 0} (test : A → Bool) (xs ys : List A) (x : A) → find test xs ≡ Some x → find test (xs ++ ys) ≡ Some x
find_left test [] ys x h = absurd (let no : ⊥ = cc in no)
find_left test (y ∷ xs) ys x h = by (test y) (λ e. find_left test xs ys x e) h
  where
    by : (b : Bool) → (find test xs ≡ Some x → find test (xs ++ ys) ≡ Some x) → cond b (Some y) (find test xs) ≡ Some x → cond b (Some y) (find test (xs ++ ys)) ≡ Some x
    by true rest k = k
    by false rest k = rest k

find_right : {A : Type 0} (test : A → Bool) (xs ys : List A) → AllByRecursion (λ x. test x ≡ false) xs → find test (xs ++ ys) ≡ find test ys
find_right test [] ys h = refl
find_right test (x ∷ xs) ys h = ap (λ b. cond b (Some x) (find test (xs ++ ys))) h.0 ∙ find_right test xs ys h.1

-- names of which no two are equal, by cases
abbrev pub AreNamed : List (List ℕ) → Type 0
AreNamed [] = Unit {0}
AreNamed (x ∷ xs) = AllByRecursion (λ (y : List ℕ). y ≢ x) xs × AreNamed xs

-- ---- in one module

abbrev in_module : Justfile → List Recipe → List Located
in_module j rs = map (λ (r : Recipe). record { parent = j; recipe = r }) rs

abbrev has_path : Modulepath → Located → Bool
has_path path l = same_path l.recipe.path path

module _ (text_of : StringLiteral → Option (List ℕ)) (links : Links) (number : ℕ) (files : List File) (path : Modulepath) where
  path_is : (file : ℕ) (r : AstRecipe) → (made.recipe_in links number text_of files path file r).path ≡ path_within path r.name.text
  unfolding recipe_of
  path_is file r = refl

  abbrev recipes : List (ℕ × AstItem) → List Recipe
  recipes xs = made.recipes_of links number text_of files path xs

  test_is : (j : Justfile) (file : ℕ) (r : AstRecipe) (q : Modulepath) (b : Bool) → same_path (path_within path r.name.text) q ≡ b
      → has_path q (record { parent = j; recipe = made.recipe_in links number text_of files path file r }) ≡ b
  test_is j file r q b h = ap (λ (p : Modulepath). same_path p q) (path_is file r) ∙ h

  -- none has the path of a recipe in another module
  elsewhere : (j : Justfile) (other : Modulepath) (name : List ℕ) → ((path.components ≡ other.components) → ⊥) → (xs : List (ℕ × AstItem))
      → AllByRecursion (λ (l : Located). has_path (path_within other name) l ≡ false) (in_module j (recipes xs))
  elsewhere j other name differ [] = tt
  elsewhere j other name differ ((n, item.Recipe r) ∷ xs) =
      (test_is j n r (path_within other name) false (other_path path other r.name.text name (λ same e. differ same)), elsewhere j other name differ xs)
  elsewhere j other name differ ((n, item.Blank) ∷ xs) = elsewhere j other name differ xs
  elsewhere j other name differ ((n, item.Comment text) ∷ xs) = elsewhere j other name differ xs
  elsewhere j other name differ ((n, item.Alias alias target comment) ∷ xs) = elsewhere j other name differ xs
  elsewhere j other name differ ((n, item.Import optional inner comment) ∷ xs) = elsewhere j other name differ xs
  elsewhere j other name differ ((n, item.Module attributes optional inner_name inner comment) ∷ xs) = elsewhere j other name differ xs
  elsewhere j other name differ ((n, item.Assignment export variable value comment) ∷ xs) = elsewhere j other name differ xs
  elsewhere j other name differ ((n, item.Unexport variable comment) ∷ xs) = elsewhere j other name differ xs
  elsewhere j other name differ ((n, item.Setting setting value comment) ∷ xs) = elsewhere j other name differ xs

  in_names : (x : ℕ × AstItem) (xs : List (ℕ × AstItem)) (q : List ℕ) → AllByRecursion (λ (y : List ℕ). y ≢ q) (names_of xs) → IsIn x xs → item_name x.1 ≢ q
  in_names x [] q h i = absurd i
  in_names x (y ∷ ys) q h (inl e) = subst (λ (z : ℕ × AstItem). item_name z.1 ≢ q) e h.0
  in_names x (y ∷ ys) q h (inr i) = in_names x ys q h.1 i

  abbrev Finds : Justfile → ℕ → AstRecipe → List (ℕ × AstItem) → Type 0
  Finds j file r xs = find (has_path (path_within path r.name.text)) (in_module j (recipes xs)) ≡ Some (record { parent = j; recipe = made.recipe_in links number text_of files path file r })

  past : (j : Justfile) (file : ℕ) (r : AstRecipe) (n : ℕ) (s : AstRecipe) (xs : List (ℕ × AstItem)) → s.name.text ≢ r.name.text → Finds j file r xs → Finds j file r ((n, item.Recipe s) ∷ xs)
  past j file r n s xs differ h =
      ap (λ (b : Bool). cond b (Some (record { parent = j; recipe = made.recipe_in links number text_of files path n s })) (find (has_path (path_within path r.name.text)) (in_module j (recipes xs))))
      (test_is j n s (path_within path r.name.text) false (other_path path path s.name.text r.name.text (λ same e. differ e))) ∙ h

  here : (j : Justfile) (file : ℕ) (r : AstRecipe) (xs : List (ℕ × AstItem)) → Finds j file r ((file, item.Recipe r) ∷ xs)
  here j file r xs =
      ap (λ (b : Bool). cond b (Some (record { parent = j; recipe = made.recipe_in links number text_of files path file r })) (find (has_path (path_within path r.name.text)) (in_module j (recipes xs))))
      (test_is j file r (path_within path r.name.text) true (path_itself (path_within path r.name.text)))

  apart_from : (file : ℕ) (r : AstRecipe) (xs : List (ℕ × AstItem)) (q : List ℕ) → AllByRecursion (λ (y : List ℕ). y ≢ q) (names_of xs) → IsIn (file, item.Recipe r) xs → q ≢ r.name.text
  apart_from file r xs q h i e = in_names (file, item.Recipe r) xs q h i (sym e)

  found_in : (j : Justfile) (file : ℕ) (r : AstRecipe) (xs : List (ℕ × AstItem)) → AreNamed (names_of xs) → IsIn (file, item.Recipe r) xs → Finds j file r xs
  found_in j file r [] h i = absurd i
  found_in j file r (x ∷ xs) h (inl e) = subst (λ (y : ℕ × AstItem). Finds j file r (y ∷ xs)) (sym e) (here j file r xs)
  found_in j file r ((n, item.Recipe s) ∷ xs) h (inr i) = past j file r n s xs (apart_from file r xs s.name.text h.0 i) (found_in j file r xs h.1 i)
  found_in j file r ((n, item.Blank) ∷ xs) h (inr i) = found_in j file r xs h.1 i
  found_in j file r ((n, item.Comment text) ∷ xs) h (inr i) = found_in j file r xs h.1 i
  found_in j file r ((n, item.Alias alias target comment) ∷ xs) h (inr i) = found_in j file r xs h.1 i
  found_in j file r ((n, item.Import optional inner comment) ∷ xs) h (inr i) = found_in j file r xs h.1 i
  found_in j file r ((n, item.Module attributes optional inner_name inner comment) ∷ xs) h (inr i) = found_in j file r xs h.1 i
  found_in j file r ((n, item.Assignment export variable value comment) ∷ xs) h (inr i) = found_in j file r xs h.1 i
  found_in j file r ((n, item.Unexport variable comment) ∷ xs) h (inr i) = found_in j file r xs h.1 i
  found_in j file r ((n, item.Setting setting value comment) ∷ xs) h (inr i) = found_in j file r xs h.1 i

-- ---- names of the last ones of each name

names_apart : (q : List ℕ) (xs : List (ℕ × AstItem)) → list_any (has_name item_name q) xs ≡ false → AllByRecursion (λ (y : List ℕ). y ≢ q) (names_of (last_of_each item_name xs))
names_apart q [] h = tt
names_apart q (x ∷ xs) h =
    kept (list_any (has_name item_name (item_name x.1)) xs) (differs (item_name x.1) q (left_false (has_name item_name q x) (list_any (has_name item_name q) xs) h))
    (names_apart q xs (right_false (has_name item_name q x) (list_any (has_name item_name q) xs) h))
  where
    kept : (b : Bool) → item_name x.1 ≢ q → AllByRecursion (λ (y : List ℕ). y ≢ q) (names_of (last_of_each item_name xs))
        → AllByRecursion (λ (y : List ℕ). y ≢ q) (names_of (cond b (last_of_each item_name xs) (x ∷ last_of_each item_name xs)))
    kept true n k = k
    kept false n k = (n, k)

names_once : (xs : List (ℕ × AstItem)) → AreNamed (names_of (last_of_each item_name xs))
names_once [] = tt
names_once (x ∷ xs) = kept (list_any (has_name item_name (item_name x.1)) xs) refl (names_once xs)
  where
    kept : (b : Bool) → list_any (has_name item_name (item_name x.1)) xs ≡ b → AreNamed (names_of (last_of_each item_name xs)) → AreNamed (names_of (cond b (last_of_each item_name xs) (x ∷ last_of_each item_name xs)))
    kept true e k = k
    kept false e k = (names_apart (item_name x.1) xs e, k)

-- no two that stand have one name
pub standing_named : (wins : Wins) (xs : List (ℕ × AstItem)) → AreNamed (names_of (standing item_name wins xs))
standing_named wins xs = names_once (unbeaten item_name wins xs)

-- ---- in all modules

module_at : (ms : List Module) (k : ℕ) (parent : Module) (P : Module → Type 0) → slice_get ms k ≡ Some parent → AllByRecursion P ms → P parent
module_at [] k parent P h all = absurd (let no : ⊥ = cc in no)
module_at (m ∷ ms) zero parent P h all = subst P (let same : m ≡ parent = cc in same) all.0
module_at (m ∷ ms) (suc k) parent P h all = module_at ms k parent P h all.1

module _ (text_of : StringLiteral → Option (List ℕ)) (links : Links) (wins : Wins) (layout : Layout) where
  -- the recipe of a path is one with those parameters
  abbrev pub IsFoundWith : List Justfile → Modulepath → List Parameter → Type 0
  IsFoundWith modules path parameters = (l : Located) × (recipe_at modules path ≡ Some l) × (l.recipe.parameters ≡ parameters)

  parameters_are : (number : ℕ) (path : Modulepath) (file : ℕ) (r : AstRecipe) → (made.recipe_in links number text_of layout.files path file r).parameters ≡ parameters_of text_of r.attributes r.parameters
  unfolding recipe_of
  parameters_are number path file r = refl

  found_from : (n : ℕ) (ms : List Module) (js : List Justfile) (k : ℕ) (parent : Module) (file : ℕ) (r : AstRecipe) → AreModulesOf text_of links wins layout (enumerate_from n ms) js → AreApart ms
      → slice_get ms k ≡ Some parent → IsIn (file, item.Recipe r) (standing_recipes wins (items_of_module layout.files parent))
      → IsFoundWith js (path_within parent.path r.name.text) (parameters_of text_of r.attributes r.parameters)
  found_from n [] js k parent file r h apart at i = absurd (let no : ⊥ = cc in no)
  found_from n (m ∷ ms) [] k parent file r h apart at i = absurd h
  found_from n (m ∷ ms) (j ∷ js) zero parent file r h apart at i =
      let same : m ≡ parent = cc in
      let xs = standing_recipes wins (items_of_module layout.files m) in
      let among : IsIn (file, item.Recipe r) xs = subst (λ (p : Module). IsIn (file, item.Recipe r) (standing_recipes wins (items_of_module layout.files p))) (sym same) i in
      let l : Located = record { parent = j; recipe = made.recipe_in links n text_of layout.files m.path file r } in
      let one : find (has_path (path_within m.path r.name.text)) (in_module j (recipes_of j)) ≡ Some l =
      ap (λ (rs : List Recipe). find (has_path (path_within m.path r.name.text)) (in_module j rs)) h.0.0.recipes
      ∙ found_in text_of links n layout.files m.path j file r xs (standing_named wins (filter is_recipe_here (items_of_module layout.files m))) among in
      subst (λ (p : Module). IsFoundWith (j ∷ js) (path_within p.path r.name.text) (parameters_of text_of r.attributes r.parameters)) same
      (l, find_left (has_path (path_within m.path r.name.text)) (in_module j (recipes_of j)) (located js) l one, parameters_are n m.path file r)
  found_from n (m ∷ ms) (j ∷ js) (suc k) parent file r h apart at i =
      let differ : parent.path.components ≢ m.path.components = module_at ms k parent (λ (p : Module). p.path.components ≢ m.path.components) at apart.0 in
      let xs = standing_recipes wins (items_of_module layout.files m) in
      let none : AllByRecursion (λ (l : Located). has_path (path_within parent.path r.name.text) l ≡ false) (in_module j (recipes_of j)) =
      subst (λ (rs : List Recipe). AllByRecursion (λ (l : Located). has_path (path_within parent.path r.name.text) l ≡ false) (in_module j rs)) (sym h.0.0.recipes)
      (elsewhere text_of links n layout.files m.path j parent.path r.name.text (λ e. differ (sym e)) xs) in
      let rest = found_from (n + 1) ms js k parent file r h.1 apart.1 at i in
      (rest.0, find_right (has_path (path_within parent.path r.name.text)) (in_module j (recipes_of j)) (located js) none ∙ rest.1, rest.2)

  -- a recipe that stands is found by its path
  pub found : (js : List Justfile) (number file : ℕ) (r : AstRecipe) → AreModulesOf text_of links wins layout (enumerate_from 0 layout.modules) js → AreApart layout.modules → (s : Stands wins layout number file r)
      → IsFoundWith js (path_within s.parent.path r.name.text) (parameters_of text_of r.attributes r.parameters)
  found js number file r h apart s = found_from 0 layout.modules js number s.parent file r h apart s.parent_is s.among

  -- so is a module by its number
  inner_from : (n : ℕ) (ms : List Module) (js : List Justfile) (k : ℕ) (parent : Module) → AreModulesOf text_of links wins layout (enumerate_from n ms) js → slice_get ms k ≡ Some parent
      → (inner : Justfile) × Contains js inner × (path_of inner ≡ parent.path)
  inner_from n [] js k parent h at = absurd (let no : ⊥ = cc in no)
  inner_from n (m ∷ ms) [] k parent h at = absurd h
  inner_from n (m ∷ ms) (j ∷ js) zero parent h at = (j, Contains-append_left (j ∷ []) js j (Contains-push [] j), h.0.0.module_path ∙ ap (λ (p : Module). p.path) (let same : m ≡ parent = cc in same))
  inner_from n (m ∷ ms) (j ∷ js) (suc k) parent h at =
      let rest = inner_from (n + 1) ms js k parent h.1 at in
      (rest.0, Contains-append_right (j ∷ []) js rest.0 rest.1, rest.2)

  pub inner : (js : List Justfile) (number : ℕ) (parent : Module) → AreModulesOf text_of links wins layout (enumerate_from 0 layout.modules) js → slice_get layout.modules number ≡ Some parent
      → (one : Justfile) × Contains js one × (path_of one ≡ parent.path)
  inner js number parent h at = inner_from 0 layout.modules js number parent h at
