-- The last places of names among items are those among the recipes or the variables that the items are.
use Rattle.std.proofs.Common.{◌≡◌, ℕ, suc, ◌<◌, Bool, true, false, not, cond, List, [], ◌∷◌, length, Option, Some, None, refl, ap, ◌∙◌, arith}
use Rattle.std.specs.Prelude.{filter, filter_map, bytes_eq, unwrap_or}
use Rattle.std.specs.List.{cons_option, list_any, AllByRecursion as ByRecursion}
use Rattle.just_lang_syntax.specs.declared.ast.AstItem.{AstItem}
use Rattle.just_lang_syntax.specs.declared.ast.AstItem.TheVariants as item
use Rattle.just_lang_layout.specs.declared.layout.File.{File}
use Rattle.just_lang_layout.specs.declared.layout.Module.{Module}
use Rattle.just_lang_layout.specs.Items.{items_of_module}
use Rattle.just_lang_spots.specs.Entries.{last_place, or_place}
use Rattle.just_lang_spots.specs.Items.{item_name, recipe_in, is_recipe_here, variable_in, is_assignment}
use Rattle.just_lang_spots.specs.Standing.{Wins, has_name, is_beaten, unbeaten, last_of_each, standing}
use Rattle.just_lang_names.specs.Standing.{standing_recipe_items, standing_variable_items}
use Rattle.just_lang.specs.Cycles.{recipe_name, variable_name}

-- ---- what holds of each of some items holds of each of those that are kept

module _ {A : Type 0} (P : A → Type 0) where
  cond_all : (b : Bool) (x : A) (xs : List A) → P x → ByRecursion P xs → ByRecursion P (cond b (x ∷ xs) xs)
  cond_all true x xs h all = (h, all)
  cond_all false x xs h all = all

  filter_all : (test : A → Bool) (xs : List A) → ByRecursion P xs → ByRecursion P (filter test xs)
  filter_all test [] all = tt
  filter_all test (x ∷ xs) all = cond_all (test x) x (filter test xs) all.0 (filter_all test xs all.1)

  pub filtered_all : (test : A → Bool) → ((x : A) → test x ≡ true → P x) → (xs : List A) → ByRecursion P (filter test xs)
  filtered_all test h [] = tt
  filtered_all test h (x ∷ xs) =
      elim (test x) as (λ b. test x ≡ b → ByRecursion P (cond b (x ∷ filter test xs) (filter test xs))) [
        | true ↦ λ t. (h x t, filtered_all test h xs)
        | false ↦ λ f. filtered_all test h xs
      ] refl

module _ {A : Type 0} (name : A → List ℕ) (P : ℕ × A → Type 0) where
  last_all : (xs : List (ℕ × A)) → ByRecursion P xs → ByRecursion P (last_of_each name xs)
  last_all [] all = tt
  last_all (x ∷ xs) all =
      elim (list_any (has_name name (name x.1)) xs) as (λ b. ByRecursion P (cond b (last_of_each name xs) (x ∷ last_of_each name xs))) [
        | true ↦ last_all xs all.1
        | false ↦ (all.0, last_all xs all.1)
      ]

  pub standing_all : (wins : Wins) (xs : List (ℕ × A)) → ByRecursion P xs → ByRecursion P (standing name wins xs)
  standing_all wins xs all = last_all (unbeaten name wins xs) (filter_all P (λ x. not (is_beaten name wins xs x)) xs all)

-- ---- last places

-- an item is a thing of the same name
pub record IsThing {B : Type 0} (as_thing : ℕ × AstItem → Option (ℕ × B)) (name : B → List ℕ) (x : ℕ × AstItem) : Type 0 where
  pub thing : ℕ × B
  pub is : as_thing x ≡ Some thing
  pub same : name thing.1 ≡ item_name x.1

pub place_through : {B : Type 0} (as_thing : ℕ × AstItem → Option (ℕ × B)) (name : B → List ℕ) (q : List ℕ) (xs : List (ℕ × AstItem))
    → ByRecursion (IsThing as_thing name) xs → last_place name q (filter_map as_thing xs) ≡ last_place item_name q xs
place_through as_thing name q [] all = refl
place_through {B} as_thing name q (x ∷ xs) all =
    ap (λ (o : Option (ℕ × B)). last_place name q (cons_option o (filter_map as_thing xs))) all.0.is
    ∙ ap (λ t. or_place (bytes_eq t q) (last_place name q (filter_map as_thing xs))) all.0.same
    ∙ ap (or_place (bytes_eq (item_name x.1) q)) (place_through as_thing name q xs all.1)

-- there are as many
pub length_through : {B : Type 0} (as_thing : ℕ × AstItem → Option (ℕ × B)) (name : B → List ℕ) (xs : List (ℕ × AstItem))
    → ByRecursion (IsThing as_thing name) xs → length (filter_map as_thing xs) ≡ length xs
length_through as_thing name [] all = refl
length_through {B} as_thing name (x ∷ xs) all =
    ap (λ (o : Option (ℕ × B)). length (cons_option o (filter_map as_thing xs))) all.0.is ∙ ap suc (length_through as_thing name xs all.1)

-- a last place is one of the list
short_behind : (b : Bool) (o : Option ℕ) (k n : ℕ) → ((j : ℕ) → o ≡ Some j → j < n) → or_place b o ≡ Some k → k < suc n
short_behind true None k n h e = let z : 0 ≡ k = ap (λ (o : Option ℕ). unwrap_or o 0) e in omega (arith, z)
short_behind false None k n h e = absurd (cc)
short_behind b (Some j) k n h e =
    let z : suc j ≡ k = ap (λ (o : Option ℕ). unwrap_or o 0) e in
    let less : j < n = h j refl in
    omega (arith, z, less)

pub last_short : {A : Type 0} (name : A → List ℕ) (q : List ℕ) (xs : List (ℕ × A)) (k : ℕ) → last_place name q xs ≡ Some k → k < length xs
last_short name q [] k e = absurd (cc)
last_short name q (x ∷ xs) k e = short_behind (has_name name q x) (last_place name q xs) k (length xs) (last_short name q xs) e

-- ---- recipes

recipe_thing : (x : ℕ × AstItem) → is_recipe_here x ≡ true → IsThing recipe_in recipe_name x
recipe_thing (n, item.Recipe r) e = record { thing = (n, r); is = refl; same = refl }
recipe_thing (n, item.Blank) e = absurd (cc)
recipe_thing (n, item.Comment text) e = absurd (cc)
recipe_thing (n, item.Alias name target comment) e = absurd (cc)
recipe_thing (n, item.Import optional path comment) e = absurd (cc)
recipe_thing (n, item.Module attributes optional name path comment) e = absurd (cc)
recipe_thing (n, item.Assignment export name value comment) e = absurd (cc)
recipe_thing (n, item.Unexport name comment) e = absurd (cc)
recipe_thing (n, item.Setting name value comment) e = absurd (cc)

pub recipe_things : (wins : Wins) (files : List File) (m : Module) → ByRecursion (IsThing recipe_in recipe_name) (standing_recipe_items wins files m)
recipe_things wins files m =
    standing_all item_name (IsThing recipe_in recipe_name) wins (filter is_recipe_here (items_of_module files m))
    (filtered_all (IsThing recipe_in recipe_name) is_recipe_here recipe_thing (items_of_module files m))

-- ---- variables

pub variable_thing : (x : ℕ × AstItem) → is_assignment x ≡ true → IsThing variable_in variable_name x
variable_thing (n, item.Assignment export name value comment) e = record { thing = (n, record { export = export; name = name; value = value }); is = refl; same = refl }
variable_thing (n, item.Blank) e = absurd (cc)
variable_thing (n, item.Comment text) e = absurd (cc)
variable_thing (n, item.Alias name target comment) e = absurd (cc)
variable_thing (n, item.Import optional path comment) e = absurd (cc)
variable_thing (n, item.Module attributes optional name path comment) e = absurd (cc)
variable_thing (n, item.Recipe r) e = absurd (cc)
variable_thing (n, item.Unexport name comment) e = absurd (cc)
variable_thing (n, item.Setting name value comment) e = absurd (cc)

pub variable_things : (wins : Wins) (files : List File) (m : Module) → ByRecursion (IsThing variable_in variable_name) (standing_variable_items wins files m)
variable_things wins files m =
    standing_all item_name (IsThing variable_in variable_name) wins (filter is_assignment (items_of_module files m))
    (filtered_all (IsThing variable_in variable_name) is_assignment variable_thing (items_of_module files m))
