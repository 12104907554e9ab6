-- The tables of the modules' names, beside the modules.
use Rattle.std.proofs.Common.{◌≡◌, ℕ, zero, suc, ◌+◌, false, List, [], ◌∷◌, ◌++◌, Option, refl, sym, ap, ◌∙◌}
use Rattle.std.specs.Prelude.{is_some, slice_get}
use Rattle.std.specs.List.{enumerate_from, flat_map, list_any}
use Rattle.std.specs.Option.{option_and_then, option_map_or}
use Rattle.just_lang_syntax.specs.declared.ast.AstItem.{AstItem}
use Rattle.just_lang_layout.specs.declared.layout.File.{File}
use Rattle.just_lang_layout.specs.declared.layout.Module.{Module}
use Rattle.just_lang_spots.specs.Entries.{last_place, place_in}
use Rattle.just_lang_spots.specs.Items.{item_name}
use Rattle.just_lang_spots.specs.Standing.{Wins, has_name, named}
use Rattle.just_lang_spots.proofs.LastPlaces.{some_last, named_is, in_range}
use Rattle.just_lang_names.specs.declared.names.ModuleNames.{ModuleNames}
use Rattle.just_lang_names.specs.HashedPlaces.{hashed_place}
use Rattle.just_lang_names.specs.Names.{IsModuleNames, AreModuleNames}
use Rattle.just_lang_names.specs.Standing.{standing_recipe_items, absent_items}
use Rattle.just_lang_names.specs.Targets.{recipe_by}

pub names_more : (wins : Wins) (files : List File) (ms : List Module) (ns : List ModuleNames) (m : Module) (n : ModuleNames)
    → AreModuleNames wins files ms ns → IsModuleNames wins files m n → AreModuleNames wins files (ms ++ m ∷ []) (ns ++ n ∷ [])
names_more wins files [] [] m n h k = (k, tt)
names_more wins files [] (y ∷ ns) m n h k = absurd h
names_more wins files (x ∷ ms) [] m n h k = absurd h
names_more wins files (x ∷ ms) (y ∷ ns) m n h k = (h.0, names_more wins files ms ns m n h.1 k)

-- ---- what the tables give and what the modules give

module _ {Z : Type 0} (of_module : ℕ × Module → List Z) (of_names : ℕ × ModuleNames → List Z) (wins : Wins) (files : List File) where
  pub given_same : ((k : ℕ) (m : Module) (n : ModuleNames) → IsModuleNames wins files m n → of_names (k, n) ≡ of_module (k, m))
      → (k : ℕ) (ms : List Module) (ns : List ModuleNames) → AreModuleNames wins files ms ns
      → flat_map of_names (enumerate_from k ns) ≡ flat_map of_module (enumerate_from k ms)
  given_same is k [] [] h = refl
  given_same is k [] (n ∷ ns) h = absurd h
  given_same is k (m ∷ ms) [] h = absurd h
  given_same is k (m ∷ ms) (n ∷ ns) h =
      ap (λ ys. ys ++ flat_map of_names (enumerate_from (k + 1) ns)) (is k m n h.0) ∙ ap (λ ys. of_module (k, m) ++ ys) (given_same is (k + 1) ms ns h.1)

-- ---- names in the tables

-- the table of the module of that number knows which modules may be missing and are
pub absent_at : (wins : Wins) (files : List File) (ms : List Module) (ns : List ModuleNames) → AreModuleNames wins files ms ns → (k : ℕ) (q : List ℕ)
    → option_map_or (λ (n : ModuleNames). is_some (place_in n.absent_places q)) (slice_get ns k) false
    ≡ option_map_or (λ (m : Module). list_any (has_name item_name q) (absent_items files m)) (slice_get ms k) false
absent_at wins files [] [] h k q = refl
absent_at wins files [] (n ∷ ns) h k q = absurd h
absent_at wins files (m ∷ ms) [] h k q = absurd h
absent_at wins files (m ∷ ms) (n ∷ ns) h zero q = ap is_some (h.0.absent_places_are q) ∙ some_last item_name q (absent_items files m)
absent_at wins files (m ∷ ms) (n ∷ ns) h (suc k) q = absent_at wins files ms ns h.1 k q

-- and which recipe of that name stands
pub recipe_item_at : (wins : Wins) (files : List File) (ms : List Module) (ns : List ModuleNames) → AreModuleNames wins files ms ns → (k : ℕ) (q : List ℕ)
    → option_and_then (λ (n : ModuleNames). recipe_by n q) (slice_get ns k)
    ≡ option_and_then (λ (m : Module). named item_name q (standing_recipe_items wins files m)) (slice_get ms k)
recipe_item_at wins files [] [] h k q = refl
recipe_item_at wins files [] (n ∷ ns) h k q = absurd h
recipe_item_at wins files (m ∷ ms) [] h k q = absurd h
recipe_item_at wins files (m ∷ ms) (n ∷ ns) h zero q =
    ap (λ xs. option_and_then (slice_get xs) (hashed_place n.recipe_places q)) h.0.recipes_are
    ∙ ap (option_and_then (slice_get (standing_recipe_items wins files m))) (h.0.recipe_places_are q)
    ∙ sym (named_is item_name q (standing_recipe_items wins files m))
recipe_item_at wins files (m ∷ ms) (n ∷ ns) h (suc k) q = recipe_item_at wins files ms ns h.1 k q

-- and whether a variable stands
pub variable_is : (xs : List (ℕ × AstItem)) (q : List ℕ) (o : Option ℕ) → o ≡ last_place item_name q xs → is_some o ≡ is_some (named item_name q xs)
variable_is xs q o h = ap is_some h ∙ sym (ap is_some (named_is item_name q xs) ∙ in_range item_name q xs)
