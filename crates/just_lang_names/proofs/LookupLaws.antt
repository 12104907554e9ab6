-- What the tables of names answer, beside what the names mean.
use Rattle.std.proofs.Common.{◌≡◌, ℕ, false, List, Option, Some, None, refl, sym, ap, ◌∙◌}
use Rattle.std.specs.Prelude.{is_some, slice_get, unwrap_or}
use Rattle.std.specs.Option.{option_and_then, option_map, option_map_or}
use Rattle.std.proofs.lemmas.Option.{slice_get-map}
use Rattle.just_lang_syntax.specs.declared.ast.AstItem.{AstItem}
use Rattle.just_lang_spots.specs.declared.entries.Entry.{Entry}
use Rattle.just_lang_spots.specs.Entries.{entry, entries, place_in}
use Rattle.just_lang_spots.specs.Items.{recipe_in}
use Rattle.just_lang_names.specs.declared.names.ModuleNames.{ModuleNames}
use Rattle.just_lang_names.specs.declared.names.Names.{Names}
use Rattle.just_lang_names.specs.declared.target.FoundRecipe.{FoundRecipe}
use Rattle.just_lang_names.specs.Lookup.{child, is_absent, recipe_named}
use Rattle.just_lang_names.specs.HashedPlaces.{hashed_place}
use Rattle.just_lang_names.specs.Names.{AreNames, layout_of, wins_of, child_in}
use Rattle.just_lang_names.specs.Targets.{recipe_by, IsOf, IsFoundIn, IsFound}
use Rattle.just_lang_names.proofs.PathLaws.{child_is}
use Rattle.just_lang_names.proofs.TableLaws.{absent_at, recipe_item_at}

-- ---- modules

-- by the number of the path of the module of that number
pub child_by : (names : Names) (number : ℕ) (q : List ℕ) (own : Option ℕ) → AreNames names → unwrap_or (slice_get names.numbers.items number) None ≡ own
    → option_and_then (λ (k : ℕ). child_in names.children k q) own ≡ child (layout_of names) number q
child_by names number q own are h =
    ap (option_and_then (λ (k : ℕ). child_in names.children k q)) (sym h)
    ∙ elim (slice_get names.numbers.items number) as (λ (o : Option (Option ℕ)). option_and_then (λ (k : ℕ). child_in names.children k q) (unwrap_or o None)
    ≡ option_and_then (λ (p : Option ℕ). option_and_then (λ (k : ℕ). child_in names.children k q) p) o) [
      | None ↦ refl
      | Some p ↦ refl
    ]
    ∙ child_is (layout_of names).modules names.numbers.items names.children number q are.numbers_are are.children_are

pub absent_by : (names : Names) (number : ℕ) (q : List ℕ) (o : Option ModuleNames) → AreNames names → slice_get names.modules.items number ≡ o
    → option_map_or (λ (n : ModuleNames). is_some (place_in n.absent_places q)) o false ≡ is_absent (layout_of names) number q
absent_by names number q o are h =
    ap (λ (p : Option ModuleNames). option_map_or (λ (n : ModuleNames). is_some (place_in n.absent_places q)) p false) (sym h)
    ∙ absent_at (wins_of names) (layout_of names).files (layout_of names).modules names.modules.items are.modules_are number q

-- ---- recipes

pub recipe_from : (names : Names) (number : ℕ) (q : List ℕ) (o : Option ModuleNames) → AreNames names → slice_get names.modules.items number ≡ o
    → option_and_then recipe_in (option_and_then (λ (n : ModuleNames). recipe_by n q) o) ≡ recipe_named (wins_of names) (layout_of names) number q
recipe_from names number q o are h =
    ap (λ (p : Option ModuleNames). option_and_then recipe_in (option_and_then (λ (n : ModuleNames). recipe_by n q) p)) (sym h)
    ∙ ap (option_and_then recipe_in) (recipe_item_at (wins_of names) (layout_of names).files (layout_of names).modules names.modules.items are.modules_are number q)

-- ---- the tables of a module

pub entries_get : (xs : List Entry) (place : ℕ) → slice_get (entries xs) place ≡ option_map entry (slice_get xs place)
entries_get xs place = slice_get-map entry xs place

-- the recipe at a place
pub recipe_from_place : (n : ModuleNames) (place : ℕ) (o : Option (ℕ × AstItem)) → o ≡ slice_get (entries n.recipes.items) place
    → option_and_then recipe_in o ≡ option_and_then recipe_in (slice_get (entries n.recipes.items) place)
recipe_from_place n place o h = ap (option_and_then recipe_in) h

-- and the recipe at the place of a name
pub recipe_from_name : (n : ModuleNames) (q : List ℕ) (o : Option ℕ) → o ≡ hashed_place n.recipe_places q
    → option_and_then recipe_in (option_and_then (slice_get (entries n.recipes.items)) o) ≡ option_and_then recipe_in (recipe_by n q)
recipe_from_name n q o h = ap (λ (k : Option ℕ). option_and_then recipe_in (option_and_then (slice_get (entries n.recipes.items)) k)) h

-- it stands there
pub found_of : (n : ModuleNames) (place : ℕ) (x : ℕ × AstItem) (o : Option FoundRecipe) → Some x ≡ slice_get (entries n.recipes.items) place → IsOf place x o → IsFoundIn n o
found_of n place x None h k = tt
found_of n place x (Some r) h k =
    ap (slice_get (entries n.recipes.items)) k.0 ∙ sym h ∙ ap (λ (f : ℕ). Some (f, x.1)) (sym k.1) ∙ ap (λ (y : AstItem). Some (r.file, y)) k.2

pub found_in : (names : Names) (number : ℕ) (n : ModuleNames) (o : Option FoundRecipe) → slice_get names.modules.items number ≡ Some n → IsFoundIn n o → IsFound names number o
found_in names number n None h k = tt
found_in names number n (Some r) h k = ap (option_and_then (λ (m : ModuleNames). slice_get (entries m.recipes.items) r.place)) h ∙ k
