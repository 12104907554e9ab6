-- What the code keeps of items: where they stand, and for each name its last place.
use Rattle.std.specs.Prelude.{◌≡◌, ℕ, suc, Bool, if◌then◌else◌, List, [], ◌∷◌, map, Option, Some, None}
use Rattle.std.specs.Ordering.{nat_cmp}
use Rattle.std.specs.Cmp.Lexicographic.{slice_cmp}
use Rattle.std.specs.BTreeMap.{get_by}
use Rattle.just_lang_syntax.specs.declared.ast.AstItem.{AstItem}
use Rattle.just_lang_spots.specs.declared.entries.Entry.{Entry}
use Rattle.just_lang_spots.specs.declared.index.Index.{Index}
use Rattle.just_lang_spots.specs.Standing.{has_name}
use Rattle.just_lang_spots.specs.Items.{item_name}

abbrev pub entry : Entry → ℕ × AstItem
entry x = (x.file, x.item.now)

abbrev pub entries : List Entry → List (ℕ × AstItem)
entries xs = map entry xs

abbrev pub or_place : Bool → Option ℕ → Option ℕ
or_place is_it (Some k) = Some (suc k)
or_place is_it None = if is_it then Some 0 else None

-- the place of the last one of that name
abbrev pub last_place : {A : Type 0} → (A → List ℕ) → List ℕ → List (ℕ × A) → Option ℕ
last_place name q [] = None
last_place name q (x ∷ xs) = or_place (has_name name q x) (last_place name q xs)

-- the place that an index has for a name
abbrev pub place_in : Index → List ℕ → Option ℕ
place_in index q = get_by (λ k. slice_cmp nat_cmp q k.now) index.places

-- it has for each name the place of the last item of that name
abbrev pub IsIndex : List (ℕ × AstItem) → Index → Type 0
IsIndex xs index = (q : List ℕ) → place_in index q ≡ last_place item_name q xs
