-- Lists, one more item at a time.
use Rattle.std.proofs.Common.{◌≡◌, ◌↔◌, ℕ, ◌+◌, ◌<◌, Bool, true, false, refl, List, [], ◌∷◌, length, drop, get_or, ap}
use Rattle.std.specs.Prelude.{IsTrue, Option}
use Rattle.std.specs.List.{enumerate_from}
use Rattle.just_lang_spots.specs.declared.entries.Entry.{Entry}
use Rattle.just_lang_spots.specs.Entries.{entry, entries}
use Rattle.just_lang_spots.proofs.ListLaws.{entries_drop}
use Rattle.just_lang_justfile.specs.Recipes.{if_empty}

-- the items from a place on, each with its place
pub places_here : (xs : List Entry) (i : ℕ) (x : Entry) → i < length xs → x ≡ get_or xs i x
    → enumerate_from i (entries (drop i xs)) ≡ (i, entry x) ∷ enumerate_from (i + 1) (entries (drop (i + 1) xs))
places_here xs i x h e = ap (enumerate_from i) (entries_drop xs i x h e)

-- a list that is empty, and one that isn't
pub where_empty : {A B : Type 0} (b : Bool) (xs : List A) (one other : Option B) → (IsTrue b ↔ (xs ≡ [])) → b ≡ true → if_empty xs one other ≡ one
where_empty b xs one other h e = ap (λ ys. if_empty ys one other) (h.0 e)

pub where_filled : {A B : Type 0} (b : Bool) (xs : List A) (one other : Option B) → (IsTrue b ↔ (xs ≡ [])) → b ≡ false → if_empty xs one other ≡ other
where_filled b [] one other h e = absurd (let t : b ≡ true = h.1 refl in let no : ⊥ = cc in no)
where_filled b (x ∷ xs) one other h e = refl
