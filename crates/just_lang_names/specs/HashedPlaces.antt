-- What an index of names by their hashes has.
use Rattle.std.specs.Prelude.{◌≡◌, ℕ, Bool, false, not, if◌then◌else◌, List, Option, Some, None, bytes_eq}
use Rattle.std.specs.Option.{option_or}
use Rattle.std.specs.Ordering.{nat_cmp}
use Rattle.std.specs.Cmp.Lexicographic.{slice_cmp}
use Rattle.std.specs.BTreeMap.{get, get_by}
use Rattle.just_lang_syntax.specs.declared.ast.AstItem.{AstItem}
use Rattle.just_lang_spots.specs.Entries.{last_place}
use Rattle.just_lang_spots.specs.Items.{item_name}
use Rattle.just_lang_names.specs.declared.hashed.HashedIndex.{HashedIndex}
use Rattle.just_lang_names.specs.declared.hashed.NamedPlace.{NamedPlace}
use Rattle.just_lang_names.specs.Hashes.{name_hash}

-- whether a name is kept, and isn't this one
abbrev pub is_another : List ℕ → Option NamedPlace → Bool
is_another q None = false
is_another q (Some x) = not (bytes_eq x.name.now q)

-- the place that is kept with a name, where it is this one
abbrev pub place_of : List ℕ → Option NamedPlace → Option ℕ
place_of q None = None
place_of q (Some x) = if bytes_eq x.name.now q then Some x.place else None

-- the place that an index has for a name: the one at its hash, or else the other one
abbrev pub hashed_place : HashedIndex → List ℕ → Option ℕ
hashed_place index q = option_or (place_of q (get nat_cmp index.firsts (name_hash q))) (get_by (λ k. slice_cmp nat_cmp q k.now) index.others)

-- the later index has the place for the name, and for others what the earlier has
abbrev pub Enters : HashedIndex → List ℕ → ℕ → HashedIndex → Type 0
Enters earlier name place later = (q : List ℕ) → hashed_place later q ≡ (if bytes_eq name q then Some place else hashed_place earlier q)

-- it has for each name the place of the last item of that name
abbrev pub IsHashedIndex : List (ℕ × AstItem) → HashedIndex → Type 0
IsHashedIndex xs index = (q : List ℕ) → hashed_place index q ≡ last_place item_name q xs
