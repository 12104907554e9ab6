-- Items of things, and the place of a name among items by rising names.
use Rattle.std.specs.Prelude.{ℕ, ◌≡◌, ◌<◌, ◌≤◌, true, false, if◌then◌else◌, List, [], ◌∷◌, ◌++◌, length, map, slice_index_or, Option, None, option_map, IsPermutation}
use Rattle.std.specs.List.{IsDistinct}
use Rattle.std.specs.Str.{bytes_eq}
use Rattle.std.specs.FinMap.{find}
use Rattle.std.specs.FinMap.Entries.{put}
use Rattle.std.specs.Ordering.{nat_cmp, is_gt}
use Rattle.std.specs.Cmp.Lexicographic.{slice_cmp}
use Rattle.just_path.specs.View.{named, is_name, meta_of}
use Rattle.just_path.specs.declared.meta.Kind.{Kind}
use Rattle.just_path.specs.declared.meta.Item.{Item}
use Rattle.just_host_record.specs.declared.tree.Thing.{Thing}
use Rattle.just_host_record.specs.Sights.{sight_of}

-- the name is greater than each before that place, and not than the one at it
pub record IsPlaceOf (name : List ℕ) (at : ℕ) (es : List (List ℕ × Kind)) : Type 0 where
  pub inside : at ≤ length es
  pub before : (i : ℕ) (d : List ℕ × Kind) → i < at → is_gt (slice_cmp nat_cmp name (slice_index_or es i d).0) ≡ true
  pub behind : (d : List ℕ × Kind) → at < length es → is_gt (slice_cmp nat_cmp name (slice_index_or es at d).0) ≡ false

-- the kinds under their names, put in one item after the other: of those with one name the last stays
abbrev pub put_in : List (List ℕ × Kind) → List Item → List (List ℕ × Kind)
put_in kinds [] = kinds
put_in kinds (x ∷ xs) = put_in (put (slice_cmp nat_cmp) x.name x.kind kinds) xs

-- no two items have one name
abbrev pub NamesDiffer : List Item → Type 0
NamesDiffer items = IsDistinct bytes_eq (map (λ (i : Item). i.name) items)

-- the items are those that were found, each once, where no two have one name
abbrev pub AreThoseFound : List Item → List Item → Type 0
AreThoseFound found items = NamesDiffer found → IsPermutation (named found) (named items)

-- the kind of the first thing whose path is that front with the name behind it
abbrev pub kind_behind : List ℕ → List (List ℕ × Thing) → List ℕ → Option Kind
kind_behind front things name = if is_name name then option_map (λ t. (meta_of (sight_of t)).kind) (find (slice_cmp nat_cmp) (front ++ name) things) else None

-- the items are the things whose paths are a name behind that front
abbrev pub AreItemsBehind : List ℕ → List (List ℕ × Thing) → List Item → Type 0
AreItemsBehind front things items = (name : List ℕ) → find (slice_cmp nat_cmp) name (named items) ≡ kind_behind front things name
