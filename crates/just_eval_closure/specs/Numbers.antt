-- The numbers of keys in rounds, as a register keeps them.
use Rattle.std.specs.Prelude.{ℕ, ◌≡◌, Bool, false, List, Option, Some, None, slice_get, if◌then◌else◌}
use Rattle.std.specs.BTreeMap.{BTreeMap, get}
use Rattle.std.specs.Cmp.Lexicographic.{slice_cmp}
use Rattle.std.specs.Option.{option_cmp}
use Rattle.std.specs.declared.cmp.Ordering.{Ordering}
use Rattle.std.specs.Ordering.{nat_cmp, ordering_then, is_eq}
use Rattle.just_lang_types.specs.declared.key.Key.{Key}
use Rattle.just_lang_types.specs.declared.key.Value.{Value}
use Rattle.just_lang_types.specs.declared.place.Place.{Place}
use Rattle.just_lang_types.specs.declared.recipe.Modulepath.{Modulepath}
use Rattle.just_eval_closure.specs.Hashes.{place_hash}
use Rattle.just_eval_closure.specs.Places.{is_listed, number_of}

-- the order of texts by their bytes, and that of lists of texts
abbrev pub text_cmp : List ℕ → List ℕ → Ordering
text_cmp a b = slice_cmp nat_cmp a b

abbrev pub texts_cmp : List (List ℕ) → List (List ℕ) → Ordering
texts_cmp a b = slice_cmp text_cmp a b

abbrev pub value_cmp : Value → Value → Ordering
value_cmp a b = texts_cmp a.elements b.elements

abbrev pub path_cmp : Modulepath → Modulepath → Ordering
path_cmp a b = texts_cmp a.components b.components

-- keys by their recipes, and then by their arguments
abbrev pub key_cmp : Key → Key → Ordering
key_cmp a b = ordering_then (path_cmp a.recipe b.recipe) (slice_cmp value_cmp a.arguments b.arguments)

-- places by their rounds, and then by their keys
abbrev pub place_cmp : Place → Place → Ordering
place_cmp a b = ordering_then (option_cmp nat_cmp a.round b.round) (key_cmp a.key b.key)

-- the number of a key in a round, where it is listed
abbrev pub number_in : List Place → Option ℕ → Key → Option ℕ
number_in list r k = if is_listed list r k then Some (number_of list r k) else None

-- whether the place stands at that number of the list
abbrev pub is_there : Place → Option Place → Bool
is_there x None = false
is_there x (Some y) = is_eq (place_cmp x y)

-- the number at the hash of a place, where the place stands there, and else the other one
abbrev pub first_or : List Place → Place → Option ℕ → Option ℕ → Option ℕ
first_or list x None other = other
first_or list x (Some n) other = if is_there x (slice_get list n) then Some n else other

-- the number that two maps give a place: by its hash, or by the place itself where another one stands at the number of its hash
abbrev pub recorded : List Place → BTreeMap ℕ ℕ → BTreeMap Place ℕ → Place → Option ℕ
recorded list firsts others x = first_or list x (get nat_cmp firsts (place_hash x)) (get place_cmp others x)

-- the maps give the number of each place of the list, and nothing else
abbrev pub AreNumbered : List Place → BTreeMap ℕ ℕ → BTreeMap Place ℕ → Type 0
AreNumbered list firsts others = (x : Place) → recorded list firsts others x ≡ number_in list x.round x.key
