-- What a path host may tell: the current folder, and what stands at each place; and what its calls show of that.
use Rattle.std.specs.Prelude.{ℕ, ◌≡◌, ◌==◌, ◌&&◌, ◌||◌, nat_eq, Bool, true, false, not, T, if◌then◌else◌, List, ◌∷◌, take, map, length, slice_index, Option, Some, None, option_map, is_some, ok_or, Result, Ok, Err}
use Rattle.std.specs.List.{list_any, range_with_len, ends_with}
use Rattle.std.specs.Str.{bytes_eq}
use Rattle.std.specs.Ordering.{nat_cmp}
use Rattle.std.specs.Cmp.Lexicographic.{slice_cmp}
use Rattle.std.specs.FinMap.{FinMap, get, find, is_sorted}
use Rattle.std.specs.declared.alloc.Global.{Global}
use Rattle.std.specs.declared.vec.Vec.{Vec}
use Rattle.just_path.specs.Path.{pushed}
use Rattle.just_path.specs.Comps.{is_empty, dot, dots, slash}
use Rattle.just_path.specs.Clean.{cleaned, is_clean_absolute}
use Rattle.just_path.specs.declared.host.Miss.{Miss}
use Rattle.just_path.specs.declared.host.Miss.TheVariants as miss
use Rattle.just_path.specs.declared.host.PathFault.{PathFault}
use Rattle.just_path.specs.declared.host.PathFault.TheVariants as fault
use Rattle.just_path.specs.declared.meta.Item.{Item}
use Rattle.just_path.specs.declared.meta.Kind.{Kind}
use Rattle.just_path.specs.declared.meta.Kind.TheVariants as kind
use Rattle.just_path.specs.declared.meta.Meta.{Meta}

-- what stands at a place: a link with its target, or another thing
pub data Sight : Type 0 where
  thing : Meta → Sight
  link : Meta → List ℕ → Sight

-- what stands at each place: a clean absolute path
abbrev pub Sights : Type 0
Sights = FinMap (slice_cmp nat_cmp) Sight

pub record View : Type 0 where
  pub current : List ℕ
  pub tree : Sights

-- all places are clean and absolute
abbrev pub HasCleanPlaces : Sights → Type 0
HasCleanPlaces tree = (place : List ℕ) (s : Sight) → get tree place ≡ Some s → is_clean_absolute place ≡ true

-- the current folder is too
pub record IsCleanView (v : View) : Type 0 where
  pub current : is_clean_absolute v.current ≡ true
  pub places : HasCleanPlaces v.tree

-- a view, where one is told, is clean
abbrev pub IsCleanlyTold : Option View → Type 0
IsCleanlyTold None = Unit {0}
IsCleanlyTold (Some v) = IsCleanView v

abbrev pub sight : List ℕ → Sights → Option Sight
sight place tree = get tree place

abbrev pub meta_of : Sight → Meta
meta_of (thing m) = m
meta_of (link m target) = m

abbrev pub is_file : Kind → Bool
is_file kind.File = true
is_file _ = false

abbrev pub is_folder : Kind → Bool
is_folder kind.Folder = true
is_folder _ = false

abbrev pub is_link : Kind → Bool
is_link kind.Link = true
is_link _ = false

-- what is known of what stands at a place
abbrev pub meta_seen : List ℕ → Sights → Option Meta
meta_seen place tree = option_map meta_of (sight place tree)

-- a link's target
abbrev pub target_of : Option Sight → Option (List ℕ)
target_of None = None
target_of (Some (thing m)) = None
target_of (Some (link m target)) = Some target

-- the target of the link at a place, if one stands there
abbrev pub target_seen : List ℕ → Sights → Option (List ℕ)
target_seen place tree = target_of (sight place tree)

abbrev pub sees_file : Option Meta → Bool
sees_file None = false
sees_file (Some m) = is_file m.kind

abbrev pub sees_folder : Option Meta → Bool
sees_folder None = false
sees_folder (Some m) = is_folder m.kind

-- the place of a path under a folder: its clean form there
abbrev pub place_under : List ℕ → List ℕ → List ℕ
place_under folder path = cleaned (pushed folder path)

-- whether only a folder is found by a path: it ends in `/`, or in the component `.` or `..`
abbrev pub asks_folder : List ℕ → Bool
asks_folder path =
    bytes_eq path dot || bytes_eq path dots || ends_with nat_eq path slash || ends_with nat_eq path (47 ∷ dot) || ends_with nat_eq path (47 ∷ dots)

-- whether the text before one of the place's slashes is a file
abbrev pub goes_through_file : List ℕ → Sights → Bool
goes_through_file place tree =
    list_any (λ k. (slice_index place k == 47) && sees_file (meta_seen (take k place) tree)) (range_with_len 0 (length place))

-- the miss of a place at which nothing stands
abbrev pub absence : List ℕ → Sights → Miss
absence place tree = if goes_through_file place tree then miss.NotFolder else miss.NotFound

-- a place, if something stands there
abbrev pub filled_place : List ℕ → Sights → Result (List ℕ) Miss
filled_place place tree = if is_some (meta_seen place tree) then Ok place else Err (absence place tree)

-- the place of a path under a folder, if something stands there; the empty path has none
abbrev pub named_place : List ℕ → List ℕ → Sights → Result (List ℕ) Miss
named_place folder path tree = if is_empty path then Err miss.NotFound else filled_place (place_under folder path) tree

-- a place that was found, if a folder stands there
abbrev pub folder_place : Sights → Result (List ℕ) Miss → Result (List ℕ) Miss
folder_place tree (Ok place) = if sees_folder (meta_seen place tree) then Ok place else Err miss.NotFolder
folder_place tree (Err m) = Err m

-- the same where the path asks for a folder
abbrev pub asked_place : List ℕ → Sights → Result (List ℕ) Miss → Result (List ℕ) Miss
asked_place path tree (Ok place) = if asks_folder path then folder_place tree (Ok place) else Ok place
asked_place path tree (Err m) = Err m

-- a place that was found, if no link stands there: a link is followed once
abbrev pub last_place : Sights → Result (List ℕ) Miss → Result (List ℕ) Miss
last_place tree (Ok place) = if is_some (target_seen place tree) then Err miss.NotFound else Ok place
last_place tree (Err m) = Err m

-- the place behind a link at a place, with that target: a path under the link's own folder
abbrev pub target_place : List ℕ → List ℕ → Sights → Result (List ℕ) Miss
target_place place target tree = asked_place target tree (last_place tree (named_place (pushed place dots) target tree))

abbrev pub place_behind : List ℕ → Sights → Option (List ℕ) → Result (List ℕ) Miss
place_behind place tree None = Ok place
place_behind place tree (Some target) = target_place place target tree

-- where it is to be followed, the place behind the link that stands at a place that was found, else that place
abbrev pub followed_place : Bool → Sights → Result (List ℕ) Miss → Result (List ℕ) Miss
followed_place follow tree (Ok place) = if follow then place_behind place tree (target_seen place tree) else Ok place
followed_place follow tree (Err m) = Err m

-- the place that a path leads to under the current folder. A path that asks for a folder always follows
abbrev pub place_told : List ℕ → Bool → View → Result (List ℕ) Miss
place_told path follow v =
    asked_place path v.tree (followed_place (follow || asks_folder path) v.tree (named_place v.current path v.tree))

abbrev pub meta_at : Sights → Result (List ℕ) Miss → Result Meta Miss
meta_at tree (Ok place) = ok_or (meta_seen place tree) miss.NotFound
meta_at tree (Err m) = Err m

-- what stands where a path leads
abbrev pub meta_told : List ℕ → Bool → View → Result Meta Miss
meta_told path follow v = meta_at v.tree (place_told path follow v)

-- where a path leads, behind the link
abbrev pub canonical_told : List ℕ → View → Result (List ℕ) Miss
canonical_told path v = place_told path true v

-- the same of a path that is to lead to a folder
abbrev pub folder_told : List ℕ → View → Result (List ℕ) Miss
folder_told path v = folder_place v.tree (place_told path true v)

abbrev pub target_at : Sights → Result (List ℕ) Miss → Result (List ℕ) Miss
target_at tree (Ok place) = ok_or (target_seen place tree) miss.NotFound
target_at tree (Err m) = Err m

-- the target of the link where a path leads; where another thing stands no link is found
abbrev pub link_told : List ℕ → View → Result (List ℕ) Miss
link_told path v = target_at v.tree (place_told path false v)

abbrev pub current_told : View → Result (List ℕ) Miss
current_told v = Ok v.current

-- items by their names
abbrev pub named : List Item → List (List ℕ × Kind)
named items = map (λ i. (i.name, i.kind)) items

-- the names rise in byte order, so each comes once
abbrev pub AreInOrder : List Item → Type 0
AreInOrder items = T (is_sorted (slice_cmp nat_cmp) (named items))

-- these are the names of items that are in order
abbrev pub AreNamesInOrder : List (List ℕ) → Type 0
AreNamesInOrder names = (items : List Item) × AreInOrder items × (names ≡ map (λ (i : Item). i.name) items)

-- whether a text is the name of an item
abbrev pub is_name : List ℕ → Bool
is_name name = not (is_empty name) && not (list_any (λ b. b == 47) name)

-- the kind of what stands directly in a folder under a name
abbrev pub kind_in : List ℕ → List ℕ → Sights → Option Kind
kind_in folder name tree = if is_name name then option_map (λ s. (meta_of s).kind) (sight (pushed folder name) tree) else None

-- the items are what stands directly in a folder, each by its name
abbrev pub AreItemsOf : List ℕ → Sights → List Item → Type 0
AreItemsOf folder tree items = (name : List ℕ) → find (slice_cmp nat_cmp) name (named items) ≡ kind_in folder name tree

-- a miss is the one that is shown; of a failure and of want of memory nothing is
abbrev pub ToldFault : {A : Type 0} → Result A Miss → PathFault → Type 0
ToldFault shown (fault.Missed m) = shown ≡ Err m
ToldFault shown fault.Failed = Unit {0}
ToldFault shown fault.NoMemory = Unit {0}

abbrev pub Told : {A : Type 0} → Result A Miss → Result A PathFault → Type 0
Told shown (Ok x) = shown ≡ Ok x
Told shown (Err e) = ToldFault shown e

-- where a view is told, an answer and a miss are what it shows
abbrev pub Tells : {A : Type 0} → Option View → (View → Result A Miss) → Result A PathFault → Type 0
Tells None shown r = Unit {0}
Tells (Some v) shown r = Told (shown v) r

-- the same of a list: its items are those of the folder that the path shows
abbrev pub TellsItems : Option View → List ℕ → Result (Vec Item Global) PathFault → Type 0
TellsItems None path r = Unit {0}
TellsItems (Some v) path (Ok items) = (folder : List ℕ) × (folder_told path v ≡ Ok folder) × AreItemsOf folder v.tree items.items
TellsItems (Some v) path (Err e) = ToldFault (folder_told path v) e

-- the names are those of the items that stand in a folder
abbrev pub AreNamesOf : List ℕ → Sights → List (List ℕ) → Type 0
AreNamesOf folder tree names = (items : List Item) × AreInOrder items × (names ≡ map (λ (i : Item). i.name) items) × AreItemsOf folder tree items

-- the same of the names alone
abbrev pub TellsNames : Option View → List ℕ → Result (List (List ℕ)) PathFault → Type 0
TellsNames None path r = Unit {0}
TellsNames (Some v) path (Ok names) = (folder : List ℕ) × (folder_told path v ≡ Ok folder) × AreNamesOf folder v.tree names
TellsNames (Some v) path (Err e) = ToldFault (folder_told path v) e
