-- Removals one after the other: what they make of what a host tells.
use Rattle.std.proofs.Common.{◌≡◌, Bool, true, false, ◌<◌, ◌≤◌, ◌+◌, List, [], ◌∷◌, ◌++◌, length, take, drop, option_map, refl, ap, sym, ◌∙◌, subst}
use Rattle.std.specs.Prelude.{ℕ, Option, Some, None, Result, Ok, Err, OnOk, OnErr, MatchOption, get_or, if◌then◌else◌}
use Rattle.std.specs.declared.alloc.Global.{Global}
use Rattle.std.specs.declared.vec.Vec.{Vec}
use Rattle.std.proofs.lemmas.List.{append-nil, take_more, take_all, take-append-drop, drop_more}
use Rattle.just_path.specs.Host.{note_of, note_of_fault}
use Rattle.just_path.specs.Path.{pushed}
use Rattle.just_path.specs.View.{View, TellsItems, is_folder}
use Rattle.just_path.specs.declared.host.Miss.{Miss}
use Rattle.just_path.specs.declared.host.PathCall.TheVariants as path_call
use Rattle.just_path.specs.declared.host.PathFault.{PathFault}
use Rattle.just_path.specs.declared.host.PathFault.TheVariants as path_fault
use Rattle.just_path.specs.declared.meta.Item.{Item}
use Rattle.just_host_record.specs.declared.entry.Call.TheVariants as call
use Rattle.just_host_record.specs.declared.entry.Entry.TheVariants as entry
use Rattle.just_host_record.specs.declared.entry.HostFault.{HostFault}
use Rattle.just_host_record.specs.declared.entry.HostFault.TheVariants as fault
use Rattle.just_host_record.specs.Record.{refused, noted, IsOwnFault}
use Rattle.just_host_record.specs.World.{World, Moment, view_of}
use Rattle.just_host_record.specs.Folders.{Removes}
use Rattle.just_host_record.proofs.Moments.{moment_by}
use Rattle.just_search.specs.Listing.{AreIn, ListFaultFits}
use Rattle.just_search.specs.Removals.{is_plain, with_entries, IsWithin, IsAnswered, IsTried, Clears, InTurn, ListsFor, removed_path, TriesItem, TriesItems, TriesWithItems, TriesNested, Empties, TriesFolder, RemovesFolder, RemovesAll, RemovesSome}

-- ---- one removal

removes_as : {A : Type 0} (told after : Option World) (path : List ℕ) (x : A) → Removes {A = A} told after path (Ok x) → Removes {A = Unit {0}} told after path (Ok tt)
removes_as None after path x is = is
removes_as (Some w) after path x is = is

misses_as : (A : Type 0) (told after : Option World) (path : List ℕ) (io : HostFault) → Removes {A = A} told after path (Err io) → Removes {A = Unit {0}} told after path (Err io)
misses_as A None after path io is = is
misses_as A (Some w) after path io is = is

pub tried_done : {A : Type 0} (before after : Moment) (path : List ℕ) (x : A) → Removes {A = A} before.world after.world path (Ok x) → after.entries ≡ before.entries ++ [] → IsTried path before after
tried_done before after path x removes is =
    record { result = Ok tt; answered = tt; own = tt; removes = removes_as before.world after.world path x removes; leaves = is }

pub tried_refused : (A : Type 0) (before after : Moment) (path : List ℕ) (io : HostFault) → Removes {A = A} before.world after.world path (Err io) → IsOwnFault call.Remove io → IsAnswered {A = Unit {0}} (Err io)
    → after.entries ≡ before.entries ++ refused path io → IsTried path before after
tried_refused A before after path io removes own answered is =
    record { result = Err io; answered = answered; own = own; removes = misses_as A before.world after.world path io removes; leaves = is }

world_stays : (A : Type 0) (told after : Option World) (path : List ℕ) → Removes {A = A} told after path (Err fault.NoMemory) → after ≡ told
world_stays A None after path is = is
world_stays A (Some w) after path is = is

-- memory is wanting: all stays
pub stays : (A : Type 0) (before after : Moment) (path : List ℕ) → Removes {A = A} before.world after.world path (Err fault.NoMemory) → after.entries ≡ before.entries ++ [] → after ≡ before
stays A before after path removes is = moment_by after before (is ∙ append-nil before.entries) (world_stays A before.world after.world path removes)

-- ---- several

pub clears_kept : (folder : List ℕ) (before after : Moment) → after ≡ before → Clears folder before after
clears_kept folder before after same = subst (λ m. Clears folder before m) (sym same) Clears.nothing

pub clears_then : (folder : List ℕ) (a b c : Moment) → Clears folder a b → Clears folder b c → Clears folder a c
clears_then folder a b c first Clears.nothing = first
clears_then folder a b c first (Clears.a_listing between path io second own) = Clears.a_listing between path io (clears_then folder a b between first second) own
clears_then folder a b c first (Clears.a_removal between after path second within tried) = Clears.a_removal between after path (clears_then folder a b between first second) within tried

within_then : (a b c : List ℕ) → IsWithin a b → IsWithin b c → IsWithin a c
within_then a b c first IsWithin.itself = first
within_then a b c first (IsWithin.item path name within plain) = IsWithin.item path name (within_then a b path first within) plain

within_item : (folder name item : List ℕ) → is_plain name ≡ true → item ≡ pushed folder name → IsWithin folder item
within_item folder name item plain is = subst (λ p. IsWithin folder p) (sym is) (IsWithin.item folder name IsWithin.itself plain)

-- what is cleared within an item is within its folder
clears_in : (folder item : List ℕ) (a b : Moment) → IsWithin folder item → Clears item a b → Clears folder a b
clears_in folder item a b within Clears.nothing = Clears.nothing
clears_in folder item a b within (Clears.a_listing between path io first own) = Clears.a_listing between path io (clears_in folder item a between within first) own
clears_in folder item a b within (Clears.a_removal between after path first inside tried) =
    Clears.a_removal between after path (clears_in folder item a between within first) (within_then folder item path within inside) tried

-- ---- items

-- the path of an item that may be removed is within its folder
within_by : (folder name path : List ℕ) (b : Bool) → is_plain name ≡ b → (if b then Some (pushed folder name) else None) ≡ Some path → IsWithin folder path
within_by folder name path true plain is = let same : pushed folder name ≡ path = cc in within_item folder name path plain (sym same)
within_by folder name path false plain is = cc

within_removed : (folder name path : List ℕ) → removed_path folder name ≡ Some path → IsWithin folder path
within_removed folder name path is = within_by folder name path (is_plain name) refl is

own_listing : (told : Option World) (path : List ℕ) (io : HostFault) → ListFaultFits told path io → IsOwnFault call.List io
own_listing told path (fault.Missed m) fits = tt
own_listing told path (fault.Failed c) fits = fits
own_listing told path fault.NoMemory fits = tt

listed_clears : (folder : List ℕ) (before : Moment) (items : List Item) (after : Moment) → ListsFor folder before items after → Clears folder before after
listed_clears folder before items after (ListsFor.listed all are) = Clears.nothing
listed_clears folder before items after (ListsFor.unlisted io fits) = Clears.a_listing before folder io Clears.nothing (own_listing before.world folder io fits)

one_clears : (folder path : List ℕ) (a b : Moment) → IsWithin folder path → IsTried path a b → Clears folder a b
one_clears folder path a b within tried = Clears.a_removal a b path Clears.nothing within tried

pub item_clears : (folder : List ℕ) (item : Item) (a b : Moment) → TriesItem folder item a b → Clears folder a b
item_clears folder item a b (TriesItem.passed none same) = clears_kept folder a b same
item_clears folder item a b (TriesItem.tried path at tried) = one_clears folder path a b (within_removed folder item.name path at) tried

-- what is cleared in turn
turn_clears : {A : Type 0} (folder : List ℕ) (does : A → Moment → Moment → Type 0) (each : (x : A) (a b : Moment) → does x a b → Clears folder a b) (before : Moment) (xs : List A) (after : Moment)
    → InTurn does before xs after → Clears folder before after
turn_clears folder does each before xs after InTurn.none = Clears.nothing
turn_clears folder does each before xs after (InTurn.another first x between last turn done) =
    clears_then folder before between last (turn_clears folder does each before first between turn) (each x between last done)

items_clear : (folder : List ℕ) (a b : Moment) → TriesItems folder a b → Clears folder a b
items_clear folder a b (items, between, shown, turn) =
    clears_then folder a between b (listed_clears folder a items between shown) (turn_clears folder (TriesItem folder) (item_clears folder) between items b turn)

inner_clears : (path : List ℕ) (a b : Moment) → TriesWithItems path a b → Clears path a b
inner_clears path a b (between, items, tried) = clears_then path a between b (items_clear path a between items) (one_clears path path between b IsWithin.itself tried)

pub nested_clears : (folder : List ℕ) (item : Item) (a b : Moment) → TriesNested folder item a b → Clears folder a b
nested_clears folder item a b (TriesNested.passed none same) = clears_kept folder a b same
nested_clears folder item a b (TriesNested.tried path at other tried) = one_clears folder path a b (within_removed folder item.name path at) tried
nested_clears folder item a b (TriesNested.emptied path at is tries) = clears_in folder path a b (within_removed folder item.name path at) (inner_clears path a b tries)

empties_clear : (folder : List ℕ) (a b : Moment) → Empties folder a b → Clears folder a b
empties_clear folder a b (items, between, shown, turn) =
    clears_then folder a between b (listed_clears folder a items between shown) (turn_clears folder (TriesNested folder) (nested_clears folder) between items b turn)

-- ---- what a function answers of them

items_told : (folder : List ℕ) (told : Option World) (v : Option View) (items : Vec Item Global) → v ≡ option_map view_of told → TellsItems v folder (Ok items)
    → MatchOption told (Unit {0}) (λ w. AreIn (view_of w) folder items.items)
items_told folder None v items is tells = tt
items_told folder (Some w) v items is tells = subst (λ o. TellsItems o folder (Ok items)) is tells

pub listed_told : (folder : List ℕ) (before after : Moment) (v : Option View) (items : Vec Item Global) → v ≡ option_map view_of before.world → TellsItems v folder (Ok items) → after.entries ≡ before.entries ++ []
    → after.world ≡ before.world → ListsFor folder before items.items after
listed_told folder before after v items is tells grew world =
    subst (λ m. ListsFor folder before items.items m) (sym (moment_by after before (grew ∙ append-nil before.entries) world)) (ListsFor.listed items.items (items_told folder before.world v items is tells))

unlisted_as : (folder : List ℕ) (before after : Moment) (items : List Item) (io : HostFault) → items ≡ [] → ListFaultFits before.world folder io → after.entries ≡ before.entries ++ refused folder io
    → after.world ≡ before.world → ListsFor folder before items after
unlisted_as folder before after items io none fits grew world =
    subst (λ m. ListsFor folder before items m) (sym (moment_by after (with_entries before (refused folder io)) grew world))
    (subst (λ is. ListsFor folder before is (with_entries before (refused folder io))) (sym none) (ListsFor.unlisted io fits))

missed_fits : (folder : List ℕ) (told : Option World) (v : Option View) (m : Miss) → v ≡ option_map view_of told → TellsItems v folder (Err (path_fault.Missed m)) → ListFaultFits told folder (fault.Missed m)
missed_fits folder None v m is tells = tt
missed_fits folder (Some w) v m is tells = subst (λ o. TellsItems o folder (Err (path_fault.Missed m))) is tells

pub listed_missed : (folder : List ℕ) (before after : Moment) (v : Option View) (items : List Item) (f : PathFault) (m : Miss) → f ≡ path_fault.Missed m → v ≡ option_map view_of before.world → TellsItems v folder (Err f)
    → after.entries ≡ before.entries ++ noted (note_of {A = Vec Item Global} path_call.List folder (Err f)) → after.world ≡ before.world → items ≡ [] → ListsFor folder before items after
listed_missed folder before after v items f m missed is tells grew world none =
    unlisted_as folder before after items (fault.Missed m) none (missed_fits folder before.world v m is (subst (λ x. TellsItems v folder (Err x)) missed tells))
    (grew ∙ ap (λ x. before.entries ++ noted (note_of_fault path_call.List folder x)) missed) world

pub listed_failed : (folder : List ℕ) (before after : Moment) (items : List Item) → after.entries ≡ before.entries ++ entry.Failed call.List ∷ [] → after.world ≡ before.world → items ≡ []
    → ListsFor folder before items after
listed_failed folder before after items grew world none = unlisted_as folder before after items (fault.Failed call.List) none refl grew world

pub unlisted_kept : (folder : List ℕ) (before after : Moment) (f : PathFault) → f ≡ path_fault.NoMemory → after.entries ≡ before.entries ++ noted (note_of {A = Vec Item Global} path_call.List folder (Err f))
    → after.world ≡ before.world → after ≡ before
unlisted_kept folder before after f short grew world =
    moment_by after before (grew ∙ ap (λ x. before.entries ++ noted (note_of_fault path_call.List folder x)) short ∙ append-nil before.entries) world

-- where memory was wanting, all is as it was
pub kept_clears : {A E : Type 0} (folder : List ℕ) (before after : Moment) (r : Result A E) → OnErr r (after ≡ before) → OnErr r (Clears folder before after)
kept_clears folder before after (Ok x) kept = tt
kept_clears folder before after (Err e) kept = clears_kept folder before after kept

module _ {A E : Type 0} (folder path : List ℕ) (item : Item) (before after : Moment) (at : removed_path folder item.name ≡ Some path) where
  pub item_tried : (r : Result A E) → OnOk r (IsTried path before after) → OnOk r (TriesItem folder item before after)
  item_tried (Ok x) tried = TriesItem.tried path at tried
  item_tried (Err e) tried = tt

  pub nested_tried : (r : Result A E) → is_folder item.kind ≡ false → OnOk r (IsTried path before after) → OnOk r (TriesNested folder item before after)
  nested_tried (Ok x) other tried = TriesNested.tried path at other tried
  nested_tried (Err e) other tried = tt

  pub nested_emptied : (r : Result A E) → is_folder item.kind ≡ true → OnOk r (TriesWithItems path before after) → OnOk r (TriesNested folder item before after)
  nested_emptied (Ok x) is tries = TriesNested.emptied path at is tries
  nested_emptied (Err e) is tries = tt

  pub nested_stopped : (r : Result A E) → OnErr r (Clears path before after) → OnErr r (Clears folder before after)
  nested_stopped (Ok x) clears = tt
  nested_stopped (Err e) clears = clears_in folder path before after (within_removed folder item.name path at) clears

-- ---- a folder behind its items

module _ {A E : Type 0} (folder : List ℕ) (before between after : Moment) where
  behind_kept : (r : Result A E) → Clears folder before between → OnErr r (after ≡ between) → OnErr r (Clears folder before after)
  behind_kept (Ok x) clears kept = tt
  behind_kept (Err e) clears kept = clears_then folder before between after clears (clears_kept folder between after kept)

  pub inner_tried : (r : Result A E) → TriesItems folder before between → OnOk r (IsTried folder between after) → OnOk r (TriesWithItems folder before after)
  inner_tried (Ok x) items tried = (between, items, tried)
  inner_tried (Err e) items tried = tt

  pub inner_stopped : (r : Result A E) → TriesItems folder before between → OnErr r (after ≡ between) → OnErr r (Clears folder before after)
  inner_stopped r items kept = behind_kept r (items_clear folder before between items) kept

  pub folder_tried : (r : Result A E) → Empties folder before between → OnOk r (IsTried folder between after) → OnOk r (TriesFolder folder before after)
  folder_tried (Ok x) empties tried = (between, empties, tried)
  folder_tried (Err e) empties tried = tt

  pub folder_stopped : (r : Result A E) → Empties folder before between → OnErr r (after ≡ between) → OnErr r (Clears folder before after)
  folder_stopped r empties kept = behind_kept r (empties_clear folder before between empties) kept

pub on_err : {A E : Type 0} (r : Result A E) (P : Type 0) → P → OnErr r P
on_err (Ok x) P p = tt
on_err (Err e) P p = p

-- ---- one behind the other

turn_more : {A : Type 0} (does : A → Moment → Moment → Type 0) (before : Moment) (xs : List A) (i : ℕ) (x : A) (between after : Moment) → i < length xs → x ≡ get_or xs i x
    → InTurn does before (take i xs) between → does x between after → InTurn does before (take (i + 1) xs) after
turn_more does before xs i x between after less is turn done =
    subst (λ l. InTurn does before l after) (sym (take_more xs i x less ∙ ap (λ y. take i xs ++ y ∷ []) (sym is))) (InTurn.another (take i xs) x between after turn done)

turn_end : {A : Type 0} (does : A → Moment → Moment → Type 0) (before : Moment) (xs : List A) (i : ℕ) (after : Moment) → length xs ≤ i → InTurn does before (take i xs) after → InTurn does before xs after
turn_end does before xs i after over turn = subst (λ l. InTurn does before l after) (take_all i xs over) turn

module _ (does : Item → Moment → Moment → Type 0) (folder : List ℕ) (before : Moment) (items : List Item) where
  -- the items of a folder, as far as they were gone through
  abbrev pub Turned : ℕ → Moment → Type 0
  Turned i after = (middle : Moment) × ListsFor folder before items middle × InTurn does middle (take i items) after

  pub turned_start : (after : Moment) → ListsFor folder before items after → Turned 0 after
  turned_start after shown = (after, shown, InTurn.none)

  pub turned_end : (i : ℕ) (after : Moment) → length items ≤ i → Turned i after → (all : List Item) × (middle : Moment) × ListsFor folder before all middle × InTurn does middle all after
  turned_end i after over (middle, shown, turn) = (items, middle, shown, turn_end does middle items i after over turn)

  pub turned_more : (i : ℕ) (item : Item) (between after : Moment) → i < length items → item ≡ get_or items i item → Turned i between → does item between after → Turned (i + 1) after
  turned_more i item between after less is (middle, shown, turn) done = (middle, shown, turn_more does middle items i item between after less is turn done)

  -- memory is wanting for one of them
  pub turned_stopped : {A E : Type 0} (each : (item : Item) (a b : Moment) → does item a b → Clears folder a b) (i : ℕ) (between after : Moment) (r : Result A E)
      → Turned i between → Clears folder between after → OnErr r (Clears folder before after)
  turned_stopped each i between after r (middle, shown, turn) clears =
      on_err r (Clears folder before after)
      (clears_then folder before between after
      (clears_then folder before middle between (listed_clears folder before items middle shown) (turn_clears folder does each middle (take i items) between turn)) clears)

-- ---- folders

folder_removes : (folder : List ℕ) (a b : Moment) → TriesFolder folder a b → RemovesFolder folder a b
folder_removes folder a b (between, empties, tried) = (between, empties_clear folder a between empties, tried)

all_of_turn : (before : Moment) (folders : List (List ℕ)) (after : Moment) → InTurn TriesFolder before folders after → RemovesAll before folders after
all_of_turn before folders after InTurn.none = RemovesAll.none
all_of_turn before folders after (InTurn.another first folder between last turn tried) =
    RemovesAll.another first folder between last (all_of_turn before first between turn) (folder_removes folder between last tried)

module _ (before : Moment) (folders : List (List ℕ)) (i : ℕ) (after : Moment) (over : length folders ≤ i) (turn : InTurn TriesFolder before (take i folders) after) where
  pub folders_tried : InTurn TriesFolder before folders after
  folders_tried = turn_end TriesFolder before folders i after over turn

  pub folders_removed : RemovesAll before folders after
  folders_removed = all_of_turn before folders after folders_tried

module _ (before between after : Moment) (folders : List (List ℕ)) (i : ℕ) (folder named : List ℕ) (less : i < length folders) (is : folder ≡ get_or folders i folder) (same : named ≡ folder)
    (turn : InTurn TriesFolder before (take i folders) between) where
  pub folders_more : TriesFolder named between after → InTurn TriesFolder before (take (i + 1) folders) after
  folders_more one = turn_more TriesFolder before folders i folder between after less is turn (subst (λ f. TriesFolder f between after) same one)

  all_short : Clears named between after → RemovesSome before folders after
  all_short clears = record {
    first = take i folders;
    next = folder;
    others = drop (i + 1) folders;
    all = sym (take-append-drop i folders) ∙ ap (λ l. take i folders ++ l) (drop_more folders i folder less ∙ ap (λ f. f ∷ drop (i + 1) folders) (sym is));
    between = between;
    removed = all_of_turn before (take i folders) between turn;
    tried = turn;
    cleared = subst (λ f. Clears f between after) same clears;
  }

  pub all_stopped : {A E : Type 0} (r : Result A E) → Clears named between after → OnErr r (RemovesSome before folders after)
  all_stopped r clears = on_err r (RemovesSome before folders after) (all_short clears)
