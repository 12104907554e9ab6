-- What stands at a place that a path names; and two worlds that differ in some places alone.
use Rattle.std.proofs.Common.{◌≡◌, inl, inr, ℕ, zero, suc, Bool, true, false, true≢false, cond, List, [], ◌∷◌, ◌++◌, is_some, Option, Some, None, refl, ap, sym, ◌∙◌, subst, arith}
use Rattle.std.specs.Prelude.{Result, Ok, Err, MatchOption}
use Rattle.std.specs.FinMap.{get, remove, get-remove}
use Rattle.std.specs.List.{Contains, AllByRecursion}
use Rattle.std.specs.Str.{bytes_eq}
use Rattle.std.proofs.lemmas.Cmp.{nat_list_cmp_total}
use Rattle.std.proofs.lemmas.Map.Text.{is_eq-slice_cmp}
use Rattle.std.proofs.lemmas.List.Elements.{Contains-append_left, Contains-append_right}
use Rattle.std.proofs.lemmas.Slice.Eq.{bytes_eq-Decides}
use Rattle.just_path.specs.Path.{is_absolute}
use Rattle.just_path.specs.Clean.{cleaned}
use Rattle.just_path.specs.View.{Sights, asks_folder, named_place, folder_place, asked_place, followed_place, place_behind, target_seen, place_under, meta_seen, absence}
use Rattle.just_path.specs.declared.host.Miss.{Miss}
use Rattle.just_path.proofs.Pushes.{push_absolute}
use Rattle.just_host_record.specs.declared.entry.HostFault.{HostFault}
use Rattle.just_host_record.specs.declared.entry.HostFault.TheVariants as fault
use Rattle.just_host_record.specs.Sights.{Tree, seen}
use Rattle.just_host_record.specs.World.{World, Moment}
use Rattle.just_host_record.specs.Changes.{DiffersAt, with_tree}
use Rattle.just_host_record.specs.Folders.{removed_place, Removes}
use Rattle.just_search.specs.Places.{NamesItem, IsInFolders, ChangesIn, RemovesInFolders}
use Rattle.just_search.specs.Removals.{IsWithin, IsTried, Clears, RemovesFolder, RemovesAll, RemovesSome}
use Rattle.just_search.proofs.Items.{within_item}

-- ---- the place of a path

chosen_else : {A : Type 0} (b : Bool) (x y z : A) → b ≡ false → cond b x y ≡ z → y ≡ z
chosen_else true x y z off e = absurd (true≢false off)
chosen_else false x y z off e = e

pub asked_is : (path place : List ℕ) (tree : Sights) (r : Result (List ℕ) Miss) → asks_folder path ≡ false → asked_place path tree r ≡ Ok place → r ≡ Ok place
asked_is path place tree (Ok p) off e = chosen_else (asks_folder path) (folder_place tree (Ok p)) (Ok p) (Ok place) off e
asked_is path place tree (Err m) off e = absurd (let never : ⊥ = cc in never)

followed_is : (b : Bool) (place : List ℕ) (tree : Sights) (r : Result (List ℕ) Miss) → b ≡ false → followed_place b tree r ≡ Ok place → r ≡ Ok place
followed_is b place tree (Ok p) off e = chosen_else b (place_behind p tree (target_seen p tree)) (Ok p) (Ok place) off e
followed_is b place tree (Err m) off e = absurd (let never : ⊥ = cc in never)

filled_is : (b : Bool) (p place : List ℕ) (m : Miss) → ◌≡◌ {A = Result (List ℕ) Miss} (cond b (Ok p) (Err m)) (Ok place) → place ≡ p
filled_is true p place m e = cc
filled_is false p place m e = absurd (let never : ⊥ = cc in never)

pub under_absolute : (folder path : List ℕ) → is_absolute path ≡ true → place_under folder path ≡ cleaned path
under_absolute folder path h = ap cleaned (push_absolute folder path h)

pub named_is : (folder path place : List ℕ) (tree : Sights) → is_absolute path ≡ true → named_place folder path tree ≡ Ok place → place ≡ cleaned path
named_is folder [] place tree h e = absurd (let never : ⊥ = cc in never)
named_is folder (b ∷ path) place tree h e =
    filled_is (is_some (meta_seen (place_under folder (b ∷ path)) tree)) (place_under folder (b ∷ path)) place (absence (place_under folder (b ∷ path)) tree) e ∙ under_absolute folder (b ∷ path) h

-- what a path names stands at its clean form
pub removed_is : (w : World) (path place : List ℕ) → NamesItem path → removed_place w path ≡ Ok place → place ≡ cleaned path
removed_is w path place named e =
    named_is w.current path place (seen w.tree) named.0
    (followed_is (asks_folder path) place (seen w.tree) (named_place w.current path (seen w.tree)) named.1
    (asked_is path place (seen w.tree) (followed_place (asks_folder path) (seen w.tree) (named_place w.current path (seen w.tree))) named.1 e))

-- ---- worlds that differ in some places

abbrev Places : Type 1
Places = List ℕ → Type 0

pub differs_none : (P : Places) (w : World) → DiffersAt P w w
differs_none P w = record { tree = λ q apart. refl; current = refl; environ = refl; input = refl; disk = λ e. e }

pub differs_then : (P : Places) (u v w : World) → DiffersAt P u v → DiffersAt P v w → DiffersAt P u w
differs_then P u v w one two =
    record { tree = λ q apart. two.tree q apart ∙ one.tree q apart; current = two.current ∙ one.current; environ = two.environ ∙ one.environ; input = two.input ∙ one.input; disk = λ e. two.disk (one.disk e) }

pub differs_wider : (P Q : Places) (v w : World) → ((q : List ℕ) → P q → Q q) → DiffersAt P v w → DiffersAt Q v w
differs_wider P Q v w wider one =
    record { tree = λ q apart. one.tree q (λ p. apart (wider q p)); current = one.current; environ = one.environ; input = one.input; disk = one.disk }

-- a told world becomes another one, which differs in some places
abbrev pub Moves : Places → Option World → Option World → Type 0
Moves P told after = (w : World) → told ≡ Some w → (v : World) × (after ≡ Some v) × DiffersAt P w v

pub moves_none : (P : Places) (told after : Option World) → after ≡ told → Moves P told after
moves_none P told after same w is = (w, same ∙ is, differs_none P w)

pub moves_then : (P : Places) (told between after : Option World) → Moves P told between → Moves P between after → Moves P told after
moves_then P told between after one two w is =
    let first = one w is in
    let second = two first.0 first.1 in
    (second.0, second.1, differs_then P w first.0 second.0 first.2 second.2)

pub moves_wider : (P Q : Places) (told after : Option World) → ((q : List ℕ) → P q → Q q) → Moves P told after → Moves Q told after
moves_wider P Q told after wider one w is =
    let here = one w is in
    (here.0, here.1, differs_wider P Q w here.0 wider here.2)

pub moves_to : (P : Places) (w v : World) (after : Option World) → after ≡ Some v → DiffersAt P w v → Moves P (Some w) after
moves_to P w v after is differs u so =
    let same : w ≡ u = cc in
    (v, is, subst (λ (x : World). DiffersAt P x v) same differs)

told_some : (after : Option World) (F : World → Type 0) → MatchOption after ⊥ F → (v : World) × (after ≡ Some v) × F v
told_some None F h = absurd h
told_some (Some v) F h = (v, refl, h)

pub moves_failed : (P : Places) (w : World) (after : Option World) → MatchOption after ⊥ (λ v. DiffersAt P w v) → Moves P (Some w) after
moves_failed P w after h =
    let here = told_some after (λ v. DiffersAt P w v) h in
    moves_to P w here.0 after here.1 here.2

pub moves_changes : (folders : List (List ℕ)) (w : World) (after : Option World) → Moves (IsInFolders folders) (Some w) after → ChangesIn folders w after
moves_changes folders w after moves =
    let here = moves w refl in
    subst (λ (o : Option World). ChangesIn folders w o) (sym here.1) here.2

-- ---- removals

pub apart_texts : (q place : List ℕ) (b : Bool) → bytes_eq q place ≡ b → (q ≡ place → ⊥) → b ≡ false
apart_texts q place true e apart = absurd (apart ((bytes_eq-Decides q place).0 e))
apart_texts q place false e apart = refl

removed_elsewhere : (tree : Tree) (place q : List ℕ) → (q ≡ place → ⊥) → get (remove tree place) q ≡ get tree q
removed_elsewhere tree place q apart =
    get-remove nat_list_cmp_total tree place q
    ∙ ap (λ b. cond b None (get tree q)) (is_eq-slice_cmp q place ∙ apart_texts q place (bytes_eq q place) refl apart)

removed_once : (w : World) (path : List ℕ) (after : Option World) (r : Result (Unit {0}) HostFault) → NamesItem path → Removes (Some w) after path r → Moves (λ q. q ≡ cleaned path) (Some w) after
removed_once w path after (Ok x) named (place, at, nothing, is) =
    moves_to (λ q. q ≡ cleaned path) w (with_tree w (remove w.tree place)) after is
    (record { tree = λ q apart. removed_elsewhere w.tree place q (λ e. apart (e ∙ removed_is w path place named at)); current = refl; environ = refl; input = refl; disk = λ e. e })
removed_once w path after (Err (fault.Missed m)) named removes = moves_none (λ q. q ≡ cleaned path) (Some w) after removes.1
removed_once w path after (Err (fault.Failed c)) named removes =
    moves_wider (λ place. removed_place w path ≡ Ok place) (λ q. q ≡ cleaned path) (Some w) after (λ q at. removed_is w path q named at) (moves_failed (λ place. removed_place w path ≡ Ok place) w after removes)
removed_once w path after (Err fault.NoMemory) named removes = moves_none (λ q. q ≡ cleaned path) (Some w) after removes

tried_once : (path : List ℕ) (before after : Moment) → NamesItem path → IsTried path before after → Moves (λ q. q ≡ cleaned path) before.world after.world
tried_once path before after named tried w is =
    removed_once w path after.world tried.result named (subst (λ o. Removes o after.world path tried.result) is tried.removes) w refl

module _ (folders : List (List ℕ)) (folder : List ℕ) (among : Contains folders folder) (named : NamesItem folder) where
  within_folders : (path q : List ℕ) → IsWithin folder path → q ≡ cleaned path → IsInFolders folders q
  within_folders path q within is = (folder, path, among, within, is)

  tried_within : (path : List ℕ) (before after : Moment) → IsWithin folder path → IsTried path before after → Moves (IsInFolders folders) before.world after.world
  tried_within path before after within tried =
      moves_wider (λ q. q ≡ cleaned path) (IsInFolders folders) before.world after.world (λ q is. within_folders path q within is)
      (tried_once path before after (within_item folder path named within) tried)

  clears_within : (before after : Moment) → Clears folder before after → Moves (IsInFolders folders) before.world after.world
  clears_within before after Clears.nothing = moves_none (IsInFolders folders) before.world before.world refl
  clears_within before after (Clears.a_listing between path io clears own) = clears_within before between clears
  clears_within before after (Clears.a_removal between last path clears within tried) =
      moves_then (IsInFolders folders) before.world between.world last.world (clears_within before between clears) (tried_within path between last within tried)

  removes_within : (before after : Moment) → RemovesFolder folder before after → Moves (IsInFolders folders) before.world after.world
  removes_within before after (between, clears, tried) =
      moves_then (IsInFolders folders) before.world between.world after.world (clears_within before between clears) (tried_within folder between after IsWithin.itself tried)

-- ---- several folders

last_among : (xs : List (List ℕ)) (x : List ℕ) → Contains (xs ++ x ∷ []) x
last_among xs x = Contains-append_right xs (x ∷ []) x (0, omega arith, refl)

removes_all : (all : List (List ℕ)) (before : Moment) (folders : List (List ℕ)) (after : Moment) → ((f : List ℕ) → Contains folders f → Contains all f × NamesItem f) → RemovesAll before folders after
    → Moves (IsInFolders all) before.world after.world
removes_all all before folders after are RemovesAll.none = moves_none (IsInFolders all) before.world before.world refl
removes_all all before folders after are (RemovesAll.another first folder between last removed next) =
    let one = are folder (last_among first folder) in
    moves_then (IsInFolders all) before.world between.world last.world
    (removes_all all before first between (λ f among. are f (Contains-append_left first (folder ∷ []) f among)) removed)
    (removes_within all folder one.0 one.1 between last next)

all_named : (folders : List (List ℕ)) → AllByRecursion NamesItem folders → (f : List ℕ) → Contains folders f → NamesItem f
all_named [] named f among = absurd (omega (arith, among.1))
all_named (g ∷ folders) named f (zero, less, is) = subst NamesItem is named.0
all_named (g ∷ folders) named f (suc k, less, is) = all_named folders named.1 f (k, omega (arith, less), is)

some_removed : (before : Moment) (folders : List (List ℕ)) (after : Moment) → AllByRecursion NamesItem folders → RemovesSome before folders after → Moves (IsInFolders folders) before.world after.world
some_removed before folders after named some =
    let are : (f : List ℕ) → Contains folders f → Contains folders f × NamesItem f = λ f among. (among, all_named folders named f among) in
    let whole : (f : List ℕ) → Contains (some.first ++ some.next ∷ some.others) f → Contains folders f × NamesItem f = λ f among. are f (subst (λ l. Contains l f) (sym some.all) among) in
    let next = whole some.next (Contains-append_right some.first (some.next ∷ some.others) some.next (0, omega arith, refl)) in
    moves_then (IsInFolders folders) before.world some.between.world after.world
    (removes_all folders before some.first some.between (λ f among. whole f (Contains-append_left some.first (some.next ∷ some.others) f among)) some.removed)
    (clears_within folders some.next next.0 next.1 some.between after some.cleared)

where_told : (folders : List (List ℕ)) (told after : Option World) → Moves (IsInFolders folders) told after → MatchOption told (Unit {0}) (λ w. ChangesIn folders w after)
where_told folders None after moves = tt
where_told folders (Some w) after moves = moves_changes folders w after moves

pub removes_in_folders : RemovesInFolders
removes_in_folders before after folders named (inl removed) =
    where_told folders before.world after.world (removes_all folders before folders after (λ f among. (among, all_named folders named f among)) removed)
removes_in_folders before after folders named (inr some) = where_told folders before.world after.world (some_removed before folders after named some)
