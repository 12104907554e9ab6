-- What is made where a path wasn't found: what stands in the way of a place stands in the way of all that is made there.
use Rattle.std.proofs.Common.{◌≡◌, ◌||◌, ℕ, Bool, true, false, List, cond, length, Result, Ok, Err, sym, subst}
use Rattle.just_path.specs.Comps.{is_empty}
use Rattle.just_path.specs.View.{asks_folder, absence}
use Rattle.just_path.specs.declared.host.Miss.{Miss}
use Rattle.just_path.specs.declared.host.Miss.TheVariants as miss
use Rattle.just_host_record.specs.Sights.{Tree, seen}
use Rattle.just_host_record.specs.Changes.{is_open_place, is_not_found, new_place, with_entry, new_entry}
use Rattle.just_host_record.specs.NewFolders.{with_folders, new_folder}
use Rattle.just_host_memory.specs.declared.place.Place.{Place}
use Rattle.just_host_memory.specs.declared.sights.TreeFault.{TreeFault}
use Rattle.just_host_memory.specs.declared.sights.TreeFault.TheVariants as fault
use Rattle.just_host_memory.specs.Trees.{place_to_make, ShowsPlace, ShowsTree}

-- where the place is refused, so is a new file
file_refused : (found unnamed : Bool) (m : Miss) (place : List ℕ) (told : Result (List ℕ) Miss) (e : TreeFault) → ShowsPlace (cond found (cond unnamed (Err miss.NotFound) (Ok place)) (Err m)) (Err e) → ShowsPlace (cond found (cond unnamed (Err miss.NotFound) told) (Err m)) (Err e)
file_refused true true m place told (fault.Missed n) h = h
file_refused true false m place told (fault.Missed n) h = absurd cc
file_refused false unnamed m place told (fault.Missed n) h = h
file_refused found unnamed m place told fault.NoMemory h = tt

same_place : (p q : List ℕ) → ◌≡◌ {A = Result (List ℕ) Miss} (Ok p) (Ok q) → p ≡ q
same_place p q e = cc

-- where the place is answered, nothing was in the way
file_there : (found unnamed : Bool) (m : Miss) (place : List ℕ) (p : Place) (told : List ℕ → Result (List ℕ) Miss) (r : Result Place TreeFault) → ShowsPlace (cond found (cond unnamed (Err miss.NotFound) (Ok place)) (Err m)) (Ok p) → ShowsPlace (told p.path) r → ShowsPlace (cond found (cond unnamed (Err miss.NotFound) (told place)) (Err m)) r
file_there true true m place p told r h shows = absurd cc
file_there true false m place p told r h shows = subst (λ q. ShowsPlace (told q) r) (sym (same_place place p.path h)) shows
file_there false unnamed m place p told r h shows = absurd cc

change_there : {A : Type 0} (found unnamed : Bool) (m : Miss) (place : List ℕ) (p : Place) (told : List ℕ → Result Tree Miss) (files : Tree) (r : Result A TreeFault) → ShowsPlace (cond found (cond unnamed (Err miss.NotFound) (Ok place)) (Err m)) (Ok p) → ShowsTree (told p.path) files r → ShowsTree (cond found (cond unnamed (Err miss.NotFound) (told place)) (Err m)) files r
change_there true true m place p told files r h shows = absurd cc
change_there true false m place p told files r h shows = subst (λ q. ShowsTree (told q) files r) (sym (same_place place p.path h)) shows
change_there false unnamed m place p told files r h shows = absurd cc

-- a new file has its place, or none
pub file_made : (tree : Tree) (path place : List ℕ) (m : Miss) (unnamed : Bool) (p : Place) (r : Result Place TreeFault) → unnamed ≡ (is_empty path || asks_folder path) → ShowsPlace (place_to_make m unnamed place) (Ok p) → ShowsPlace (cond (is_open_place tree p.path) (Ok p.path) (Err (absence p.path (seen tree)))) r → ShowsPlace (cond (is_not_found m) (new_place tree path place) (Err m)) r
file_made tree path place m unnamed p r is h shows =
    subst (λ b. ShowsPlace (cond (is_not_found m) (cond b (Err miss.NotFound) (cond (is_open_place tree place) (Ok place) (Err (absence place (seen tree))))) (Err m)) r) is
    (file_there (is_not_found m) unnamed m place p (λ q. cond (is_open_place tree q) (Ok q) (Err (absence q (seen tree)))) r h shows)

pub file_unmade : (tree : Tree) (path place : List ℕ) (m : Miss) (unnamed : Bool) (e : TreeFault) → unnamed ≡ (is_empty path || asks_folder path) → ShowsPlace (place_to_make m unnamed place) (Err e) → ShowsPlace (cond (is_not_found m) (new_place tree path place) (Err m)) (Err e)
file_unmade tree path place m unnamed e is h =
    subst (λ b. ShowsPlace (cond (is_not_found m) (cond b (Err miss.NotFound) (cond (is_open_place tree place) (Ok place) (Err (absence place (seen tree))))) (Err m)) (Err e)) is
    (file_refused (is_not_found m) unnamed m place (cond (is_open_place tree place) (Ok place) (Err (absence place (seen tree)))) e h)

-- a new cache entry is made at its place, or not
pub entry_made : {A : Type 0} (tree files : Tree) (path place : List ℕ) (m : Miss) (unnamed : Bool) (p : Place) (r : Result A TreeFault) → unnamed ≡ (is_empty path || asks_folder path) → ShowsPlace (place_to_make m unnamed place) (Ok p) → ShowsTree (with_entry tree p.path) files r → ShowsTree (cond (is_not_found m) (new_entry tree path place) (Err m)) files r
entry_made {A = A} tree files path place m unnamed p r is h shows =
    subst (λ b. ShowsTree (cond (is_not_found m) (cond b (Err miss.NotFound) (with_entry tree place)) (Err m)) files r) is
    (change_there (is_not_found m) unnamed m place p (λ q. with_entry tree q) files r h shows)

-- so is a new folder
pub folder_made : {A : Type 0} (tree files : Tree) (path place : List ℕ) (m : Miss) (unnamed : Bool) (p : Place) (r : Result A TreeFault) → unnamed ≡ is_empty path → ShowsPlace (place_to_make m unnamed place) (Ok p) → ShowsTree (with_folders tree (length p.path) p.path) files r → ShowsTree (cond (is_not_found m) (new_folder tree path place) (Err m)) files r
folder_made {A = A} tree files path place m unnamed p r is h shows =
    subst (λ b. ShowsTree (cond (is_not_found m) (cond b (Err miss.NotFound) (with_folders tree (length place) place)) (Err m)) files r) is
    (change_there (is_not_found m) unnamed m place p (λ q. with_folders tree (length q) q) files r h shows)
