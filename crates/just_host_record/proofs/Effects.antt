-- The laws of the calls that write: what their definitions make of a told world is what the sentences on them say.
use Rattle.std.proofs.Common.{◌≡◌, ◌⊎◌, ◌||◌, ◌&&◌, ℕ, Bool, true, false, List, [], cond, inl, inr, is_none, Option, Some, None, Result, Ok, Err, refl, ap, sym, ◌∙◌}
use Rattle.std.specs.FinMap.{get, insert}
use Rattle.just_path.specs.Comps.{is_empty}
use Rattle.just_path.specs.View.{canonical_told, place_under, asks_folder, absence}
use Rattle.just_path.specs.declared.host.Miss.{Miss}
use Rattle.just_path.specs.declared.host.Miss.TheVariants as miss
use Rattle.just_host_record.specs.declared.tree.Thing.{Thing}
use Rattle.just_host_record.specs.declared.tree.Thing.TheVariants as thing
use Rattle.just_host_record.specs.Sights.{Tree, seen}
use Rattle.just_host_record.specs.World.{World, view_of}
use Rattle.just_host_record.specs.Changes.{folder_of, holds_folder, file_at, place_found, place_written, written, kept, entry_found, with_cache_entry}
use Rattle.just_host_record.specs.Effects.{LeadsToFile, NamesNewFile, IsNewFile, IsWritten, IsPutSomewhere, IsNewEntry, HasEntry}
use Rattle.just_host_record.proofs.Writing.{put_elsewhere, put_there, written_elsewhere, written_there, entry_elsewhere}

ok_is : {A : Type 0} (x y : A) → ◌≡◌ {A = Result A Miss} (Ok x) (Ok y) → x ≡ y
ok_is x y e = cc

-- a file that is found is the one that the path leads to
file_goes : (w : World) (path place found : List ℕ) (o : Option Thing) → canonical_told path (view_of w) ≡ Ok found → get w.tree found ≡ o → file_at found o ≡ Ok place → LeadsToFile w path place
file_goes w path place found (Some (thing.File bytes executable)) leads at is =
    let same : found ≡ place = ok_is found place is in
    record { leads = leads ∙ ap (λ p. Ok p) same; file = (bytes, executable, ap (λ p. get w.tree p) (sym same) ∙ at) }
file_goes w path place found (Some thing.Folder) leads at is = absurd cc
file_goes w path place found (Some (thing.Link target)) leads at is = absurd cc
file_goes w path place found None leads at is = absurd cc

open_goes : (w : World) (path place own : List ℕ) (m : Miss) (a b h : Bool) (o : Option Thing) → canonical_told path (view_of w) ≡ Err miss.NotFound → is_empty path ≡ a → asks_folder path ≡ b → own ≡ place_under w.current path → get w.tree own ≡ o → holds_folder w.tree (folder_of own) ≡ h → cond (a || b) (Err miss.NotFound) (cond (is_none o && h) (Ok own) (Err m)) ≡ Ok place → IsNewFile w path place
open_goes w path place own m true b h o missing named file is free folder e = absurd cc
open_goes w path place own m false true h o missing named file is free folder e = absurd cc
open_goes w path place own m false false true None missing named file is free folder e =
    let same : own ≡ place = ok_is own place e in
    (record { missing = missing; named = named; file = file; own = sym same ∙ is; free = ap (λ p. get w.tree p) (sym same) ∙ free }, ap (λ p. holds_folder w.tree (folder_of p)) (sym same) ∙ folder)
open_goes w path place own m false false false None missing named file is free folder e = absurd cc
open_goes w path place own m false false true (Some t) missing named file is free folder e = absurd cc
open_goes w path place own m false false false (Some t) missing named file is free folder e = absurd cc

found_goes : (w : World) (path place : List ℕ) (r : Result (List ℕ) Miss) → canonical_told path (view_of w) ≡ r → place_found w path r ≡ Ok place → IsWritten w path place
found_goes w path place (Ok found) leads e = inl (file_goes w path place found (get w.tree found) leads refl e)
found_goes w path place (Err miss.NotFound) leads e = inr (open_goes w path place (place_under w.current path) (absence (place_under w.current path) (seen w.tree)) _ _ _ _ leads refl refl refl refl refl e)
found_goes w path place (Err miss.NotFolder) leads e = absurd cc
found_goes w path place (Err miss.IsFolder) leads e = absurd cc
found_goes w path place (Err miss.NotUtf8) leads e = absurd cc
found_goes w path place (Err miss.NotEmpty) leads e = absurd cc
found_goes w path place (Err miss.TooLarge) leads e = absurd cc

-- a write goes to the file where its path leads; where nothing is found, to the path's own place in its folder
pub goes_written : (w : World) (path place : List ℕ) → place_written w path ≡ Ok place → IsWritten w path place
goes_written w path place e = found_goes w path place (canonical_told path (view_of w)) refl e

-- a file that is written holds the bytes, and all else stands as it did
pub written_puts : (w : World) (path bytes : List ℕ) (new : Tree) → written w path bytes ≡ Ok new → IsPutSomewhere w path bytes new
written_puts w path bytes new e =
    let (place, at, there) = written_there w path bytes new e in
    (place, record { goes = goes_written w path place at; file = there; rest = λ q apart. written_elsewhere w path bytes new e q (λ is. apart (ok_is q place (sym is ∙ at))) })

same_tree : (x y : Tree) → ◌≡◌ {A = Result Tree Miss} (Ok x) (Ok y) → x ≡ y
same_tree x y e = cc

entry_there : (w : World) (path place : List ℕ) (new : Tree) (o : Option Thing) → canonical_told path (view_of w) ≡ Ok place → get w.tree place ≡ o → kept w.tree (file_at place o) ≡ Ok new → HasEntry w path new
entry_there w path place new (Some (thing.File bytes executable)) leads at e =
    inl ((place, record { leads = leads; file = (bytes, executable, at) }), sym (same_tree w.tree new e))
entry_there w path place new (Some thing.Folder) leads at e = absurd cc
entry_there w path place new (Some (thing.Link target)) leads at e = absurd cc
entry_there w path place new None leads at e = absurd cc

either : {A B : Type 0} → (A → ⊥) → (B → ⊥) → A ⊎ B → ⊥
either a b (inl x) = a x
either a b (inr y) = b y

entry_names : (w : World) (path : List ℕ) → canonical_told path (view_of w) ≡ Err miss.NotFound → is_empty path ≡ false → asks_folder path ≡ false → get w.tree (place_under w.current path) ≡ None → NamesNewFile w path (place_under w.current path)
entry_names w path missing named file free = record { missing = missing; named = named; file = file; own = refl; free = free }

entry_made : (w : World) (path : List ℕ) (new : Tree) (m : Miss) (a b h fh : Bool) (o fo : Option Thing) → canonical_told path (view_of w) ≡ Err miss.NotFound → with_cache_entry w path ≡ Ok new → is_empty path ≡ a → asks_folder path ≡ b → get w.tree (place_under w.current path) ≡ o → holds_folder w.tree (folder_of (place_under w.current path)) ≡ h → get w.tree (folder_of (place_under w.current path)) ≡ fo → holds_folder w.tree (folder_of (folder_of (place_under w.current path))) ≡ fh → cond (a || b) (Err miss.NotFound) (cond (is_none o && h) (Ok (insert w.tree (place_under w.current path) (thing.File [] false))) (cond (is_none o && (is_none fo && fh)) (Ok (insert (insert w.tree (folder_of (place_under w.current path)) thing.Folder) (place_under w.current path) (thing.File [] false))) (Err m))) ≡ Ok new → IsNewEntry w path new
entry_made w path new m true b h fh o fo missing whole named file free folder lacks above e = absurd cc
entry_made w path new m false true h fh o fo missing whole named file free folder lacks above e = absurd cc
entry_made w path new m false false true fh None fo missing whole named file free folder lacks above e =
    record {
      names = entry_names w path missing named file free;
      file = ap (λ t. get t (place_under w.current path)) (sym (same_tree _ new e)) ∙ put_there w.tree (place_under w.current path) (thing.File [] false);
      folder = inl folder;
      rest = λ q apart above. entry_elsewhere w path new whole q (either apart above);
    }
entry_made w path new m false false false true None None missing whole named file free folder lacks above e =
    record {
      names = entry_names w path missing named file free;
      file = ap (λ t. get t (place_under w.current path)) (sym (same_tree _ new e)) ∙ put_there (insert w.tree (folder_of (place_under w.current path)) thing.Folder) (place_under w.current path) (thing.File [] false);
      folder = inr (record { lacks = lacks; folder = above; made = λ apart. ap (λ t. get t (folder_of (place_under w.current path))) (sym (same_tree _ new e)) ∙ put_elsewhere (insert w.tree (folder_of (place_under w.current path)) thing.Folder) (place_under w.current path) (folder_of (place_under w.current path)) (thing.File [] false) apart ∙ put_there w.tree (folder_of (place_under w.current path)) thing.Folder });
      rest = λ q apart above. entry_elsewhere w path new whole q (either apart above);
    }
entry_made w path new m false false false false None None missing whole named file free folder lacks above e = absurd cc
entry_made w path new m false false false fh None (Some t) missing whole named file free folder lacks above e = absurd cc
entry_made w path new m false false h fh (Some t) fo missing whole named file free folder lacks above e = absurd cc

entry_behind : (w : World) (path : List ℕ) (new : Tree) (r : Result (List ℕ) Miss) → canonical_told path (view_of w) ≡ r → with_cache_entry w path ≡ Ok new → entry_found w path r ≡ Ok new → HasEntry w path new
entry_behind w path new (Ok place) leads whole e = entry_there w path place new (get w.tree place) leads refl e
entry_behind w path new (Err miss.NotFound) leads whole e =
    inr (entry_made w path new (absence (place_under w.current path) (seen w.tree)) _ _ _ _ _ _ leads whole refl refl refl refl refl refl e)
entry_behind w path new (Err miss.NotFolder) leads whole e = absurd cc
entry_behind w path new (Err miss.IsFolder) leads whole e = absurd cc
entry_behind w path new (Err miss.NotUtf8) leads whole e = absurd cc
entry_behind w path new (Err miss.NotEmpty) leads whole e = absurd cc
entry_behind w path new (Err miss.TooLarge) leads whole e = absurd cc

-- a cache entry that is looked at was there and all is as it was, or it is new and empty
pub entry_has : (w : World) (path : List ℕ) (new : Tree) → with_cache_entry w path ≡ Ok new → HasEntry w path new
entry_has w path new e = entry_behind w path new (canonical_told path (view_of w)) refl e e
