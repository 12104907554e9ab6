-- Laws of the calls that write: they leave what stands elsewhere, and what was written is there.
use Rattle.std.proofs.Common.{◌≡◌, ℕ, Bool, true, false, List, [], cond, inl, inr, Some, Result, Ok, Err, refl, ap, sym, ◌∙◌}
use Rattle.std.specs.FinMap.{get, insert, get-insert}
use Rattle.std.specs.Str.{bytes_eq}
use Rattle.std.proofs.lemmas.Cmp.{nat_list_cmp_total}
use Rattle.std.proofs.lemmas.Map.Text.{is_eq-slice_cmp}
use Rattle.std.proofs.lemmas.Slice.Eq.{bytes_eq-Decides}
use Rattle.just_path.specs.View.{canonical_told, place_under}
use Rattle.just_path.specs.declared.host.Miss.{Miss}
use Rattle.just_host_record.specs.declared.tree.Thing.{Thing}
use Rattle.just_host_record.specs.declared.tree.Thing.TheVariants as thing
use Rattle.just_host_record.specs.Sights.{Tree}
use Rattle.just_host_record.specs.World.{World, view_of}
use Rattle.just_host_record.specs.Changes.{folder_of, file_at, is_not_found, place_written, runs, written_at, written, kept, with_entry, new_entry, entry_found, with_cache_entry, IsOfEntry}

-- texts that aren't equal don't compare equal
apart_texts : (q place : List ℕ) (b : Bool) → bytes_eq q place ≡ b → (q ≡ place → ⊥) → b ≡ false
apart_texts q place true e apart = absurd (apart ((bytes_eq-Decides q place).0 e))
apart_texts q place false e apart = refl

-- where nothing was put, there stands what stood there
pub put_elsewhere : (tree : Tree) (place q : List ℕ) (t : Thing) → (q ≡ place → ⊥) → get (insert tree place t) q ≡ get tree q
put_elsewhere tree place q t apart =
    get-insert nat_list_cmp_total tree place t q
    ∙ ap (λ b. cond b (Some t) (get tree q)) (is_eq-slice_cmp q place ∙ apart_texts q place (bytes_eq q place) refl apart)

-- what was put is there
pub put_there : (tree : Tree) (place : List ℕ) (t : Thing) → get (insert tree place t) place ≡ Some t
put_there tree place t =
    get-insert nat_list_cmp_total tree place t place
    ∙ ap (λ b. cond b (Some t) (get tree place)) (is_eq-slice_cmp place place ∙ (bytes_eq-Decides place place).1 refl)

ok_is : {A : Type 0} (x y : A) → ◌≡◌ {A = Result A Miss} (Ok x) (Ok y) → x ≡ y
ok_is x y e = cc

written_at_elsewhere : (tree new : Tree) (bytes : List ℕ) (r : Result (List ℕ) Miss) → written_at tree bytes r ≡ Ok new → (q : List ℕ) → (r ≡ Ok q → ⊥) → get new q ≡ get tree q
written_at_elsewhere tree new bytes (Ok place) e q apart =
    ap (λ m. get m q) (sym (ok_is _ _ e)) ∙ put_elsewhere tree place q (thing.File bytes (runs (get tree place))) (λ same. apart (ap (λ x. Ok x) (sym same)))
written_at_elsewhere tree new bytes (Err m) e q apart = absurd cc

-- a file that is written leaves what stands elsewhere
pub written_elsewhere : (w : World) (path bytes : List ℕ) (new : Tree) → written w path bytes ≡ Ok new → (q : List ℕ) → (place_written w path ≡ Ok q → ⊥) → get new q ≡ get w.tree q
written_elsewhere w path bytes new e q apart = written_at_elsewhere w.tree new bytes (place_written w path) e q apart

written_at_there : (tree new : Tree) (bytes : List ℕ) (r : Result (List ℕ) Miss) → written_at tree bytes r ≡ Ok new → (place : List ℕ) × (r ≡ Ok place) × (get new place ≡ Some (thing.File bytes (runs (get tree place))))
written_at_there tree new bytes (Ok place) e = (place, refl, ap (λ m. get m place) (sym (ok_is _ _ e)) ∙ put_there tree place (thing.File bytes (runs (get tree place))))
written_at_there tree new bytes (Err m) e = absurd cc

-- a file that was written is there, with these bytes
pub written_there : (w : World) (path bytes : List ℕ) (new : Tree) → written w path bytes ≡ Ok new → (place : List ℕ) × (place_written w path ≡ Ok place) × (get new place ≡ Some (thing.File bytes (runs (get w.tree place))))
written_there w path bytes new e = written_at_there w.tree new bytes (place_written w path) e

entry_put : (a b : Bool) (tree new : Tree) (place q : List ℕ) (m : Miss) → cond a (Ok (insert tree place (thing.File [] false))) (cond b (Ok (insert (insert tree (folder_of place) thing.Folder) place (thing.File [] false))) (Err m)) ≡ Ok new → (q ≡ place → ⊥) → (q ≡ folder_of place → ⊥) → get new q ≡ get tree q
entry_put true b tree new place q m e file folder = ap (λ t. get t q) (sym (ok_is _ _ e)) ∙ put_elsewhere tree place q (thing.File [] false) file
entry_put false true tree new place q m e file folder =
    ap (λ t. get t q) (sym (ok_is _ _ e)) ∙ put_elsewhere (insert tree (folder_of place) thing.Folder) place q (thing.File [] false) file
    ∙ put_elsewhere tree (folder_of place) q thing.Folder folder
entry_put false false tree new place q m e file folder = absurd cc

new_entry_elsewhere : (b : Bool) (tree new : Tree) (place q : List ℕ) (m : Miss) → cond b (Err m) (with_entry tree place) ≡ Ok new → (q ≡ place → ⊥) → (q ≡ folder_of place → ⊥) → get new q ≡ get tree q
new_entry_elsewhere true tree new place q m e file folder = absurd cc
new_entry_elsewhere false tree new place q m e file folder = entry_put _ _ tree new place q _ e file folder

behind_miss : (b : Bool) (w : World) (path q : List ℕ) (new : Tree) (m : Miss) → cond b (new_entry w.tree path (place_under w.current path)) (Err m) ≡ Ok new → (IsOfEntry w path q → ⊥) → get new q ≡ get w.tree q
behind_miss true w path q new m e apart = new_entry_elsewhere _ w.tree new (place_under w.current path) q _ e (λ s. apart (inl s)) (λ s. apart (inr s))
behind_miss false w path q new m e apart = absurd cc

kept_same : (tree new : Tree) (r : Result (List ℕ) Miss) → kept tree r ≡ Ok new → tree ≡ new
kept_same tree new (Ok place) e = ok_is _ _ e
kept_same tree new (Err m) e = absurd cc

found_elsewhere : (w : World) (path q : List ℕ) (new : Tree) (r : Result (List ℕ) Miss) → entry_found w path r ≡ Ok new → (IsOfEntry w path q → ⊥) → get new q ≡ get w.tree q
found_elsewhere w path q new (Ok place) e apart = ap (λ t. get t q) (sym (kept_same w.tree new (file_at place (get w.tree place)) e))
found_elsewhere w path q new (Err m) e apart = behind_miss (is_not_found m) w path q new m e apart

-- a cache entry that is made leaves what stands elsewhere than at its place and its folder's
pub entry_elsewhere : (w : World) (path : List ℕ) (new : Tree) → with_cache_entry w path ≡ Ok new → (q : List ℕ) → (IsOfEntry w path q → ⊥) → get new q ≡ get w.tree q
entry_elsewhere w path new e q apart = found_elsewhere w path q new (canonical_told path (view_of w)) e apart
