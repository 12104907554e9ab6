-- Laws of the call that makes folders: it leaves all that stands, adds folders at the path's place and above it alone, and a folder is there.
use Rattle.std.proofs.Common.{◌≡◌, ◌⊎◌, ◌||◌, ℕ, zero, suc, Bool, true, false, List, [], ◌∷◌, cond, inl, inr, is_none, length, Option, Some, None, option_map, Result, Ok, Err, refl, ap, sym, ◌∙◌}
use Rattle.std.specs.FinMap.{get, insert}
use Rattle.std.specs.Str.{bytes_eq}
use Rattle.std.proofs.lemmas.Slice.Eq.{bytes_eq-Decides}
use Rattle.just_path.specs.Path.{pushed}
use Rattle.just_path.specs.Comps.{Comp, is_empty, slash, names, lead_of, comps}
use Rattle.just_path.specs.Clean.{normal_form, or_current, cleaned}
use Rattle.just_path.proofs.CleanPaths.{comps_cleaned}
use Rattle.just_path.specs.View.{folder_told, place_under, meta_of, meta_seen, sees_folder}
use Rattle.just_path.specs.declared.host.Miss.{Miss}
use Rattle.just_path.specs.declared.host.Miss.TheVariants as miss
use Rattle.just_host_record.specs.declared.tree.Thing.{Thing}
use Rattle.just_host_record.specs.declared.tree.Thing.TheVariants as thing
use Rattle.just_host_record.specs.Sights.{Tree, sight_of, seen}
use Rattle.just_host_record.specs.World.{World, view_of}
use Rattle.just_host_record.specs.Changes.{folder_of, holds_folder, is_not_found}
use Rattle.just_host_record.specs.NewFolders.{and_folder, with_folders, new_folder, folder_found, with_folder, above, IsOfFolder}
use Rattle.just_host_record.specs.Effects.{AddsFolders, MakesFolder}
use Rattle.just_host_record.proofs.Laws.{sight_seen}
use Rattle.just_host_record.proofs.Writing.{put_elsewhere, put_there}

same_tree : (x y : Tree) → ◌≡◌ {A = Result Tree Miss} (Ok x) (Ok y) → x ≡ y
same_tree x y e = cc

put_step : (tree new : Tree) (place q : List ℕ) (r : Result Tree Miss) → and_folder place r ≡ Ok new → (q ≡ place → ⊥) → ((t : Tree) → r ≡ Ok t → get t q ≡ get tree q) → get new q ≡ get tree q
put_step tree new place q (Ok t) e apart below = ap (λ m. get m q) (sym (same_tree _ _ e)) ∙ put_elsewhere t place q thing.Folder apart ∙ below t refl
put_step tree new place q (Err m) e apart below = absurd cc

step_elsewhere : (b c : Bool) (tree new : Tree) (place q : List ℕ) (r : Result Tree Miss) → cond b (Ok tree) (cond c (and_folder place r) (Err miss.NotFound)) ≡ Ok new → (q ≡ place → ⊥) → ((t : Tree) → r ≡ Ok t → get t q ≡ get tree q) → get new q ≡ get tree q
step_elsewhere true c tree new place q r e apart below = ap (λ m. get m q) (sym (same_tree _ _ e))
step_elsewhere false true tree new place q r e apart below = put_step tree new place q r e apart below
step_elsewhere false false tree new place q r e apart below = absurd cc

folders_elsewhere : (tree new : Tree) (n : ℕ) (place q : List ℕ) → with_folders tree n place ≡ Ok new → ((k : ℕ) → q ≡ above k place → ⊥) → get new q ≡ get tree q
folders_elsewhere tree new zero place q e apart = ap (λ m. get m q) (sym (same_tree _ _ e))
folders_elsewhere tree new (suc n) place q e apart =
    step_elsewhere (holds_folder tree place) (is_none (get tree place)) tree new place q (with_folders tree n (folder_of place)) e (apart 0)
    (λ t is. folders_elsewhere tree t n (folder_of place) q is (λ k at. apart (suc k) at))

new_elsewhere : (b : Bool) (tree new : Tree) (place q : List ℕ) → cond b (Err miss.NotFound) (with_folders tree (length place) place) ≡ Ok new → ((k : ℕ) → q ≡ above k place → ⊥) → get new q ≡ get tree q
new_elsewhere true tree new place q e apart = absurd cc
new_elsewhere false tree new place q e apart = folders_elsewhere tree new (length place) place q e apart

behind_miss : (b : Bool) (w : World) (path q : List ℕ) (new : Tree) (m : Miss) → cond b (new_folder w.tree path (place_under w.current path)) (Err m) ≡ Ok new → (IsOfFolder w path q → ⊥) → get new q ≡ get w.tree q
behind_miss true w path q new m e apart = new_elsewhere (is_empty path) w.tree new (place_under w.current path) q e (λ k is. apart (k, is))
behind_miss false w path q new m e apart = absurd cc

found_elsewhere : (w : World) (path q : List ℕ) (new : Tree) (r : Result (List ℕ) Miss) → folder_found w path r ≡ Ok new → (IsOfFolder w path q → ⊥) → get new q ≡ get w.tree q
found_elsewhere w path q new (Ok place) e apart = ap (λ m. get m q) (sym (same_tree _ _ e))
found_elsewhere w path q new (Err m) e apart = behind_miss (is_not_found m) w path q new m e apart

-- a folder that is made leaves what stands elsewhere than at its place and above it
pub made_elsewhere : (w : World) (path : List ℕ) (new : Tree) → with_folder w path ≡ Ok new → (q : List ℕ) → (IsOfFolder w path q → ⊥) → get new q ≡ get w.tree q
made_elsewhere w path new e q apart = found_elsewhere w path q new (folder_told path (view_of w)) e apart

or_there : (b c : Bool) → c ≡ true → (b || c) ≡ true
or_there true c is = refl
or_there false c is = is

-- where a folder was put one stands
folder_there : (tree : Tree) (place : List ℕ) → get tree place ≡ Some thing.Folder → holds_folder tree place ≡ true
folder_there tree place is =
    or_there (bytes_eq place slash) (sees_folder (meta_seen place (seen tree)))
    (ap (λ o. sees_folder (option_map meta_of o)) (sight_seen tree place ∙ ap (λ o. option_map sight_of o) is))

put_folder_there : (place : List ℕ) (r : Result Tree Miss) (new : Tree) → and_folder place r ≡ Ok new → holds_folder new place ≡ true
put_folder_there place (Ok t) new e = folder_there new place (ap (λ m. get m place) (sym (same_tree _ _ e)) ∙ put_there t place thing.Folder)
put_folder_there place (Err m) new e = absurd cc

step_there : (b c : Bool) (tree new : Tree) (place : List ℕ) (r : Result Tree Miss) → holds_folder tree place ≡ b → cond b (Ok tree) (cond c (and_folder place r) (Err miss.NotFound)) ≡ Ok new → holds_folder new place ≡ true
step_there true c tree new place r is e = ap (λ m. holds_folder m place) (sym (same_tree _ _ e)) ∙ is
step_there false true tree new place r is e = put_folder_there place r new e
step_there false false tree new place r is e = absurd cc

-- behind it a folder is at the place
pub folders_there : (tree new : Tree) (n : ℕ) (place : List ℕ) → with_folders tree (suc n) place ≡ Ok new → holds_folder new place ≡ true
folders_there tree new n place e =
    step_there (holds_folder tree place) (is_none (get tree place)) tree new place (with_folders tree n (folder_of place)) refl e

stood_free : (tree : Tree) (place q : List ℕ) (t : Thing) → get tree place ≡ None → get tree q ≡ Some t → q ≡ place → ⊥
stood_free tree place q t free stood at = let same : get tree q ≡ get tree place = ap (λ p. get tree p) at in cc

step_kept : (b : Bool) (o : Option Thing) (tree new : Tree) (place q : List ℕ) (t : Thing) (r : Result Tree Miss) → get tree place ≡ o → cond b (Ok tree) (cond (is_none o) (and_folder place r) (Err miss.NotFound)) ≡ Ok new → get tree q ≡ Some t → ((u : Tree) → r ≡ Ok u → get u q ≡ Some t) → get new q ≡ Some t
step_kept true o tree new place q t r free e stood below = ap (λ m. get m q) (sym (same_tree _ _ e)) ∙ stood
step_kept false None tree new place q t (Ok u) free e stood below =
    ap (λ m. get m q) (sym (same_tree _ _ e)) ∙ put_elsewhere u place q thing.Folder (λ at. stood_free tree place q t free stood at) ∙ below u refl
step_kept false None tree new place q t (Err m) free e stood below = absurd cc
step_kept false (Some x) tree new place q t r free e stood below = absurd cc

folders_kept : (tree new : Tree) (n : ℕ) (place q : List ℕ) (t : Thing) → with_folders tree n place ≡ Ok new → get tree q ≡ Some t → get new q ≡ Some t
folders_kept tree new zero place q t e stood = ap (λ m. get m q) (sym (same_tree _ _ e)) ∙ stood
folders_kept tree new (suc n) place q t e stood =
    step_kept (holds_folder tree place) (get tree place) tree new place q t (with_folders tree n (folder_of place)) refl e stood
    (λ u is. folders_kept tree u n (folder_of place) q t is stood)

-- nothing stands there, or a folder and the place is that place or above it
abbrev MadeAt : Tree → List ℕ → List ℕ → Type 0
MadeAt new place q = (get new q ≡ None) ⊎ ((get new q ≡ Some thing.Folder) × ((k : ℕ) × (q ≡ above k place)))

made_above : (new u : Tree) (place q : List ℕ) → get new q ≡ get u q → MadeAt u (folder_of place) q → MadeAt new place q
made_above new u place q same (inl free) = inl (same ∙ free)
made_above new u place q same (inr made) = inr (same ∙ made.0, (suc made.1.0, made.1.1))

made_or_above : (here : Bool) (new u : Tree) (place q : List ℕ) → bytes_eq q place ≡ here → insert u place thing.Folder ≡ new → MadeAt u (folder_of place) q → MadeAt new place q
made_or_above true new u place q is same below =
    let at : q ≡ place = (bytes_eq-Decides q place).0 is in
    inr (ap (λ m. get m q) (sym same) ∙ ap (λ p. get (insert u place thing.Folder) p) at ∙ put_there u place thing.Folder, (zero, at))
made_or_above false new u place q is same below =
    made_above new u place q (ap (λ m. get m q) (sym same) ∙ put_elsewhere u place q thing.Folder (λ at. let yes : bytes_eq q place ≡ true = (bytes_eq-Decides q place).1 at in cc)) below

step_made : (b : Bool) (o : Option Thing) (tree new : Tree) (place q : List ℕ) (r : Result Tree Miss) → cond b (Ok tree) (cond (is_none o) (and_folder place r) (Err miss.NotFound)) ≡ Ok new → get tree q ≡ None → ((u : Tree) → r ≡ Ok u → MadeAt u (folder_of place) q) → MadeAt new place q
step_made true o tree new place q r e free below = inl (ap (λ m. get m q) (sym (same_tree _ _ e)) ∙ free)
step_made false None tree new place q (Ok u) e free below = made_or_above (bytes_eq q place) new u place q refl (same_tree _ _ e) (below u refl)
step_made false None tree new place q (Err m) e free below = absurd cc
step_made false (Some x) tree new place q r e free below = absurd cc

folders_made : (tree new : Tree) (n : ℕ) (place q : List ℕ) → with_folders tree n place ≡ Ok new → get tree q ≡ None → MadeAt new place q
folders_made tree new zero place q e free = inl (ap (λ m. get m q) (sym (same_tree _ _ e)) ∙ free)
folders_made tree new (suc n) place q e free =
    step_made (holds_folder tree place) (get tree place) tree new place q (with_folders tree n (folder_of place)) e free
    (λ u is. folders_made tree u n (folder_of place) q is free)

no_comps : comps [] ≡ []
unfolding comps lead_of names
no_comps = refl

some_comps : (cs : List Comp) → or_current cs ≡ [] → ⊥
some_comps [] e = cc
some_comps (c ∷ cs) e = cc

-- a clean path isn't empty
clean_filled : (t : List ℕ) → cleaned t ≡ [] → ⊥
clean_filled t e = some_comps (normal_form (comps t)) (sym (comps_cleaned t) ∙ ap comps e ∙ no_comps)

filled_there : (tree new : Tree) (place : List ℕ) → (place ≡ [] → ⊥) → with_folders tree (length place) place ≡ Ok new → holds_folder new place ≡ true
filled_there tree new [] filled e = absurd (filled refl)
filled_there tree new (b ∷ bs) filled e = folders_there tree new (length bs) (b ∷ bs) e

same_adds : (w : World) (path : List ℕ) (new : Tree) → w.tree ≡ new → AddsFolders w path new
same_adds w path new same =
    record { kept = λ q t at. ap (λ m. get m q) (sym same) ∙ at; made = λ q free. inl (ap (λ m. get m q) (sym same) ∙ free) }

new_makes : (b : Bool) (w : World) (path : List ℕ) (new : Tree) → folder_told path (view_of w) ≡ Err miss.NotFound → cond b (Err miss.NotFound) (with_folders w.tree (length (place_under w.current path)) (place_under w.current path)) ≡ Ok new → MakesFolder w path new
new_makes true w path new told e = absurd cc
new_makes false w path new told e =
    record {
      adds = record {
        kept = λ q t at. folders_kept w.tree new (length (place_under w.current path)) (place_under w.current path) q t e at;
        made = λ q free. folders_made w.tree new (length (place_under w.current path)) (place_under w.current path) q e free;
      };
      there = inr (told, filled_there w.tree new (place_under w.current path) (clean_filled (pushed w.current path)) e);
    }

behind_told : (w : World) (path : List ℕ) (new : Tree) (r : Result (List ℕ) Miss) → folder_told path (view_of w) ≡ r → folder_found w path r ≡ Ok new → MakesFolder w path new
behind_told w path new (Ok place) told e =
    record { adds = same_adds w path new (same_tree w.tree new e); there = inl ((place, told), sym (same_tree w.tree new e)) }
behind_told w path new (Err miss.NotFound) told e = new_makes (is_empty path) w path new told e
behind_told w path new (Err miss.NotFolder) told e = absurd cc
behind_told w path new (Err miss.IsFolder) told e = absurd cc
behind_told w path new (Err miss.NotUtf8) told e = absurd cc
behind_told w path new (Err miss.NotEmpty) told e = absurd cc
behind_told w path new (Err miss.TooLarge) told e = absurd cc

-- a folder that is made is there, with new folders above it at most; nothing that stood is changed
pub folder_makes : (w : World) (path : List ℕ) (new : Tree) → with_folder w path ≡ Ok new → MakesFolder w path new
folder_makes w path new e = behind_told w path new (folder_told path (view_of w)) refl e
