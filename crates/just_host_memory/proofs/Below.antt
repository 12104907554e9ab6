-- What stands below a place, one thing after another.
use Rattle.std.proofs.Common.{◌≡◌, ℕ, ◌+◌, ◌<◌, ◌≤◌, ◌++◌, Bool, true, false, List, [], length, get_or, drop, map, is_some, Option, Some, None, option_map, refl, ap, sym, subst, ◌∙◌}
use Rattle.std.proofs.lemmas.List.{at_drop_all, length-map}
use Rattle.std.proofs.lemmas.Slice.Eq.{bytes_eq-Decides}
use Rattle.std.specs.Ordering.{nat_cmp}
use Rattle.std.specs.Cmp.Lexicographic.{slice_cmp}
use Rattle.std.specs.FinMap.{find, get}
use Rattle.std.specs.Str.{bytes_eq}
use Rattle.just_path.specs.Path.{pushed}
use Rattle.just_path.specs.View.{meta_of, meta_seen, sees_folder}
use Rattle.just_host_record.specs.declared.tree.Thing.{Thing}
use Rattle.just_host_record.specs.declared.tree.Thing.TheVariants as things
use Rattle.just_host_record.specs.Sights.{Tree, sight_of, seen}
use Rattle.just_host_record.proofs.Laws.{sight_seen}
use Rattle.just_host_record.specs.Folders.{IsBelow}
use Rattle.just_host_memory.specs.declared.place.Place.{Place}
use Rattle.just_host_memory.specs.Files.{by_text}
use Rattle.just_host_memory.specs.Removals.{IsAfter, IsHeld, IsFilled}
use Rattle.just_host_memory.proofs.Things.{thing_hit, thing_missed}

-- what stands below a place is among the things from a number on
abbrev pub IsAmongFrom : Tree → List ℕ → List (Place × Thing) → ℕ → Type 0
IsAmongFrom tree place things i = (below : List ℕ) → IsBelow place below → get tree below ≡ find (slice_cmp nat_cmp) below (drop i (map by_text things))

-- the next thing stands below the place
pub below_hit : (tree : Tree) (place front key : List ℕ) (things : List (Place × Thing)) (i : ℕ) (e : Place × Thing) → i < length things → e ≡ get_or things i e → key ≡ e.0.path → front ≡ pushed place [] → IsAfter true front key → IsAmongFrom tree place things i → IsHeld true tree place
below_hit tree place front key things i e inside is named fronted after among =
    let named_so : e.0.path ≡ pushed place [] ++ after.0 = sym named ∙ after.2 ∙ ap (λ f. f ++ after.0) fronted in
    let below : IsBelow place e.0.path = (after.0, after.1, named_so) in
    let found : get tree e.0.path ≡ Some e.1 =
    among e.0.path below ∙ thing_hit e.0.path key things i e inside is named ((bytes_eq-Decides e.0.path key).1 (sym named)) in
    (e.0.path, below, ap (λ o. is_some o) found)

not_below : (place front key below : List ℕ) (b : Bool) → bytes_eq below key ≡ b → front ≡ pushed place [] → IsAfter false front key → IsBelow place below → b ≡ false
not_below place front key below true e fronted after is =
    let same : below ≡ key = (bytes_eq-Decides below key).0 e in
    absurd (after is.0 is.1 (sym same ∙ is.2 ∙ ap (λ f. f ++ is.0) (sym fronted)))
not_below place front key below false e fronted after is = refl

-- the next thing doesn't stand below the place
pub below_pass : (tree : Tree) (place front key : List ℕ) (things : List (Place × Thing)) (i : ℕ) (e : Place × Thing) → i < length things → e ≡ get_or things i e → key ≡ e.0.path → front ≡ pushed place [] → IsAfter false front key → IsAmongFrom tree place things i → IsAmongFrom tree place things (i + 1)
below_pass tree place front key things i e inside is named fronted after among =
    λ below isb. among below isb ∙ thing_missed below key things i e inside is named (not_below place front key below (bytes_eq below key) refl fronted after isb)

-- no thing is left that stands below the place
pub below_none : (tree : Tree) (place : List ℕ) (things : List (Place × Thing)) (i : ℕ) → length things ≤ i → IsAmongFrom tree place things i → IsHeld false tree place
below_none tree place things i past among =
    λ below isb. among below isb ∙ at_drop_all (find (slice_cmp nat_cmp) below) (map by_text things) i (subst (λ n. n ≤ i) (sym (length-map things by_text)) past)

folder_case : (o : Option Thing) → sees_folder (option_map meta_of (option_map sight_of o)) ≡ true → o ≡ Some things.Folder
folder_case None e = absurd cc
folder_case (Some (things.File bytes executable)) e = absurd cc
folder_case (Some things.Folder) e = refl
folder_case (Some (things.Link target)) e = absurd cc

no_folder_case : (o : Option Thing) → sees_folder (option_map meta_of (option_map sight_of o)) ≡ false → o ≡ Some things.Folder → ⊥
no_folder_case None e is = absurd cc
no_folder_case (Some (things.File bytes executable)) e is = absurd cc
no_folder_case (Some things.Folder) e is = absurd cc
no_folder_case (Some (things.Link target)) e is = absurd cc

-- a folder that is seen at a place, with what is known of what stands below it
pub filled_folder : (tree : Tree) (place : List ℕ) (b : Bool) → sees_folder (meta_seen place (seen tree)) ≡ true → IsHeld b tree place → IsFilled b tree place
filled_folder tree place true sees held =
    record {
      folder = folder_case (get tree place) (sym (ap (λ o. sees_folder (option_map meta_of o)) (sight_seen tree place)) ∙ sees);
      item = held;
    }
filled_folder tree place false sees held = λ folder. held

-- where no folder is seen there is no folder that isn't empty
pub unfilled : (tree : Tree) (place : List ℕ) → sees_folder (meta_seen place (seen tree)) ≡ false → IsFilled false tree place
unfilled tree place sees = λ folder. absurd (no_folder_case (get tree place) (sym (ap (λ o. sees_folder (option_map meta_of o)) (sight_seen tree place)) ∙ sees) folder)
