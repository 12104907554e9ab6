-- Looking a place up in what a tree shows.
use Rattle.std.proofs.Common.{◌≡◌, Bool, true, false, cond, ℕ, List, [], ◌∷◌, map, Option, Some, None, option_map, refl, sym, ap, subst, ◌∙◌}
use Rattle.std.specs.Ordering.{nat_cmp, eq_by_cmp}
use Rattle.std.specs.Cmp.Lexicographic.{slice_cmp}
use Rattle.std.specs.FinMap.{find, get, get-from_entries}
use Rattle.std.proofs.lemmas.Cmp.{nat_list_cmp_total}
use Rattle.just_path.specs.Clean.{is_clean_absolute}
use Rattle.just_path.specs.View.{Sight, HasCleanPlaces, meta_of, sight, meta_seen, target_of, target_seen}
use Rattle.just_host_record.specs.declared.tree.Thing.{Thing}
use Rattle.just_host_record.specs.declared.tree.Thing.TheVariants as things
use Rattle.just_host_record.specs.Sights.{Tree, sight_of, seen}
use Rattle.just_host_memory.specs.declared.place.Place.{Place}
use Rattle.just_host_memory.specs.Files.{by_text, files_in}
use Rattle.just_host_record.proofs.Laws.{sight_seen}
use Rattle.just_host_memory.proofs.Things.{same_text}

-- what stands at a place is shown as it looks, where it is known what stands there
sight_as : (tree : Tree) (place : List ℕ) (o : Option Thing) → get tree place ≡ o → sight place (seen tree) ≡ option_map sight_of o
sight_as tree place o is = sight_seen tree place ∙ ap (λ x. option_map sight_of x) is

-- what is known of a thing is what its place shows
pub meta_some : (tree : Tree) (place : List ℕ) (t : Thing) → get tree place ≡ Some t → Some (meta_of (sight_of t)) ≡ meta_seen place (seen tree)
meta_some tree place t is = sym (ap (λ o. option_map meta_of o) (sight_as tree place (Some t) is))

-- of a place at which nothing stands nothing is known
pub meta_none : (tree : Tree) (place : List ℕ) → get tree place ≡ None → None ≡ meta_seen place (seen tree)
meta_none tree place is = sym (ap (λ o. option_map meta_of o) (sight_as tree place None is))

-- a link shows its target, and nothing else shows one
pub target_link : (tree : Tree) (place target : List ℕ) → get tree place ≡ Some (things.Link target) → Some target ≡ target_seen place (seen tree)
target_link tree place target is = sym (ap target_of (sight_as tree place (Some (things.Link target)) is))

-- a folder shows no target
pub target_folder : (tree : Tree) (place : List ℕ) → get tree place ≡ Some things.Folder → None ≡ target_seen place (seen tree)
target_folder tree place is = sym (ap target_of (sight_as tree place (Some things.Folder) is))

-- a file shows no target
pub target_file : (tree : Tree) (place bytes : List ℕ) (executable : Bool) → get tree place ≡ Some (things.File bytes executable) → None ≡ target_seen place (seen tree)
target_file tree place bytes executable is = sym (ap target_of (sight_as tree place (Some (things.File bytes executable)) is))

-- a place at which nothing stands shows no target
pub target_none : (tree : Tree) (place : List ℕ) → get tree place ≡ None → None ≡ target_seen place (seen tree)
target_none tree place is = sym (ap target_of (sight_as tree place None is))

-- what is found stands at a clean place
found_clean : (things : List (Place × Thing)) (place : List ℕ) (s : Sight) → option_map sight_of (find (slice_cmp nat_cmp) place (map by_text things)) ≡ Some s → is_clean_absolute place ≡ true
found_clean [] place s is = absurd cc
found_clean (e ∷ es) place s is =
    elim (eq_by_cmp (slice_cmp nat_cmp) place e.0.path) as (λ b. eq_by_cmp (slice_cmp nat_cmp) place e.0.path ≡ b → option_map sight_of (cond b (Some e.1) (find (slice_cmp nat_cmp) place (map by_text es))) ≡ Some s → is_clean_absolute place ≡ true) [
      | true ↦ λ same here. subst (λ q. is_clean_absolute q ≡ true) (sym (same_text place e.0.path same)) e.0.clean
      | false ↦ λ other later. found_clean es place s later
    ] refl is

-- all things of a list stand at clean places
pub clean_things : (things : List (Place × Thing)) → HasCleanPlaces (seen (files_in things))
clean_things things = λ place s is.
    found_clean things place s
    (ap (λ o. option_map sight_of o) (sym (get-from_entries nat_list_cmp_total (map by_text things) place)) ∙ sym (sight_seen (files_in things) place) ∙ is)
