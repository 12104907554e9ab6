-- What is listed in a folder of a world has a name without a slash.
use Rattle.std.proofs.Common.{◌≡◌, ℕ, ◌<◌, Bool, true, false, not, cond, List, [], ◌∷◌, ◌++◌, length, map, Option, Some, None, option_map, is_some, refl, sym, ap, ◌∙◌, subst, arith, length-append, bytes_eq}
use Rattle.std.specs.Prelude.{Result, Ok, Err, ◌==◌}
use Rattle.std.specs.List.{list_any}
use Rattle.std.specs.Ordering.{nat_cmp, eq_by_cmp}
use Rattle.std.specs.Cmp.Lexicographic.{slice_cmp}
use Rattle.std.specs.FinMap.{find}
use Rattle.std.proofs.lemmas.List.{append-nil}
use Rattle.std.proofs.lemmas.Map.Text.{is_eq-slice_cmp}
use Rattle.std.proofs.lemmas.Slice.Eq.{bytes_eq-Decides}
use Rattle.just_path.specs.Path.{ends_open, pushed}
use Rattle.just_path.specs.Comps.{dot, is_empty, names, comps}
use Rattle.just_path.specs.Clean.{normal_form, or_current, path_from, cleaned, is_clean_absolute}
use Rattle.just_path.specs.View.{Sight, Sights, View, HasCleanPlaces, meta_of, sight, sees_folder, meta_seen, folder_place, folder_told, place_told, named, is_name, AreItemsOf}
use Rattle.just_path.specs.declared.host.Miss.{Miss}
use Rattle.just_path.specs.declared.host.Miss.TheVariants as miss
use Rattle.just_path.specs.declared.meta.Item.{Item}
use Rattle.just_path.proofs.Laws.{clean_absolute_is_clean}
use Rattle.just_path.proofs.Pushes.{comps_pushed_relative}
use Rattle.just_path.proofs.Truths.{and_left, and_right}
use Rattle.just_search.specs.Climb.{is_wanted, candidates}

-- ---- no `.` in a clean world

longer : (x : List ℕ) → length x < length (pushed x dot)
longer x = elim (ends_open x) as (λ v. length x < length (cond v (x ++ 47 ∷ dot) (x ++ dot))) [
  | true ↦ omega (arith, length-append x (47 ∷ dot))
  | false ↦ omega (arith, length-append x dot)
]

no_component : names dot ≡ []
unfolding names
no_component = refl

same_clean : (t u : List ℕ) → comps t ≡ comps u → cleaned t ≡ cleaned u
unfolding cleaned
same_clean t u h = ap (λ cs. path_from (or_current (normal_form cs))) h

no_dot : (place : List ℕ) → is_clean_absolute place ≡ true → is_clean_absolute (pushed place dot) ≡ true → ⊥
no_dot [] clean also = cc
no_dot (b ∷ bs) clean also =
    let same : comps (pushed (b ∷ bs) dot) ≡ comps (b ∷ bs) = comps_pushed_relative b bs dot refl ∙ ap (λ ns. comps (b ∷ bs) ++ ns) no_component ∙ append-nil (comps (b ∷ bs)) in
    let is : pushed (b ∷ bs) dot ≡ b ∷ bs =
    sym (clean_absolute_is_clean (pushed (b ∷ bs) dot) also) ∙ same_clean (pushed (b ∷ bs) dot) (b ∷ bs) same ∙ clean_absolute_is_clean (b ∷ bs) clean in
    let l : length (pushed (b ∷ bs) dot) ≡ length (b ∷ bs) = ap length is in
    omega (arith, longer (b ∷ bs))

dot_by : (place name : List ℕ) (v : Bool) → bytes_eq name dot ≡ v → is_clean_absolute place ≡ true → is_clean_absolute (pushed place name) ≡ true → bytes_eq name dot ≡ false
dot_by place name false e clean also = e
dot_by place name true e clean also =
    absurd (no_dot place clean (subst (λ n. is_clean_absolute (pushed place n) ≡ true) ((bytes_eq-Decides name dot).0 e) also))

-- ---- a candidate is listed

itself : (x : List ℕ) → eq_by_cmp (slice_cmp nat_cmp) x x ≡ true
itself x = is_eq-slice_cmp x x ∙ (bytes_eq-Decides x x).1 refl

-- found at the first item
found_first : (i : Item) (items : List Item) (name : List ℕ) → i.name ≡ name → is_some (find (slice_cmp nat_cmp) name (named (i ∷ items))) ≡ true
found_first i items name is =
    let e : eq_by_cmp (slice_cmp nat_cmp) name i.name ≡ true = subst (λ n. eq_by_cmp (slice_cmp nat_cmp) name n ≡ true) (sym is) (itself name) in
    ap (λ v. is_some (cond v (Some i.kind) (find (slice_cmp nat_cmp) name (named items)))) e

-- or behind it
found_behind : (i : Item) (items : List Item) (name : List ℕ) → is_some (find (slice_cmp nat_cmp) name (named items)) ≡ true → is_some (find (slice_cmp nat_cmp) name (named (i ∷ items))) ≡ true
found_behind i items name h =
    elim (eq_by_cmp (slice_cmp nat_cmp) name i.name) as (λ v. is_some (cond v (Some i.kind) (find (slice_cmp nat_cmp) name (named items))) ≡ true) [ true ↦ refl | false ↦ h ]

pub candidate_found : (wanted : List (List ℕ)) (items : List Item) (name : List ℕ) (names : List (List ℕ)) → candidates wanted (map (λ (i : Item). i.name) items) ≡ name ∷ names → is_some (find (slice_cmp nat_cmp) name (named items)) ≡ true
candidate_found wanted [] name names h = cc
candidate_found wanted (i ∷ items) name names h =
    elim (is_wanted wanted i.name) as (λ v. cond v (i.name ∷ candidates wanted (map (λ (j : Item). j.name) items)) (candidates wanted (map (λ (j : Item). j.name) items)) ≡ name ∷ names → is_some (find (slice_cmp nat_cmp) name (named (i ∷ items))) ≡ true) [
      | true ↦ λ e. found_first i items name cc
      | false ↦ λ e. found_behind i items name (candidate_found wanted items name names e)
    ] h

-- ---- what stands in a folder

name_by : (v : Bool) (o : Option Sight) → is_some (cond v (option_map (λ s. (meta_of s).kind) o) None) ≡ true → (v ≡ true) × ((s : Sight) × (o ≡ Some s))
name_by true (Some s) h = (refl, (s, refl))
name_by true None h = cc
name_by false o h = cc

folder_seen : (tree : Sights) (r : Result (List ℕ) Miss) (place : List ℕ) → folder_place tree r ≡ Ok place → sees_folder (meta_seen place tree) ≡ true
folder_seen tree (Ok p) place h =
    elim (sees_folder (meta_seen p tree)) as (λ v. sees_folder (meta_seen p tree) ≡ v → cond v (Ok p) (Err miss.NotFolder) ≡ Ok place → sees_folder (meta_seen place tree) ≡ true) [
      | true ↦ λ e q. (let same : p ≡ place = cc in subst (λ x. sees_folder (meta_seen x tree) ≡ true) same e)
      | false ↦ λ e q. cc
    ] refl h
folder_seen tree (Err m) place h = cc

sight_some : (o : Option Sight) → sees_folder (option_map meta_of o) ≡ true → (s : Sight) × (o ≡ Some s)
sight_some (Some s) h = (s, refl)
sight_some None h = cc

pub record IsPlainName (name : List ℕ) : Type 0 where
  pub some : is_empty name ≡ false
  pub other : bytes_eq name dot ≡ false
  pub plain : list_any (λ b. b == 47) name ≡ false

not_false : (v : Bool) → not v ≡ true → v ≡ false
not_false true h = cc
not_false false h = refl

-- what is found among the items of a folder has a plain name
pub listed_plain : (v : View) (path place : List ℕ) (items : List Item) (name : List ℕ) → HasCleanPlaces v.tree → folder_told path v ≡ Ok place → AreItemsOf place v.tree items → is_some (find (slice_cmp nat_cmp) name (named items)) ≡ true → IsPlainName name
listed_plain v path place items name clean at are found =
    let seen = name_by (is_name name) (sight (pushed place name) v.tree) (sym (ap is_some (are name)) ∙ found) in
    let isname : is_name name ≡ true = seen.0 in
    let here = sight_some (sight place v.tree) (folder_seen v.tree (place_told path true v) place at) in
    record {
      some = not_false (is_empty name) (and_left (not (is_empty name)) (not (list_any (λ b. b == 47) name)) isname);
      other = dot_by place name (bytes_eq name dot) refl (clean place here.0 here.1) (clean (pushed place name) seen.1.0 seen.1.1);
      plain = not_false (list_any (λ b. b == 47) name) (and_right (not (is_empty name)) (not (list_any (λ b. b == 47) name)) isname);
    }
