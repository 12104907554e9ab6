-- The names in a folder are one list.
use Rattle.std.proofs.Common.{◌≡◌, ℕ, List, [], ◌∷◌, map, refl, sym, ap, ◌∙◌, subst}
use Rattle.std.specs.Prelude.{Result, Ok, Err}
use Rattle.std.specs.Ordering.{nat_cmp}
use Rattle.std.specs.Cmp.Lexicographic.{slice_cmp}
use Rattle.std.specs.FinMap.{nat_cmp-IsAntisymmetric, slice_cmp-IsAntisymmetric}
use Rattle.std.specs.FinMap.Entries.{same_entries}
use Rattle.std.proofs.lemmas.Cmp.{nat_list_cmp_total}
use Rattle.just_path.specs.View.{View, Sights, named, AreInOrder, AreItemsOf}
use Rattle.just_path.specs.declared.host.Miss.{Miss}
use Rattle.just_path.specs.declared.meta.Item.{Item}
use Rattle.just_path.specs.declared.meta.Kind.{Kind}
use Rattle.just_search_load.specs.Shown.{AreNamesIn}

abbrev pub item_name : Item → List ℕ
item_name i = i.name

abbrev first : List ℕ × Kind → List ℕ
first e = e.0

names_of : (xs : List Item) → map first (named xs) ≡ map item_name xs
names_of [] = refl
names_of (x ∷ xs) = ap (λ (ns : List (List ℕ)). x.name ∷ ns) (names_of xs)

-- items in order that tell the same of each name have the same names
pub one_list : (place : List ℕ) (tree : Sights) (xs ys : List Item) → AreInOrder xs → AreInOrder ys → AreItemsOf place tree xs → AreItemsOf place tree ys → map item_name xs ≡ map item_name ys
one_list place tree xs ys a b p q =
    let pairs : named xs ≡ named ys = same_entries (slice_cmp nat_cmp) nat_list_cmp_total (slice_cmp-IsAntisymmetric nat_cmp-IsAntisymmetric) (named xs) (named ys) a b (λ n. p n ∙ sym (q n)) in
    sym (names_of xs) ∙ ap (λ (es : List (List ℕ × Kind)). map first es) pairs ∙ names_of ys

pub one_place : (a b : List ℕ) → ◌≡◌ {A = Result (List ℕ) Miss} (Ok a) (Ok b) → a ≡ b
one_place a b is = cc

pub no_place : (a : List ℕ) (m : Miss) → ◌≡◌ {A = Result (List ℕ) Miss} (Ok a) (Err m) → ⊥
no_place a m is = let no : ⊥ = cc in no

-- a folder has one list of names
pub one_names : (v : View) (path : List ℕ) (ns ms : List (List ℕ)) → AreNamesIn v path ns → AreNamesIn v path ms → ns ≡ ms
one_names v path ns ms (AreNamesIn.folder place xs at order are) (AreNamesIn.folder other ys there sorted also) =
    let same : place ≡ other = one_place place other (sym at ∙ there) in
    one_list other v.tree xs ys order sorted (subst (λ l. AreItemsOf l v.tree xs) same are) also
one_names v path ns ms (AreNamesIn.folder place xs at order are) (AreNamesIn.no_folder m missed) = absurd (no_place place m (sym at ∙ missed))
one_names v path ns ms (AreNamesIn.no_folder m missed) (AreNamesIn.folder place xs at order are) = absurd (no_place place m (sym at ∙ missed))
one_names v path ns ms (AreNamesIn.no_folder m missed) (AreNamesIn.no_folder n also) = refl
