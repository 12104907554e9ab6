-- A map in order is read back from the object of its pairs.
use Rattle.std.proofs.Common.{◌≡◌, ◌≢◌, ℕ, List, [], ◌∷◌, ◌++◌, map, append_assoc, append-nil, Less, Greater, nat_cmp, Option, Some, None, refl, sym, ap, ap₂, subst, ◌∙◌}
use Rattle.std.specs.Prelude.{IfSome}
use Rattle.std.specs.Cmp.Lexicographic.{slice_cmp}
use Rattle.std.specs.List.{AllByRecursion}
use Rattle.std.specs.List.Sorted.{IsStrictlySortedBy}
use Rattle.std.specs.Ordering.{ordering_reverse}
use Rattle.std.proofs.lemmas.Cmp.{nat_list_cmp_total}
use Rattle.serde_json.specs.Data.{Data, null, boolean, number, string, array, object, Members, no_members, member, put}
use Rattle.just_cache.specs.Members.{text_or_null, object_by, environment, inputs}
use Rattle.just_cache.specs.Readable.{AreInOrder}
use Rattle.just_cache.proofs.Fields.{text_in, optional_in, members_in, text_back}

-- the members of pairs, as they stand
abbrev listed : {A : Type 0} → (A → Data) → List (List ℕ × A) → Members
listed value [] = no_members
listed value (p ∷ ps) = member p.0 (value p.1) (listed value ps)

below : {A : Type 0} (x : List ℕ) (done : List (List ℕ × A)) (p : List ℕ × A) (more : List (List ℕ × A)) → AllByRecursion (λ y. slice_cmp nat_cmp x y ≡ Less) (map (λ q. q.0) (done ++ p ∷ more)) → slice_cmp nat_cmp x p.0 ≡ Less
below x [] p more h = h.0
below x (d ∷ done) p more h = below x done p more h.1

-- a name above those before it goes last
put_last : {A : Type 0} (value : A → Data) (done : List (List ℕ × A)) (p : List ℕ × A) (more : List (List ℕ × A)) → AreInOrder (done ++ p ∷ more) → put p.0 (value p.1) (listed value done) ≡ listed value (done ++ p ∷ [])
unfolding IsStrictlySortedBy
put_last value [] p more h = refl
put_last value (d ∷ done) p more h =
    let above : slice_cmp nat_cmp p.0 d.0 ≡ Greater = nat_list_cmp_total.antisymm p.0 d.0 ∙ ap ordering_reverse (below d.0 done p more h.0) in
    rw above (ap (member d.0 (value d.1)) (put_last value done p more h.1))

put_all : {A : Type 0} (value : A → Data) (done ps : List (List ℕ × A)) → AreInOrder (done ++ ps) → object_by value (listed value done) ps ≡ listed value (done ++ ps)
put_all value done [] h = ap (listed value) (sym (append-nil done))
put_all value done (p ∷ ps) h =
    let same : (done ++ p ∷ []) ++ ps ≡ done ++ p ∷ ps = append_assoc done (p ∷ []) ps in
    ap (λ ms. object_by value ms ps) (put_last value done p ps h) ∙ put_all value (done ++ p ∷ []) ps (subst AreInOrder (sym same) h) ∙ ap (listed value) same

abbrev pub pairs_in : {A : Type 0} → (Data → A) → Members → List (List ℕ × A)
pairs_in found no_members = []
pairs_in found (member k d ms) = (k, found d) ∷ pairs_in found ms

listed_back : {A : Type 0} (value : A → Data) (found : Data → A) → ((a : A) → found (value a) ≡ a) → (ps : List (List ℕ × A)) → pairs_in found (listed value ps) ≡ ps
listed_back value found same [] = refl
listed_back value found same (p ∷ ps) = ap₂ (λ a l. (p.0, a) ∷ l) (same p.1) (listed_back value found same ps)

-- pairs in order are read back from their object
pub object_back : {A : Type 0} (value : A → Data) (found : Data → A) → ((a : A) → found (value a) ≡ a) → (ps : List (List ℕ × A)) → AreInOrder ps → pairs_in found (object_by value no_members ps) ≡ ps
object_back value found same ps h = ap (pairs_in found) (put_all value [] ps h) ∙ listed_back value found same ps

abbrev pub environment_in : Data → List (List ℕ × Option (List ℕ))
environment_in d = pairs_in optional_in (members_in d)

pub environment_back : (ps : List (List ℕ × Option (List ℕ))) → AreInOrder ps → environment_in (environment ps) ≡ ps
environment_back ps h = object_back text_or_null optional_in text_back ps h

abbrev pub inputs_in : Data → Option (List (List ℕ × List ℕ))
inputs_in null = None
inputs_in (boolean b) = None
inputs_in (number x) = None
inputs_in (string s) = None
inputs_in (array ds) = None
inputs_in (object ms) = Some (pairs_in text_in ms)

pub inputs_back : (i : Option (List (List ℕ × List ℕ))) → i ≢ Some [] → IfSome i AreInOrder → inputs_in (inputs i) ≡ i
inputs_back None some h = refl
inputs_back (Some []) some h = absurd (some refl)
inputs_back (Some (p ∷ ps)) some h = ap Some (object_back string text_in (λ t. refl) (p ∷ ps) h)
