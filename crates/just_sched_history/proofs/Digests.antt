-- Names that get their digests one after the other.
use Rattle.std.proofs.Common.{◌≡◌, ℕ, ◌+◌, ◌<◌, ◌≤◌, List, [], ◌∷◌, ◌++◌, length, take, map, zip, get_or, ap, ap₂, sym, ◌∙◌, arith, add-one}
use Rattle.std.proofs.Math.ListN.{get_or-map}
use Rattle.std.proofs.Math.Seq.{take-suc}
use Rattle.std.proofs.lemmas.List.{take_all, length-map}
use Rattle.hex.specs.Hex.{encode_lower}
use Rattle.std.proofs.lemmas.Slice.Zip.{get_or-zip, length-zip}

-- one more
pub paired_more : {A B : Type 0} (xs : List A) (ys : List B) (place : ℕ) (d : A × B) (pairs later : List (A × B)) (x : A) (y : B)
    → place < length xs → place < length ys → x ≡ get_or xs place d.0 → y ≡ get_or ys place d.1 → pairs ≡ take place (zip xs ys) → later ≡ pairs ++ (x, y) ∷ [] → later ≡ take (place + 1) (zip xs ys)
paired_more xs ys place d pairs later x y lt_x lt_y is_x is_y before grew =
    let within : place < length (zip xs ys) = omega (arith, length-zip xs ys, lt_x, lt_y) in
    grew ∙ ap₂ (λ a b. a ++ b ∷ []) before (ap₂ (λ a b. (a, b)) is_x is_y ∙ sym (get_or-zip xs ys place d lt_x lt_y)) ∙ sym (take-suc (zip xs ys) place d within) ∙ ap (λ k. take k (zip xs ys)) (sym (add-one place))

-- a name more with its digest
pub paired_read : (names sums : List (List ℕ)) (place : ℕ) (pairs later : List (List ℕ × List ℕ)) (name : List ℕ) (pair : List ℕ × List ℕ) (sum : List ℕ) → place < length names → place < length sums → name ≡ get_or names place name → sum ≡ get_or sums place []
    → pair ≡ (name, encode_lower sum) → pairs ≡ take place (zip names (map encode_lower sums)) → later ≡ pairs ++ pair ∷ [] → later ≡ take (place + 1) (zip names (map encode_lower sums))
paired_read names sums place pairs later name pair sum lt_n lt_s is_n is_s is before grew =
    paired_more names (map encode_lower sums) place (name, encode_lower []) pairs later name (encode_lower sum) lt_n (omega (arith, length-map sums encode_lower, lt_s)) is_n (ap encode_lower is_s ∙ sym (get_or-map encode_lower sums place [])) before (grew ∙ ap (λ p. pairs ++ p ∷ []) is)

-- past the shorter list nothing comes
pub paired_past : {A B : Type 0} (xs : List A) (ys : List B) (place : ℕ) (pairs : List (A × B)) → length ys ≤ place → pairs ≡ take place (zip xs ys) → pairs ≡ take (place + 1) (zip xs ys)
paired_past xs ys place pairs le before =
    let all : length (zip xs ys) ≤ place = omega (arith, length-zip xs ys, le) in
    before ∙ take_all place (zip xs ys) all ∙ sym (take_all (place + 1) (zip xs ys) (omega (arith, all)))

-- all of them
pub paired_all : {A B : Type 0} (xs : List A) (ys : List B) (place : ℕ) (pairs : List (A × B)) → length xs ≤ place → pairs ≡ take place (zip xs ys) → pairs ≡ zip xs ys
paired_all xs ys place pairs le before = before ∙ take_all place (zip xs ys) (omega (arith, length-zip xs ys, le))
