-- The component that a path begins or ends with.
use Rattle.std.proofs.Common.{◌≡◌, ℕ, zero, suc, Bool, true, false, Option, Some, None, List, [], ◌∷◌, ◌++◌, length, refl, sym, ap, ◌∙◌, cond, eqb, nat_lt, append_assoc, arith}
use Rattle.std.proofs.lemmas.Bool.Decides.{nat_tests}
use Rattle.std.specs.List.{flat_map}
use Rattle.just_path.specs.Comps.{Comp, comps_of_piece, pieces, names, lead_of, comps, is_empty}
use Rattle.just_path.specs.Parts.{text_of_pieces, pieces_upto, pieces_from, text_upto, name_slice, slice}
use Rattle.just_path.specs.Scan.{HasLast}
use Rattle.just_path.specs.Mixture.{front, back, Takes, Shortens, Moves}
use Rattle.just_path.specs.Walk.{comps_left, slice_left}
use Rattle.just_path.specs.declared.components.Utf8Components.{Utf8Components}

-- the components of a path that something stands in front of: that, and its names
pub comps_led : (t : List ℕ) (c : Comp) → lead_of t ≡ c ∷ [] → comps t ≡ c ∷ names t
unfolding comps
comps_led t c h = ap (λ ls. ls ++ names t) h

-- the components of a path that nothing stands in front of: its names
pub comps_unled : (t : List ℕ) → lead_of t ≡ [] → comps t ≡ names t
unfolding comps
comps_unled t h = ap (λ ls. ls ++ names t) h

-- the empty text has no name
pub no_names : names [] ≡ []
unfolding names
no_names = refl

-- the components that are left without the last name
pub last_left : (s : Bool) (t before : List ℕ) (c : Comp) → HasLast t before c → cond s (names t) (comps t) ≡ cond s (names before) (comps before) ++ c ∷ []
unfolding comps
last_left true t before c h = h.gives
last_left false t before c h =
    ap (λ ns. lead_of t ++ ns) h.gives ∙ ap (λ ls. ls ++ (names before ++ c ∷ [])) (sym h.begins) ∙ sym (append_assoc (lead_of before) (names before) (c ∷ []))

-- where two lists together are empty, each is
nothing_appended : (cs ds : List Comp) → cs ++ ds ≡ [] → (cs ≡ []) × (ds ≡ [])
nothing_appended [] ds h = (refl, h)
nothing_appended (c ∷ cs) ds h = absurd (cc)

-- pieces without a name have none behind the first names
from_nameless : (n : ℕ) (ps : List (List ℕ)) → flat_map comps_of_piece ps ≡ [] → pieces_from n ps ≡ []
from_nameless n [] h = refl
from_nameless zero (p ∷ ps) h = let (a, b) = nothing_appended (comps_of_piece p) (flat_map comps_of_piece ps) h in rw a (from_nameless zero ps b)
from_nameless (suc n) (p ∷ ps) h = let (a, b) = nothing_appended (comps_of_piece p) (flat_map comps_of_piece ps) h in rw a (from_nameless (suc n) ps b)

-- a text without a name has no slice but the empty one
pub rest_nameless : (n k : ℕ) (t : List ℕ) → names t ≡ [] → name_slice n k t ≡ []
unfolding name_slice names
rest_nameless n k t h = ap (λ ps. text_of_pieces (pieces_upto k ps)) (from_nameless n (pieces t) h)

-- a text without a name has the slices of the empty text
pub rests_over : (t : List ℕ) → names t ≡ [] → (n k : ℕ) → name_slice n k t ≡ name_slice n k []
rests_over t h n k = rest_nameless n k t h ∙ sym (rest_nameless n k [] no_names)

-- a text without a name is cut to what stands in front, and then to nothing
text_upto_nameless : (t : List ℕ) → names t ≡ [] → lead_of t ≡ [] → text_upto 0 t ≡ []
unfolding text_upto
text_upto_nameless t h l = rw (h, l) refl

-- a text without a name is cut to nothing behind what stands in front
text_upto_over : (k : ℕ) (t : List ℕ) → names t ≡ [] → text_upto (suc k) t ≡ []
unfolding text_upto
text_upto_over k t h =
    let a : nat_lt (suc k) (length (names t)) ≡ false = rw h (grind (arith, nat_tests)) in
    let b : eqb (suc k) (length (names t)) ≡ false = rw h (grind (arith, nat_tests)) in
    rw (a, b) refl

-- nor has a path with no component
slices_over : (t : List ℕ) → names t ≡ [] → lead_of t ≡ [] → (n k : ℕ) → slice n k t ≡ name_slice n k []
slices_over t h l zero zero = text_upto_nameless t h l ∙ sym (rest_nameless zero zero [] no_names)
slices_over t h l zero (suc k) = text_upto_over k t h ∙ sym (rest_nameless zero (suc k) [] no_names)
slices_over t h l (suc n) k = rest_nameless (cond (is_empty (lead_of t)) (suc n) n) k t h ∙ sym (rest_nameless (suc n) k [] no_names)

-- once the one component in front was taken from the back, nothing is left
pub slices_behind : (t : List ℕ) → names t ≡ [] → (n k : ℕ) → slice n (suc k) t ≡ name_slice n k []
slices_behind t h zero k = text_upto_over k t h ∙ sym (rest_nameless zero k [] no_names)
slices_behind t h (suc n) k = rest_nameless (cond (is_empty (lead_of t)) (suc n) n) (suc k) t h ∙ sym (rest_nameless (suc n) k [] no_names)

-- the slices of a path whose last component was taken
pub slices_last : (t before : List ℕ) (c : Comp) → HasLast t before c → (n k : ℕ) → slice n (suc k) t ≡ slice n k before
slices_last t before c h zero k = h.cuts k
slices_last t before c h (suc n) k = h.rests (cond (is_empty (lead_of t)) (suc n) n) k ∙ ap (λ ls. name_slice (cond (is_empty ls) (suc n) n) k before) (sym h.begins)

-- the slices of a path of which what stands in front was taken
pub slices_led : (t : List ℕ) (c : Comp) → lead_of t ≡ c ∷ [] → (n k : ℕ) → slice (suc n) k t ≡ name_slice n k t
slices_led t c h n k = rw h refl

-- the slices of a path of which the first name was taken, where nothing stands in front
slices_unled : (t after : List ℕ) → lead_of t ≡ [] → ((n k : ℕ) → name_slice (suc n) k t ≡ name_slice n k after) → (n k : ℕ) → slice (suc n) k t ≡ name_slice n k after
slices_unled t after h f n k = rw h (f n k)

-- the first move over a path where nothing stands in front takes its first name
pub first_unled : (s u : Utf8Components) (o : Option Comp) → s.started ≡ false → u.started ≡ true → lead_of s.text.now ≡ [] → Takes (names s.text.now) (front o) (names u.text.now) → Shortens (λ n k. name_slice n k s.text.now) (front o) (λ n k. name_slice n k u.text.now) → Moves comps_left slice_left s (front o) u
first_unled s u None p q l a b = record {
  takes = rw (p, q) (comps_unled s.text.now l ∙ a.0, a.1);
  shortens = λ n k. rw (p, q) (slices_over s.text.now a.0 l n k ∙ sym (rests_over u.text.now a.1 n k));
}
first_unled s u (Some c) p q l a b = record {
  takes = rw (p, q) (comps_unled s.text.now l ∙ a);
  shortens = λ n k. rw (p, q) (slices_unled s.text.now u.text.now l b n k);
}

-- the last move takes none where no name is left, nor anything in front of it
pub last_over_names : (s u : Utf8Components) → s.started ≡ true → u.started ≡ true → names s.text.now ≡ [] → u.text.now ≡ [] → Moves comps_left slice_left s (back None) u
last_over_names s u p q h e = record {
  takes = (rw p h, rw q (ap names e ∙ no_names));
  shortens = λ n k. rw (p, q) (rests_over s.text.now h n k ∙ ap (name_slice n k) (sym e));
}

-- nor where the walk has not begun and nothing is there
pub last_over_whole : (s u : Utf8Components) → s.started ≡ false → u.started ≡ true → names s.text.now ≡ [] → lead_of s.text.now ≡ [] → u.text.now ≡ [] → Moves comps_left slice_left s (back None) u
last_over_whole s u p q h l e = record {
  takes = (rw p (comps_unled s.text.now l ∙ h), rw q (ap names e ∙ no_names));
  shortens = λ n k. rw (p, q) (slices_over s.text.now h l n k ∙ ap (name_slice n k) (sym e));
}
