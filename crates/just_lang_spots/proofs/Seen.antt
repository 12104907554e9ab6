-- One more name among those that were seen.
use Rattle.std.proofs.Common.{◌≡◌, ◌<◌, ◌+◌, ℕ, List, [], ◌∷◌, ◌++◌, map, take, drop, get_or, length, drop-cons, add-one, Option, not, refl, sym, ◌∙◌, ap, Bool, true, false, Ordering}
use Rattle.std.specs.Prelude.{◌||◌}
use mathlib.Core.Bool.{cond}
use denote.Ref.{Bor}
use Rattle.std.specs.HashSet.{HashSet, contains, Updates}
use Rattle.std.specs.Cmp.Lexicographic.{slice_cmp}
use Rattle.std.specs.Ordering.{nat_cmp}
use Rattle.std.specs.Str.{bytes_eq}
use Rattle.std.proofs.lemmas.List.Folds.{list_any-append}
use Rattle.std.proofs.lemmas.List.{take_more}
use Rattle.just_lang_spots.specs.declared.spot.Spot.{Spot}
use Rattle.just_lang_spots.specs.declared.repeated.Named.{Named}
use Rattle.just_lang_spots.specs.Spots.{spot_where, earlier, first_spot}
use Rattle.just_lang_spots.specs.Repeated.{is_among, repeated_behind, repeated, named}
use Rattle.just_lang_spots.proofs.Spots.{first_behind}
use Rattle.just_lang_spots.proofs.ListLaws.{map_end}

-- the order of borrowed texts
abbrev pub text_cmp : Bor (List ℕ) → Bor (List ℕ) → Ordering
text_cmp x y = slice_cmp nat_cmp x.now y.now

-- whether two borrowed texts are one
abbrev pub text_eq : Bor (List ℕ) → Bor (List ℕ) → Bool
text_eq x y = bytes_eq x.now y.now

or_last : (b c : Bool) → cond b true c ≡ (c || (b || false))
or_last true true = refl
or_last true false = refl
or_last false true = refl
or_last false false = refl

pub among_more : (q k : List ℕ) (names : List (List ℕ)) → cond (bytes_eq k q) true (is_among q names) ≡ is_among q (names ++ k ∷ [])
among_more q k names = or_last (bytes_eq k q) (is_among q names) ∙ sym (list_any-append (λ other. bytes_eq other q) names (k ∷ []))

-- a set that gained a name has it and what it had
pub sees_more : {S : Type 0} (q k : Bor (List ℕ)) (old new : HashSet (Bor (List ℕ)) S) (names : List (List ℕ))
    → Updates text_eq old new k true → contains text_eq old q ≡ is_among q.now names → contains text_eq new q ≡ is_among q.now (names ++ k.now ∷ [])
sees_more q k old new names h same = h.0 q ∙ ap (λ b. cond (bytes_eq k.now q.now) true b) same ∙ among_more q.now k.now names

pub names_more : {X Y : Type 0} (f : X → Y) (xs : List X) (i : ℕ) (d : X) → i < length xs → map f (take (i + 1) xs) ≡ map f (take i xs) ++ f (get_or xs i d) ∷ []
names_more f xs i d h = ap (map f) (take_more xs i d h) ∙ map_end f (take i xs) (get_or xs i d)

not_not : (b : Bool) → not (not b) ≡ b
not_not true = refl
not_not false = refl

-- the text of a name
abbrev pub text_of_name : Named → List ℕ
text_of_name x = x.name.now

-- one more name: what was found behind it, and what is still to come
pub repeated_step : (found here next : Option Spot) (xs : List Named) (i : ℕ) (d : Named) (is_new : Bool) → i < length xs
    → is_new ≡ not (is_among (get_or xs i d).name.now (map text_of_name (take i xs))) → here ≡ first_spot (spot_where (not is_new) (get_or xs i d).spot) → next ≡ earlier found here
    → earlier next (first_spot (repeated_behind (map text_of_name (take (i + 1) xs)) (map named (drop (i + 1) xs))))
    ≡ earlier found (first_spot (repeated_behind (map text_of_name (take i xs)) (map named (drop i xs))))
repeated_step found here next xs i d is_new less h k e =
    let x = get_or xs i d in
    let names = map text_of_name (take i xs) in
    let rest = map named (drop (i + 1) xs) in
    let cons : drop i xs ≡ x ∷ drop (i + 1) xs = rw (add-one, drop-cons xs i d) refl in
    let test : not is_new ≡ is_among x.name.now names = ap not h ∙ not_not (is_among x.name.now names) in
    ap (λ (ns : List (List ℕ)). earlier next (first_spot (repeated_behind ns rest))) (names_more text_of_name xs i d less)
    ∙ ap (λ (o : Option Spot). earlier o (first_spot (repeated_behind (names ++ x.name.now ∷ []) rest))) (e ∙ ap (earlier found) (k ∙ ap (λ (b : Bool). first_spot (spot_where b x.spot)) test))
    ∙ sym (first_behind found (spot_where (is_among x.name.now names) x.spot) (repeated_behind (names ++ x.name.now ∷ []) rest))
    ∙ ap (λ (ys : List Named). earlier found (first_spot (repeated_behind names (map named ys)))) (sym cons)

-- of two names the second, where it is the first one
pub two_repeated : (a b : Named) (test : Bool) → test ≡ bytes_eq a.name.now b.name.now → first_spot (spot_where test b.spot) ≡ first_spot (repeated (named a ∷ named b ∷ []))
two_repeated a b test e = ap (λ t. first_spot (spot_where t b.spot)) e ∙ at (bytes_eq a.name.now b.name.now)
  where
    at : (t : Bool) → first_spot (spot_where t b.spot) ≡ first_spot (spot_where (t || false) b.spot ++ [])
    at true = refl
    at false = refl
