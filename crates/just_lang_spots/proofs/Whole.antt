-- The importers of all files.
use Rattle.std.proofs.Common.{◌≡◌, ◌↔◌, ℕ, zero, suc, ◌<◌, ◌≤◌, ◌⊎◌, inl, inr, cond, Bool, true, false, List, [], ◌∷◌, map, length, get_or, refl, ap, sym, ◌∙◌, subst, arith}
use Rattle.std.specs.Prelude.{nat_eq, nat_lt, filter}
use Rattle.std.specs.List.{list_any, All, Contains}
use Rattle.std.proofs.lemmas.Bool.{false≢true}
use Rattle.std.proofs.lemmas.Bool.Decides.{nat_tests}
use Rattle.std.proofs.lemmas.List.{get_or_past, length-map}
use Rattle.std.proofs.lemmas.List.Elements.{All-map, All-contains}
use Rattle.just_lang_spots.specs.Graph.{IsGraph, Reaches, edge, along, targets}
use Rattle.just_lang_spots.specs.Met.{is_marked}
use Rattle.just_lang_spots.proofs.Search.{targets_within}
use Rattle.just_lang_spots.specs.Winners.{wins_in, importers}
use Rattle.just_lang_spots.specs.Importers.{own_imports, is_reached, AreReached, AreImportersOfEach, AreImporters}

-- numbers that pass a test of being below a bound are below it
put_at : (count n : ℕ) (ns : List ℕ) (k d : ℕ) → n < count → All (λ m. m < count) ns → k < length (n ∷ ns) → get_or (n ∷ ns) k d < count
put_at count n ns zero d h rest lt = h
put_at count n ns (suc k) d h rest lt = rest k d (omega (arith, lt))

put_front : (count n : ℕ) (ns : List ℕ) → n < count → All (λ m. m < count) ns → All (λ m. m < count) (n ∷ ns)
put_front count n ns h rest = λ k d lt. put_at count n ns k d h rest lt

put_by : (count n : ℕ) (ns : List ℕ) (b : Bool) → nat_lt n count ≡ b → All (λ m. m < count) ns → All (λ m. m < count) (cond b (n ∷ ns) ns)
put_by count n ns true t rest = put_front count n ns (grind (arith, nat_tests)) rest
put_by count n ns false t rest = rest

below_all : (count : ℕ) (ns : List ℕ) → All (λ n. n < count) (filter (λ n. nat_lt n count) ns)
below_all count [] = λ k d lt. absurd (omega (arith, lt))
below_all count (n ∷ ns) = put_by count n (filter (λ m. nat_lt m count) ns) (nat_lt n count) refl (below_all count ns)

each_below : (count : ℕ) (imports : List (List ℕ)) → All (λ ns. All (λ n. n < count) (filter (λ n. nat_lt n count) ns)) imports
each_below count imports = λ k d lt. below_all count (get_or imports k d)

-- the imports that are files are a graph
pub graph_of : (imports rows : List (List ℕ)) → rows ≡ own_imports imports → IsGraph rows
graph_of imports rows e =
    let f : List ℕ → List ℕ = filter (λ n. nat_lt n (length imports)) in
    let all : All (λ ns. All (λ n. n < length imports) ns) (map f imports) = All-map (λ ns. All (λ n. n < length imports) ns) f imports (each_below (length imports) imports) in
    let size : length (map f imports) ≡ length imports = length-map imports f in
    let graph : IsGraph (map f imports) = subst (λ m. All (λ ns. All (λ n. n < m) ns) (map f imports)) (sym size) all in
    subst IsGraph (sym e) graph

place_by : (v n : ℕ) (b : Bool) → nat_lt v n ≡ b → (v < n) ⊎ (n ≤ v)
place_by v n true t = inl (grind (arith, nat_tests))
place_by v n false t = inr (grind (arith, nat_tests))

place : (v n : ℕ) → (v < n) ⊎ (n ≤ v)
place v n = place_by v n (nat_lt v n) refl

no_target : (w : ℕ) → Contains [] w → ⊥
no_target w c = omega (arith, c.1)

-- a node without a place has no targets
target_from : (edges : List (List ℕ)) (v w : ℕ) → Contains (targets edges v) w → length edges ≤ v → ⊥
target_from edges v w i h = no_target w (subst (λ ws. Contains ws w) (get_or_past edges v [] h) i)

reaches_from : (edges : List (List ℕ)) (f g : ℕ) → Reaches edges f g → length edges ≤ f → ⊥
reaches_from edges f g (edge a b i) h = target_from edges a b i h
reaches_from edges f g (along a b c i more) h = target_from edges a b i h

-- what is reached is a node
target_below : (edges : List (List ℕ)) (v w : ℕ) → IsGraph edges → Contains (targets edges v) w → w < length edges
target_below edges v w graph i = elim (place v (length edges)) [
  | inl less ↦ All-contains (λ x. x < length edges) (targets edges v) w (targets_within edges v graph less) i
  | inr far ↦ absurd (target_from edges v w i far)
]

reaches_to : (edges : List (List ℕ)) (f g : ℕ) → IsGraph edges → Reaches edges f g → g < length edges
reaches_to edges f g graph (edge a b i) = target_below edges a b graph i
reaches_to edges f g graph (along a b c i more) = reaches_to edges b g graph more

importers_at : (winners : List (List ℕ)) (g : ℕ) → importers winners g ≡ get_or winners g []
importers_at [] g = refl
importers_at (w ∷ ws) zero = refl
importers_at (w ∷ ws) (suc g) = importers_at ws g

no_mark : (g : ℕ) → is_marked [] g ≡ false
no_mark zero = refl
no_mark (suc g) = refl

unmarked : (table : List (List Bool)) (f g : ℕ) → length table ≤ f → is_reached table f g ≡ false
unmarked table f g h = ap (λ r. is_marked r g) (get_or_past table f [] h) ∙ no_mark g

wins_at : (edges : List (List ℕ)) (table : List (List Bool)) (winners : List (List ℕ)) → IsGraph edges → AreReached edges table → AreImportersOfEach table winners → (f g : ℕ) → (wins_in winners f g ≡ true) ↔ Reaches edges f g
wins_at edges table winners graph reached rows f g = (forth, back)
  where
    here : list_any (nat_eq f) (get_or winners g []) ≡ wins_in winners f g
    here = ap (list_any (nat_eq f)) (sym (importers_at winners g))

    back : Reaches edges f g → wins_in winners f g ≡ true
    back r = elim (place f (length edges)) [
      | inl less ↦
          let to : g < length table = subst (λ n. g < n) (sym reached.size) (reaches_to edges f g graph r) in
          sym here ∙ rows.each g to f ∙ (reached.each f g less).1 r
      | inr far ↦ absurd (reaches_from edges f g r far)
    ]

    forth : wins_in winners f g ≡ true → Reaches edges f g
    forth w = elim (place g (length table)) [
      | inl to ↦
          let marked : is_reached table f g ≡ true = sym (rows.each g to f) ∙ here ∙ w in
          elim (place f (length edges)) [
            | inl less ↦ (reached.each f g less).0 marked
            | inr far ↦
                let past : length table ≤ f = subst (λ n. n ≤ f) (sym reached.size) far in
                absurd (false≢true (sym (unmarked table f g past) ∙ marked))
          ]
      | inr far ↦
          let past : length winners ≤ g = subst (λ n. n ≤ g) (sym rows.size) far in
          let none : get_or winners g [] ≡ [] = get_or_past winners g [] past in
          absurd (false≢true (sym (ap (list_any (nat_eq f)) none) ∙ here ∙ w))
    ]

pub importers_whole : (imports rows : List (List ℕ)) (table : List (List Bool)) (winners : List (List ℕ)) → rows ≡ own_imports imports → AreReached rows table → AreImportersOfEach table winners
    → AreImporters imports winners
importers_whole imports rows table winners e reached each =
    subst (λ es. (f g : ℕ) → (wins_in winners f g ≡ true) ↔ Reaches es f g) e (wins_at rows table winners (graph_of imports rows e) reached each)
