-- What is taken from both ends, with what is left between, is the whole.
use Rattle.std.proofs.Common.{◌≡◌, ℕ, suc, ◌+◌, true, Some, None, List, [], ◌∷◌, ◌++◌, length, refl, sym, ap, ◌∙◌, append_assoc, length-append, arith, zero-add}
use Rattle.std.proofs.lemmas.List.{append-nil}
use Rattle.just_path.specs.Mixture.{Move, front, back, Walks, from_front, from_back, gives_none, ends_for_good, IsWalkOver}

-- one item behind what came, what is left and what came
one_back : {A : Type 0} (f a b : List A) (c : A) → (f ++ (a ++ b)) ++ c ∷ [] ≡ f ++ (a ++ (b ++ c ∷ []))
one_back f a b c = append_assoc f (a ++ b) (c ∷ []) ∙ ap (λ t. f ++ t) (append_assoc a b (c ∷ []))

-- each item comes once
each_once : {S A : Type 0} (items : S → List A) (slices : S → ℕ → ℕ → List ℕ) (before : S) (moves : List (Move A)) (after : S) → Walks items slices before moves after → items before ≡ from_front moves ++ (items after ++ from_back moves)
each_once items slices before [] after h = ap items h ∙ sym (append-nil (items after))
each_once items slices before (front None ∷ ms) after (mid, m, w) = m.takes.0 ∙ sym m.takes.1 ∙ each_once items slices mid ms after w
each_once items slices before (front (Some c) ∷ ms) after (mid, m, w) = m.takes ∙ ap (λ t. c ∷ t) (each_once items slices mid ms after w)
each_once items slices before (back None ∷ ms) after (mid, m, w) = m.takes.0 ∙ sym m.takes.1 ∙ each_once items slices mid ms after w
each_once items slices before (back (Some c) ∷ ms) after (mid, m, w) =
    m.takes ∙ ap (λ t. t ++ c ∷ []) (each_once items slices mid ms after w) ∙ one_back (from_front ms) (items after) (from_back ms) c

-- the slices that are left are those between what came
each_slice : {S A : Type 0} (items : S → List A) (slices : S → ℕ → ℕ → List ℕ) (before : S) (moves : List (Move A)) (after : S) → Walks items slices before moves after → (n k : ℕ) → slices after n k ≡ slices before (length (from_front moves) + n) (length (from_back moves) + k)
each_slice items slices before [] after h n k =
    ap (λ s. slices s n k) (sym h) ∙ ap (λ j. slices before j k) (sym (zero-add n)) ∙ ap (λ j. slices before (0 + n) j) (sym (zero-add k))
each_slice items slices before (front None ∷ ms) after (mid, m, w) n k = each_slice items slices mid ms after w n k ∙ sym (m.shortens (length (from_front ms) + n) (length (from_back ms) + k))
each_slice items slices before (front (Some c) ∷ ms) after (mid, m, w) n k =
    let e : suc (length (from_front ms) + n) ≡ suc (length (from_front ms)) + n = omega arith in
    each_slice items slices mid ms after w n k ∙ sym (m.shortens (length (from_front ms) + n) (length (from_back ms) + k)) ∙ ap (λ j. slices before j (length (from_back ms) + k)) e
each_slice items slices before (back None ∷ ms) after (mid, m, w) n k = each_slice items slices mid ms after w n k ∙ sym (m.shortens (length (from_front ms) + n) (length (from_back ms) + k))
each_slice items slices before (back (Some c) ∷ ms) after (mid, m, w) n k =
    let e : suc (length (from_back ms) + k) ≡ length (from_back ms ++ c ∷ []) + k = omega (arith, length-append (from_back ms) (c ∷ [])) in
    each_slice items slices mid ms after w n k ∙ sym (m.shortens (length (from_front ms) + n) (length (from_back ms) + k)) ∙ ap (λ j. slices before (length (from_front ms) + n) j) e

-- a list with an item behind it is not empty
last_filled : {A : Type 0} (xs : List A) (c : A) → [] ≡ xs ++ c ∷ [] → ⊥
last_filled [] c h = cc
last_filled (x ∷ xs) c h = cc

-- where nothing is left nothing comes
stays_empty : {S A : Type 0} (items : S → List A) (slices : S → ℕ → ℕ → List ℕ) (before : S) (moves : List (Move A)) (after : S) → Walks items slices before moves after → items before ≡ [] → gives_none moves ≡ true
stays_empty items slices before [] after h e = refl
stays_empty items slices before (front None ∷ ms) after (mid, m, w) e = stays_empty items slices mid ms after w m.takes.1
stays_empty items slices before (front (Some c) ∷ ms) after (mid, m, w) e = absurd (let f : [] ≡ c ∷ items mid = sym e ∙ m.takes in cc)
stays_empty items slices before (back None ∷ ms) after (mid, m, w) e = stays_empty items slices mid ms after w m.takes.1
stays_empty items slices before (back (Some c) ∷ ms) after (mid, m, w) e = absurd (last_filled (items mid) c (sym e ∙ m.takes))

-- behind the end nothing comes any more
none_for_good : {S A : Type 0} (items : S → List A) (slices : S → ℕ → ℕ → List ℕ) (before : S) (moves : List (Move A)) (after : S) → Walks items slices before moves after → ends_for_good moves ≡ true
none_for_good items slices before [] after h = refl
none_for_good items slices before (front None ∷ ms) after (mid, m, w) = stays_empty items slices mid ms after w m.takes.1
none_for_good items slices before (front (Some c) ∷ ms) after (mid, m, w) = none_for_good items slices mid ms after w
none_for_good items slices before (back None ∷ ms) after (mid, m, w) = stays_empty items slices mid ms after w m.takes.1
none_for_good items slices before (back (Some c) ∷ ms) after (mid, m, w) = none_for_good items slices mid ms after w

-- the law of any mixture of moves
pub walk_over : {S A : Type 0} (items : S → List A) (slices : S → ℕ → ℕ → List ℕ) (before : S) (moves : List (Move A)) (after : S) → Walks items slices before moves after → IsWalkOver (items before) (slices before) moves (items after) (slices after 0 0)
walk_over items slices before moves after w = record {
  once = each_once items slices before moves after w;
  exact =
      (let e : length (from_front moves) + 0 ≡ length (from_front moves) = omega arith in
      let f : length (from_back moves) + 0 ≡ length (from_back moves) = omega arith in
      each_slice items slices before moves after w 0 0 ∙ ap (λ j. slices before j (length (from_back moves) + 0)) e ∙ ap (λ j. slices before (length (from_front moves)) j) f);
  for_good = none_for_good items slices before moves after w;
}

-- the same over a list and slices that those of the iterator are
pub walk_of : {S A : Type 0} (items : S → List A) (slices : S → ℕ → ℕ → List ℕ) (before : S) (whole : List A) (given : ℕ → ℕ → List ℕ) → items before ≡ whole → ((n k : ℕ) → slices before n k ≡ given n k) → (moves : List (Move A)) (after : S) → Walks items slices before moves after → IsWalkOver whole given moves (items after) (slices after 0 0)
walk_of items slices before whole given e f moves after w =
    let o = walk_over items slices before moves after w in
    record {
      once = sym e ∙ o.once;
      exact = o.exact ∙ f (length (from_front moves)) (length (from_back moves));
      for_good = o.for_good;
    }
