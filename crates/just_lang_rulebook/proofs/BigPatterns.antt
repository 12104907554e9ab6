-- Patterns that the grammar reads and that are too big, and those that it doesn't read, one more at a time.
use Rattle.std.proofs.Common.{◌≡◌, ℕ, zero, suc, ◌+◌, ◌<◌, ◌≤◌, List, [], ◌∷◌, map, drop, length, get_or, Option, None, refl, sym, ap, subst, ◌∙◌, arith}
use Rattle.std.specs.Prelude.{not}
use Rattle.just_lang_spots.specs.declared.spot.Spot.{Spot}
use Rattle.just_lang_spots.specs.Spots.{earlier, first_spot, spot_where}
use Rattle.just_lang_spots.proofs.Spots.{earlier_assoc, earlier_none, first_behind}
use Rattle.just_lang_spots.proofs.ListLaws.{drop_here}
use Rattle.just_lang_rulebook.specs.declared.patterns.PatternText.{PatternText}
use Rattle.just_lang_rulebook.specs.Patterns.{is_pattern, pattern_pair, unread_spots, IsTooBig, IsFirstTooBig}

-- whatever is the first of those from a place on, this is the first of all, behind what was found
abbrev pub GoesOn : List PatternText → Option Spot → ℕ → Type 0
GoesOn ps found i = (rest : Option Spot) → IsFirstTooBig (map pattern_pair (drop i ps)) rest → IsFirstTooBig (map pattern_pair ps) (earlier found rest)

drop_past : {X : Type 0} (xs : List X) (i : ℕ) → length xs ≤ i → drop i xs ≡ []
drop_past [] zero h = refl
drop_past [] (suc i) h = refl
drop_past (x ∷ xs) zero h = absurd (omega (arith, h))
drop_past (x ∷ xs) (suc i) h = drop_past xs i (omega (arith, h))

pub big_step : (found here next : Option Spot) (ps : List PatternText) (i : ℕ) (p : PatternText) → i < length ps → p ≡ get_or ps i p → IsTooBig (pattern_pair p) here
    → next ≡ earlier found here → GoesOn ps found i → GoesOn ps next (i + 1)
big_step found here next ps i p less is big k on = λ rest h.
    let P : List PatternText → Type 0 = λ ys. IsFirstTooBig (map pattern_pair ys) (earlier here rest) in
    let at : P (p ∷ drop (i + 1) ps) = (here, rest, big, h, refl) in
    let all : IsFirstTooBig (map pattern_pair ps) (earlier found (earlier here rest)) = on (earlier here rest) (subst P (sym (drop_here ps i p less is)) at) in
    subst (λ (s : Option Spot). IsFirstTooBig (map pattern_pair ps) s) (sym (ap (λ (o : Option Spot). earlier o rest) k ∙ earlier_assoc found here rest)) all

-- behind the last pattern nothing is still to come
pub big_end : (found : Option Spot) (ps : List PatternText) (i : ℕ) → length ps ≤ i → GoesOn ps found i → IsFirstTooBig (map pattern_pair ps) found
big_end found ps i h on =
    let none : IsFirstTooBig (map pattern_pair (drop i ps)) None = subst (λ (ys : List PatternText). IsFirstTooBig (map pattern_pair ys) None) (sym (drop_past ps i h)) refl in
    subst (λ (s : Option Spot). IsFirstTooBig (map pattern_pair ps) s) (earlier_none found) (on None none)

-- one more pattern: what was found behind it, and what is still to come
pub unread_step : (found here next : Option Spot) (ps : List PatternText) (i : ℕ) (p : PatternText) → i < length ps → p ≡ get_or ps i p
    → here ≡ first_spot (spot_where (not (is_pattern p.text)) p.spot) → next ≡ earlier found here
    → earlier next (first_spot (unread_spots (map pattern_pair (drop (i + 1) ps)))) ≡ earlier found (first_spot (unread_spots (map pattern_pair (drop i ps))))
unread_step found here next ps i p less is h k =
    let rest : List Spot = unread_spots (map pattern_pair (drop (i + 1) ps)) in
    ap (λ (o : Option Spot). earlier o (first_spot rest)) (k ∙ ap (earlier found) h)
    ∙ sym (first_behind found (spot_where (not (is_pattern p.text)) p.spot) rest)
    ∙ ap (λ (ys : List PatternText). earlier found (first_spot (unread_spots (map pattern_pair ys)))) (sym (drop_here ps i p less is))
