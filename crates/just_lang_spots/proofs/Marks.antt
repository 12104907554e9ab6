-- What marking nodes one after the other keeps.
use Rattle.std.proofs.Common.{◌≡◌, ◌≢◌, ℕ, ◌+◌, ◌<◌, ◌⊎◌, inl, inr, Bool, true, false, cond, List, [], ◌∷◌, ◌++◌, length, get_or, set, refl, ap, sym, ◌∙◌, subst, arith, append_assoc}
use Rattle.std.specs.List.{All, Contains, sum_by}
use Rattle.std.proofs.lemmas.Bool.{cases_eq}
use Rattle.std.proofs.lemmas.List.{length-set, get_or-set_same, get_or-set_other, length_push, append-nil}
use Rattle.std.proofs.lemmas.List.Elements.{All-push, All-weaker, All-head, All-tail, All-cons, Contains-push, Contains-append_left}
use Rattle.std.proofs.lemmas.List.Quantifiers.{all_pairs_push}
use Rattle.std.proofs.lemmas.List.Sums.{sum_by-set}
use Rattle.just_lang_spots.specs.Met.{is_marked, met_after, list_after, unmarked, AreMarked}

-- a mark stays
pub mark_kept : (marks : List Bool) (v w : ℕ) → v < length marks → is_marked marks w ≡ true → is_marked (set marks v true) w ≡ true
mark_kept marks v w h m =
    elim (cases_eq w v) [
      | inl e ↦ subst (λ x. is_marked (set marks v true) x ≡ true) (sym e) (get_or-set_same marks v true false h)
      | inr ne ↦ get_or-set_other marks v w true false ne ∙ m
    ]

-- what is marked behind one more mark was marked, or is that one
mark_cases : (marks : List Bool) (v w : ℕ) → is_marked (set marks v true) w ≡ true → (w ≡ v) ⊎ (is_marked marks w ≡ true)
mark_cases marks v w m =
    elim (cases_eq w v) [
      | inl e ↦ inl e
      | inr ne ↦ inr (sym (get_or-set_other marks v w true false ne) ∙ m)
    ]

listed_one : (marks : List Bool) (list : List ℕ) (v w : ℕ) → ((x : ℕ) → is_marked marks x ≡ true → Contains list x) → is_marked (set marks v true) w ≡ true → Contains (list ++ v ∷ []) w
listed_one marks list v w listed m =
    elim (mark_cases marks v w m) [
      | inl e ↦ subst (λ x. Contains (list ++ v ∷ []) x) (sym e) (Contains-push list v)
      | inr old ↦ Contains-append_left list (v ∷ []) w (listed w old)
    ]

counted_one : (marks : List Bool) (list : List ℕ) (v : ℕ) → v < length marks → is_marked marks v ≡ false → length list + sum_by unmarked marks ≡ length marks → length (list ++ v ∷ []) + sum_by unmarked (set marks v true) ≡ length (set marks v true)
counted_one marks list v h free counted =
    let sums : sum_by unmarked (set marks v true) + unmarked (get_or marks v false) ≡ sum_by unmarked marks + unmarked true = sum_by-set unmarked marks v true false h in
    let one : unmarked (get_or marks v false) ≡ 1 = ap unmarked free in
    let more : length (list ++ v ∷ []) ≡ length list + 1 = length_push list v in
    let same : length (set marks v true) ≡ length marks = length-set marks v true in
    omega arith

-- a node that isn't marked is not among those that are
apart_one : (marks : List Bool) (list : List ℕ) (v : ℕ) → is_marked marks v ≡ false → All (λ w. is_marked marks w ≡ true) list → (k d : ℕ) → k < length list → get_or list k d ≢ v
apart_one marks list v free marked k d h e =
    let here : is_marked marks v ≡ true = subst (λ w. is_marked marks w ≡ true) e (marked k d h) in
    absurd (cc)

-- one more node that is in the set
pub mark_one : (P : ℕ → Type 0) (marks : List Bool) (list : List ℕ) (v : ℕ) → v < length marks → is_marked marks v ≡ false → P v → AreMarked P marks list → AreMarked P (set marks v true) (list ++ v ∷ [])
mark_one P marks list v h free p old = record {
  within = All-push (λ w. w < length (set marks v true)) list v (All-weaker (λ w. w < length marks) (λ w. w < length (set marks v true)) (λ w lt. subst (λ n. w < n) (sym (length-set marks v true)) lt) list old.within) (subst (λ n. v < n) (sym (length-set marks v true)) h);
  listed = λ w m. listed_one marks list v w old.listed m;
  marked = All-push (λ w. is_marked (set marks v true) w ≡ true) list v (All-weaker (λ w. is_marked marks w ≡ true) (λ w. is_marked (set marks v true) w ≡ true) (λ w m. mark_kept marks v w h m) list old.marked) (get_or-set_same marks v true false h);
  each = All-push P list v old.each p;
  once = all_pairs_push (λ x y. x ≢ y) list v old.once (apart_one marks list v free old.marked);
  counted = counted_one marks list v h free old.counted;
}

-- the nodes behind the first are within more marks
rest_within : (marks : List Bool) (v : ℕ) (vs : List ℕ) → All (λ w. w < length marks) (v ∷ vs) → All (λ w. w < length (set marks v true)) vs
rest_within marks v vs h =
    All-weaker (λ w. w < length marks) (λ w. w < length (set marks v true)) (λ w lt. subst (λ n. w < n) (sym (length-set marks v true)) lt) vs (All-tail (λ w. w < length marks) v vs h)

-- all of some nodes that are in the set
pub mark_all : (P : ℕ → Type 0) (vs : List ℕ) (marks : List Bool) (list : List ℕ) → All (λ w. w < length marks) vs → All P vs → AreMarked P marks list → AreMarked P (met_after marks vs) (list_after marks list vs)
mark_all P [] marks list h p old = old
mark_all P (v ∷ vs) marks list h p old =
    elim (is_marked marks v) as (λ b. is_marked marks v ≡ b → AreMarked P (cond b (met_after marks vs) (met_after (set marks v true) vs)) (cond b (list_after marks list vs) (list_after (set marks v true) (list ++ v ∷ []) vs))) [
      | true ↦ λ t. mark_all P vs marks list (All-tail (λ w. w < length marks) v vs h) (All-tail P v vs p) old
      | false ↦ λ f. mark_all P vs (set marks v true) (list ++ v ∷ []) (rest_within marks v vs h) (All-tail P v vs p) (mark_one P marks list v (All-head (λ w. w < length marks) v vs h) f (All-head P v vs p) old)
    ] refl

-- there are as many marks
pub length_met : (vs : List ℕ) (marks : List Bool) → length (met_after marks vs) ≡ length marks
length_met [] marks = refl
length_met (v ∷ vs) marks =
    elim (is_marked marks v) as (λ b. length (cond b (met_after marks vs) (met_after (set marks v true) vs)) ≡ length marks) [
      | true ↦ length_met vs marks
      | false ↦ length_met vs (set marks v true) ∙ length-set marks v true
    ]

-- marks stay
pub met_kept : (vs : List ℕ) (marks : List Bool) (w : ℕ) → All (λ x. x < length marks) vs → is_marked marks w ≡ true → is_marked (met_after marks vs) w ≡ true
met_kept [] marks w h m = m
met_kept (v ∷ vs) marks w h m =
    elim (is_marked marks v) as (λ b. is_marked (cond b (met_after marks vs) (met_after (set marks v true) vs)) w ≡ true) [
      | true ↦ met_kept vs marks w (All-tail (λ x. x < length marks) v vs h) m
      | false ↦ met_kept vs (set marks v true) w (rest_within marks v vs h) (mark_kept marks v w (All-head (λ x. x < length marks) v vs h) m)
    ]

-- all these nodes are marked
pub met_all : (vs : List ℕ) (marks : List Bool) → All (λ x. x < length marks) vs → All (λ w. is_marked (met_after marks vs) w ≡ true) vs
met_all [] marks h = λ k d lt. absurd (omega (arith, lt))
met_all (v ∷ vs) marks h =
    elim (is_marked marks v) as (λ b. is_marked marks v ≡ b → All (λ w. is_marked (cond b (met_after marks vs) (met_after (set marks v true) vs)) w ≡ true) (v ∷ vs)) [
      | true ↦ λ t. All-cons (λ w. is_marked (met_after marks vs) w ≡ true) v vs (met_kept vs marks v (All-tail (λ x. x < length marks) v vs h) t) (met_all vs marks (All-tail (λ x. x < length marks) v vs h))
      | false ↦ λ f. All-cons (λ w. is_marked (met_after (set marks v true) vs) w ≡ true) v vs (met_kept vs (set marks v true) v (rest_within marks v vs h) (get_or-set_same marks v true false (All-head (λ x. x < length marks) v vs h))) (met_all vs (set marks v true) (rest_within marks v vs h))
    ] refl

-- the list goes on behind what it was
pub list_goes_on : (vs : List ℕ) (marks : List Bool) (list : List ℕ) → (more : List ℕ) × (list_after marks list vs ≡ list ++ more)
list_goes_on [] marks list = ([], sym (append-nil list))
list_goes_on (v ∷ vs) marks list =
    elim (is_marked marks v) as (λ b. (more : List ℕ) × (cond b (list_after marks list vs) (list_after (set marks v true) (list ++ v ∷ []) vs) ≡ list ++ more)) [
      | true ↦ list_goes_on vs marks list
      | false ↦
          let rest = list_goes_on vs (set marks v true) (list ++ v ∷ []) in
          (v ∷ rest.0, rest.1 ∙ append_assoc list (v ∷ []) rest.0)
    ]
