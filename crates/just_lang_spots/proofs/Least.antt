-- The first of some places is one of them, and none of them comes before it.
use Rattle.std.proofs.Common.{◌≡◌, ℕ, List, [], ◌∷◌, ◌≤◌, length, drop, Option, Some, None, refl, sym, ap, ◌∙◌, subst, arith, true, false, Bool}
use Rattle.std.specs.Prelude.{nat_lt, if◌then◌else◌, All, Contains}
use Rattle.std.proofs.lemmas.List.Elements.{All-nil, All-cons, All-weaker, Contains-push, Contains-append_left, Contains-append_right}
use Rattle.just_lang_spots.specs.declared.spot.Spot.{Spot}
use Rattle.just_lang_spots.specs.Spots.{comes_before, earlier, first_spot, IsFirstOf}
use Rattle.std.proofs.lemmas.List.{drop_all}
use Rattle.just_lang_spots.proofs.Spots.{lex, not_before_trans, earlier_none}

lex_back : (m n : ℕ) (p q : Bool) → (p ≡ true → q ≡ false) → lex m n p ≡ true → lex n m q ≡ false
lex_back m n p q inner h = grind arith

lex_itself : (m : ℕ) (p : Bool) → p ≡ false → lex m m p ≡ false
lex_itself m p h = grind arith

lt_back : (m n : ℕ) → nat_lt m n ≡ true → nat_lt n m ≡ false
lt_back m n h = grind arith

lt_itself : (m : ℕ) → nat_lt m m ≡ false
lt_itself m = grind arith

-- of two places one at most comes before the other, and none before itself
before_back : (a b : Spot) → comes_before a b ≡ true → comes_before b a ≡ false
before_back a b h =
    lex_back a.file b.file (lex a.line b.line (nat_lt a.column b.column)) (lex b.line a.line (nat_lt b.column a.column))
    (lex_back a.line b.line (nat_lt a.column b.column) (nat_lt b.column a.column) (lt_back a.column b.column)) h

before_itself : (a : Spot) → comes_before a a ≡ false
before_itself a = lex_itself a.file (lex a.line a.line (nat_lt a.column a.column)) (lex_itself a.line (nat_lt a.column a.column) (lt_itself a.column))

head_in : (x : Spot) (xs : List Spot) → Contains (x ∷ xs) x
head_in x xs = Contains-append_left (x ∷ []) xs x (Contains-push [] x)

tail_in : (x s : Spot) (xs : List Spot) → Contains xs s → Contains (x ∷ xs) s
tail_in x s xs h = Contains-append_right (x ∷ []) xs s h

one_more : (x : Spot) (xs : List Spot) (o : Option Spot) → IsFirstOf xs o → IsFirstOf (x ∷ xs) (earlier (Some x) o)
one_more x xs None e =
    (head_in x xs, All-cons (λ y. comes_before y x ≡ false) x xs (before_itself x) (subst (λ ys. All (λ y. comes_before y x ≡ false) ys) (sym e) (All-nil (λ y. comes_before y x ≡ false))))
one_more x xs (Some s) h =
    elim (comes_before s x) as (λ b. comes_before s x ≡ b → IsFirstOf (x ∷ xs) (if b then Some s else Some x)) [
      | true ↦ λ t. (tail_in x s xs h.0, All-cons (λ y. comes_before y s ≡ false) x xs (before_back s x t) h.1)
      | false ↦ λ f. (head_in x xs, All-cons (λ y. comes_before y x ≡ false) x xs (before_itself x) (All-weaker (λ y. comes_before y s ≡ false) (λ y. comes_before y x ≡ false) (λ y n. not_before_trans x s y n f) xs h.1))
    ] refl

pub first_is : (xs : List Spot) → IsFirstOf xs (first_spot xs)
first_is [] = refl
first_is (x ∷ xs) = one_more x xs (first_spot xs) (first_is xs)

-- what was found behind the last place is the first of all
pub first_found : (found : Option Spot) (xs : List Spot) (i : ℕ) → length xs ≤ i → earlier found (first_spot (drop i xs)) ≡ first_spot xs → IsFirstOf xs found
first_found found xs i h e =
    let is : found ≡ first_spot xs = sym (earlier_none found) ∙ ap (λ ys. earlier found (first_spot ys)) (sym (drop_all i xs h)) ∙ e in
    subst (λ o. IsFirstOf xs o) (sym is) (first_is xs)
