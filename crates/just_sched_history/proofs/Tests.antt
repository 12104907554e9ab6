-- Tests of truth values, and tests, counts and lists over one item more.
use Rattle.std.proofs.Common.{◌≡◌, ◌+◌, ◌&&◌, ◌||◌, not, Bool, true, false, cond, List, [], ◌∷◌, ◌++◌, Option, Some, None, filter_map, count_by, refl, ap, sym, ◌∙◌, append-nil, arith}
use Rattle.std.specs.List.{list_any, last_or, cons_option}
use Rattle.std.proofs.lemmas.List.Elements.{filter_map-append}
use Rattle.std.proofs.lemmas.List.Sums.{sum_by_push}
use Rattle.just_sched_history.specs.State.{first}

-- ---- tests of Bools

-- b or false is b
pub or_false : (b : Bool) → (b || false) ≡ b
or_false true = refl
or_false false = refl

-- b or true is true
pub or_true : (b : Bool) → (b || true) ≡ true
or_true true = refl
or_true false = refl

-- b and false is false
pub and_false : (b : Bool) → (b && false) ≡ false
and_false true = refl
and_false false = refl

-- both parts of a true conjunction, and of a false disjunction
pub both : (a b : Bool) → (a && b) ≡ true → (a ≡ true) × (b ≡ true)
both true b h = (refl, h)
both false b h = absurd (cc)

-- two true parts are a true conjunction
pub all_both : (a b : Bool) → a ≡ true → b ≡ true → (a && b) ≡ true
all_both true b p q = q
all_both false b p q = p

-- two false parts are a false disjunction
pub neither : (a b : Bool) → (a || b) ≡ false → (a ≡ false) × (b ≡ false)
neither true b h = absurd (cc)
neither false b h = (refl, h)

-- one part of a disjunction by another
pub either_way : (a b c d : Bool) → (a ≡ true → c ≡ true) → (b ≡ true → d ≡ true) → (a || b) ≡ true → (c || d) ≡ true
either_way true b c d f g q = ap (λ x. x || d) (f refl)
either_way false b c d f g q = ap (λ x. c || x) (g q) ∙ or_true c

-- the converse of an implication between tests
pub unless : (a b : Bool) → (a ≡ true → b ≡ true) → b ≡ false → a ≡ false
unless true b h q = absurd (cc (h refl))
unless false b h q = refl

-- a test that another one excludes fails where that one passes
pub excluded : (a b : Bool) → (a ≡ true → b ≡ false) → b ≡ true → a ≡ false
excluded true b h q = absurd (cc (h refl))
excluded false b h q = refl

-- what is not true is false
pub not_true : (b : Bool) → not b ≡ true → b ≡ false
not_true true h = sym h
not_true false h = refl

-- what isn't not true is true
pub not_false : (b : Bool) → not b ≡ false → b ≡ true
not_false true h = refl
not_false false h = sym h

-- ---- tests, counts and lists over one event more

-- a disjunction of three, in either order
any_more_at : (b c d t : Bool) → t ≡ (c || d) → (b || t) ≡ ((b || c) || d)
any_more_at true c d t e = refl
any_more_at false c d t e = e

-- some item passes where one did or the last does
pub any_more : {A : Type 0} (p : A → Bool) (h : List A) (e : A) → list_any p (h ++ e ∷ []) ≡ (list_any p h || p e)
any_more p [] e = or_false (p e)
any_more p (x ∷ h) e = any_more_at (p x) _ _ _ (any_more p h e)

-- a last item that fails leaves it
pub any_none : {A : Type 0} (p : A → Bool) (h : List A) (e : A) → p e ≡ false → list_any p (h ++ e ∷ []) ≡ list_any p h
any_none p h e q = any_more p h e ∙ ap (λ b. list_any p h || b) q ∙ or_false (list_any p h)

-- a last item that passes makes it true
pub any_now : {A : Type 0} (p : A → Bool) (h : List A) (e : A) → p e ≡ true → list_any p (h ++ e ∷ []) ≡ true
any_now p h e q = any_more p h e ∙ ap (λ b. list_any p h || b) q ∙ or_true (list_any p h)

-- what was passed stays passed
pub any_kept : {A : Type 0} (p : A → Bool) (h : List A) (e : A) → list_any p h ≡ true → list_any p (h ++ e ∷ []) ≡ true
any_kept p h e q = any_more p h e ∙ ap (λ b. b || p e) q

-- a last item counts where it passes
pub count_more : {A : Type 0} (p : A → Bool) (h : List A) (e : A) → count_by p (h ++ e ∷ []) ≡ count_by p h + cond (p e) 1 0
count_more p h e = sum_by_push (λ x. cond (p x) 1 0) h e

-- a last item that fails counts nothing
pub count_none : {A : Type 0} (p : A → Bool) (h : List A) (e : A) → p e ≡ false → count_by p (h ++ e ∷ []) ≡ count_by p h
count_none p h e q = count_more p h e ∙ ap (λ b. count_by p h + cond b 1 0) q ∙ omega arith

-- a last item that passes counts one
pub count_now : {A : Type 0} (p : A → Bool) (h : List A) (e : A) → p e ≡ true → count_by p (h ++ e ∷ []) ≡ count_by p h + 1
count_now p h e q = count_more p h e ∙ ap (λ b. count_by p h + cond b 1 0) q

-- a last item adds what it gives
pub list_more : {A B : Type 0} (f : A → Option B) (h : List A) (e : A) → filter_map f (h ++ e ∷ []) ≡ filter_map f h ++ filter_map f (e ∷ [])
list_more f h e = filter_map-append f h (e ∷ [])

-- one that gives nothing adds nothing
pub list_none : {A B : Type 0} (f : A → Option B) (h : List A) (e : A) → f e ≡ None → filter_map f (h ++ e ∷ []) ≡ filter_map f h
list_none f h e q = list_more f h e ∙ ap (λ o. filter_map f h ++ cons_option o []) q ∙ append-nil (filter_map f h)

-- one that gives an item adds it
pub list_now : {A B : Type 0} (f : A → Option B) (h : List A) (e : A) (x : B) → f e ≡ Some x → filter_map f (h ++ e ∷ []) ≡ filter_map f h ++ x ∷ []
list_now f h e x q = list_more f h e ∙ ap (λ o. filter_map f h ++ cons_option o []) q

-- the last of a list with a last item is that
pub last_push : {A : Type 0} (o : Option A) (xs : List A) (x : A) → last_or o (xs ++ x ∷ []) ≡ Some x
last_push o [] x = refl
last_push o (y ∷ xs) x = last_push (Some y) xs x

-- the first of a list stays the first
pub first_kept : {A : Type 0} (xs ys : List A) (x : A) → first xs ≡ Some x → first (xs ++ ys) ≡ Some x
first_kept [] ys x e = absurd (cc)
first_kept (y ∷ xs) ys x e = e

-- where there is no first, it is that of the rest
pub first_none : {A : Type 0} (xs ys : List A) → first xs ≡ None → first (xs ++ ys) ≡ first ys
first_none [] ys e = refl
first_none (y ∷ xs) ys e = absurd (cc)

-- the first of one or none
pub first_cons : {A : Type 0} (o : Option A) → first (cons_option o []) ≡ o
first_cons None = refl
first_cons (Some x) = refl
