-- Laws of the flags of nodes.
use Rattle.std.proofs.Common.{◌≡◌, Bool, true, false, ◌||◌, List, [], ◌∷◌, ◌++◌, ap, refl}
use Rattle.std.proofs.Common.{◌∙◌}
use Rattle.std.specs.Prelude.{Option, Some, None, is_some, filter_map}
use Rattle.std.specs.List.{list_any, cons_option}
use Rattle.std.proofs.lemmas.List.Elements.{filter_map-append}
use Rattle.just_sched_history.specs.declared.event.Event.{Event}
use Rattle.just_sched_history.specs.declared.event.Event.TheVariants as event
use Rattle.just_sched_history.specs.State.{first, has_caught, caught_signal}
use Rattle.just_sched_history.specs.Tables.{or_first}

-- four tests, in either order
or_exchange : (a b c d : Bool) → ((a || b) || (c || d)) ≡ ((a || c) || (b || d))
or_exchange true b c d = refl
or_exchange false true true d = refl
or_exchange false true false d = refl
or_exchange false false true d = refl
or_exchange false false false d = refl

-- some event passes one of two tests where one passes the first, or one the second
pub any_or : {A : Type 0} (p q : A → Bool) (xs : List A) → list_any (λ x. p x || q x) xs ≡ (list_any p xs || list_any q xs)
any_or p q [] = refl
any_or p q (x ∷ xs) = rw (any_or p q xs) (or_exchange (p x) (q x) (list_any p xs) (list_any q xs))

-- no signal was caught where there is no first one
pub not_caught : (h : List Event) → caught_signal h ≡ None → has_caught h ≡ false
not_caught [] e = refl
not_caught (event.Caught s ∷ es) e = absurd (let never : Some s ≡ None = e in cc)
not_caught (_ ∷ es) e = not_caught es e

-- a signal was caught where there is a first one
pub caught_some : (h : List Event) → is_some (caught_signal h) ≡ has_caught h
caught_some [] = refl
caught_some (event.Caught s ∷ es) = refl
caught_some (_ ∷ es) = caught_some es

-- the first of what an item gives, or of the rest
first_or : {A : Type 0} (o : Option A) (xs : List A) → first (cons_option o xs) ≡ or_first o (first xs)
first_or None xs = refl
first_or (Some x) xs = refl

-- the first of two lists
first_both : {A : Type 0} (xs ys : List A) → first (xs ++ ys) ≡ or_first (first xs) (first ys)
first_both [] ys = refl
first_both (x ∷ xs) ys = refl

-- a value or nothing is the value
first_alone : {A : Type 0} (o : Option A) → or_first o None ≡ o
first_alone None = refl
first_alone (Some x) = refl

-- the first of what a list with one item more gives
pub first_push : {A B : Type 0} (f : A → Option B) (xs : List A) (x : A) → first (filter_map f (xs ++ x ∷ [])) ≡ or_first (first (filter_map f xs)) (f x)
first_push f xs x =
    ap first (filter_map-append f xs (x ∷ [])) ∙ first_both (filter_map f xs) (filter_map f (x ∷ [])) ∙ ap (or_first (first (filter_map f xs))) (first_or (f x) [] ∙ first_alone (f x))
