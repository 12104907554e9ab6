-- The digits of an escape: their number and their count, as a loop finds them.
use lib.Utf8.{scalar}
use Rattle.std.proofs.Common.{◌≡◌, ℕ, ◌+◌, ◌*◌, ◌<◌, ◌≤◌, Bool, true, false, ◌&&◌, nat_le, List, [], ◌∷◌, length, Some, Ok, Err, refl, sym, ap, ◌∙◌, arith}
use Rattle.std.specs.Char.{IsScalar}
use Rattle.just_lang_read.specs.Place.{Place, next, past, run, first, starts}
use Rattle.just_lang_read.specs.declared.error.ReadError.TheVariants.{Syntax}
use Rattle.just_lang_read.proofs.Steps.{starts_with, run_next, run_none, past_stays, past_next}
use Rattle.just_lang_read.specs.Characters.{is_hex}
use Rattle.just_lang_read.specs.Quotes.{digit_value, number_from}
use Rattle.just_lang_read.specs.Tokens as tokens

-- a loop over digits stands at q: it began at p, and has found k digits with this number
pub record Counts (p q : Place) (number k : ℕ) : Type 0 where
  pub place : past is_hex q ≡ past is_hex p
  pub value : number_from number (run is_hex q.rest) ≡ number_from 0 (run is_hex p.rest)
  pub count : k + length (run is_hex q.rest) ≡ length (run is_hex p.rest)
  pub few : k ≤ 6
  pub small : number ≤ 1114111

-- a digit in front multiplies the number by 16 and adds its value
number_more : (n d : ℕ) (q : Place) → starts is_hex q ≡ true → ((c : ℕ) → first q ≡ Some c → d ≡ digit_value c)
    → number_from (n * 16 + d) (run is_hex (next q).rest) ≡ number_from n (run is_hex q.rest)
number_more n d q h k =
    let (c, f, t) = starts_with is_hex q h in
    ap (λ (v : ℕ). number_from (n * 16 + v) (run is_hex (next q).rest)) (k c f) ∙ sym (ap (number_from n) (run_next is_hex q c f h))

-- a digit that stands here is one of the run
one_more_digit : (q : Place) → starts is_hex q ≡ true → length (run is_hex q.rest) ≡ length (run is_hex (next q).rest) + 1
one_more_digit q h =
    let (c, f, t) = starts_with is_hex q h in
    let e : length (run is_hex q.rest) ≡ length (c ∷ run is_hex (next q).rest) = ap length (run_next is_hex q c f h) in
    omega arith

-- before the first digit none is counted
pub counts_begin : (p : Place) → Counts p p 0 0
counts_begin p = record { place = refl; value = refl; count = omega arith; few = omega arith; small = omega arith }

-- a digit more is one more that is counted
pub counts_more : (p q : Place) (n k d : ℕ) → Counts p q n k → starts is_hex q ≡ true → ((c : ℕ) → first q ≡ Some c → d ≡ digit_value c)
    → k + 1 ≤ 6 → n * 16 + d ≤ 1114111 → Counts p (next q) (n * 16 + d) (k + 1)
counts_more p q n k d c h v few small = record {
  place = past_next is_hex q h ∙ c.place;
  value = number_more n d q h v ∙ c.value;
  count = omega (arith, one_more_digit q h, c.count);
  few = few;
  small = small;
}

-- the test of at most, where it holds
le_true : (a b : ℕ) → a ≤ b → nat_le a b ≡ true
le_true a b h = grind (arith)

-- the test of at most, where it doesn't hold
le_false : (a b : ℕ) → b < a → nat_le a b ≡ false
le_false a b h = grind (arith)

-- a run that isn't empty has a digit in front
some_run : (p : Place) → 0 < length (run is_hex p.rest) → starts is_hex p ≡ true
some_run p h = some_if (starts is_hex p) p refl h
  where
    -- the same by what the test says
    some_if : (b : Bool) (p : Place) → starts is_hex p ≡ b → 0 < length (run is_hex p.rest) → b ≡ true
    some_if true p e h = refl
    some_if false p e h = let k : length (run is_hex p.rest) ≡ 0 = ap length (run_none is_hex p e) in absurd (omega arith)

-- an empty run has no digit in front
no_run : (p : Place) → length (run is_hex p.rest) ≡ 0 → starts is_hex p ≡ false
no_run p h = no_if (starts is_hex p) p refl h
  where
    -- the same by what the test says
    no_if : (b : Bool) (p : Place) → starts is_hex p ≡ b → length (run is_hex p.rest) ≡ 0 → b ≡ false
    no_if false p e h = refl
    no_if true p e h = absurd (omega (arith, one_more_digit p e))

-- behind the last digit
pub number_done : (p q : Place) (n k : ℕ) → Counts p q n k → starts is_hex q ≡ false → (k ≡ 0 → ⊥) → IsScalar n → tokens.number p ≡ Ok (n, q)
unfolding tokens.number
number_done p q n k c h some is =
    let none : run is_hex q.rest ≡ [] = run_none is_hex q h in
    let zero : length (run is_hex q.rest) ≡ 0 = ap length none in
    let begins : starts is_hex p ≡ true = some_run p (omega (arith, c.count)) in
    let few : nat_le (length (run is_hex p.rest)) 6 ≡ true = le_true (length (run is_hex p.rest)) 6 (omega (arith, c.count, c.few)) in
    let value : number_from 0 (run is_hex p.rest) ≡ n = sym c.value ∙ ap (number_from n) none in
    let end : past is_hex p ≡ q = sym c.place ∙ past_stays is_hex q h in
    rw (begins, few, value, is, end) refl

-- three tests of which the last fails
refused : (b c d : Bool) → c ≡ false → (b && (d && c)) ≡ false
refused false c d e = refl
refused true c false e = refl
refused true c true e = e

-- the digits are the number of no character
pub number_odd : (p q : Place) (n k : ℕ) → Counts p q n k → starts is_hex q ≡ false → (IsScalar n → ⊥) → tokens.number p ≡ Err Syntax
unfolding tokens.number
number_odd p q n k c h odd =
    let value : number_from 0 (run is_hex p.rest) ≡ n = sym c.value ∙ ap (number_from n) (run_none is_hex q h) in
    let no : scalar (number_from 0 (run is_hex p.rest)) ≡ false = rw value (not_true (scalar n) odd) in
    rw (refused (starts is_hex p) (scalar (number_from 0 (run is_hex p.rest))) (nat_le (length (run is_hex p.rest)) 6) no) refl
  where
    -- what isn't true is false
    not_true : (b : Bool) → (b ≡ true → ⊥) → b ≡ false
    not_true true n = absurd (n refl)
    not_true false n = refl

-- no digit stands there
pub number_none : (p q : Place) (n k : ℕ) → Counts p q n k → starts is_hex q ≡ false → k ≡ 0 → tokens.number p ≡ Err Syntax
unfolding tokens.number
number_none p q n k c h e =
    let zero : length (run is_hex q.rest) ≡ 0 = ap length (run_none is_hex q h) in
    let no : starts is_hex p ≡ false = no_run p (omega (arith, c.count)) in
    rw no refl

-- a seventh digit stands there
pub number_long : (p q : Place) (n k : ℕ) → Counts p q n k → starts is_hex q ≡ true → 6 < k + 1 → tokens.number p ≡ Err Syntax
unfolding tokens.number
number_long p q n k c h e =
    let no : nat_le (length (run is_hex p.rest)) 6 ≡ false = le_false (length (run is_hex p.rest)) 6 (omega (arith, c.count, one_more_digit q h)) in
    rw (no, second (starts is_hex p)) refl
  where
    -- nothing and a falsehood hold together
    second : (b : Bool) → (b && false) ≡ false
    second true = refl
    second false = refl

-- further digits make no number smaller
from_le : (n : ℕ) (digits : List ℕ) → n ≤ number_from n digits
from_le n [] = omega arith
from_le n (c ∷ digits) = omega (arith, from_le (n * 16 + digit_value c) digits)

-- the number is already above all characters'
pub number_big : (p q : Place) (n k d : ℕ) → Counts p q n k → starts is_hex q ≡ true → ((c : ℕ) → first q ≡ Some c → d ≡ digit_value c)
    → 1114111 < n * 16 + d → tokens.number p ≡ Err Syntax
unfolding tokens.number
number_big p q n k d c h v e =
    let value : number_from (n * 16 + d) (run is_hex (next q).rest) ≡ number_from 0 (run is_hex p.rest) = number_more n d q h v ∙ c.value in
    let big : 1114111 < number_from 0 (run is_hex p.rest) = omega (arith, from_le (n * 16 + d) (run is_hex (next q).rest), value) in
    rw (refused (starts is_hex p) (scalar (number_from 0 (run is_hex p.rest))) (nat_le (length (run is_hex p.rest)) 6) (above (number_from 0 (run is_hex p.rest)) big)) refl
  where
    -- no character has a number above the last one
    above : (n : ℕ) → 1114111 < n → scalar n ≡ false
    above n h = grind (arith)
