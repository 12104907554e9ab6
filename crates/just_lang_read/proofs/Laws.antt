-- What the crate offers to the proofs of crates above: laws of places, of outcomes and of loops over readers.
use Rattle.std.proofs.Common.{◌≡◌, ℕ, ◌<◌, ◌≤◌, Bool, true, false, if◌then◌else◌, ◌⊎◌, List, [], ◌∷◌, ◌++◌, length, Some, None, Ok, Err, ◌==◌, ◌&&◌}
use Rattle.just_lang_read.specs.Place.{Place, next, past, run, first, starts, sees, is_end, IsCharacter, Rule, AreMany, begins, behind_text}
use Rattle.just_lang_read.specs.Reader.{Outcome, Reader, and_then, pure, expect, step, many}
use Rattle.just_lang_read.specs.declared.error.ReadError.{ReadError}
use Rattle.just_lang_read.specs.Quotes.{is_cooked, goes_on, IsEscape, IsPiece}
use Rattle.just_lang_read.specs.declared.quote.Quote.{Quote}
use Rattle.just_lang_read.proofs.Steps as steps
use Rattle.just_lang_read.proofs.Outcomes as outcomes
use Rattle.just_lang_read.proofs.Many as loop
use Rattle.just_lang_read.proofs.PieceLaws as piece_laws
use Rattle.just_lang_read.proofs.PieceLoop as piece_loop
use Rattle.just_lang_read.proofs.Texts as texts
use Rattle.just_lang_read.specs.Tokens as tokens

-- ---- places

-- whether the first character passes is what the test says of it
pub starts_at : (t : ℕ → Bool) (p : Place) (c : ℕ) → first p ≡ Some c → starts t p ≡ t c
starts_at = steps.starts_at

-- a character that is seen here is the first
pub sees_first : (c : ℕ) (p : Place) → sees c p ≡ true → first p ≡ Some c
sees_first = steps.sees_first

-- whether a character that is seen here passes is what the test says of it
pub starts_seen : (t : ℕ → Bool) (c : ℕ) (p : Place) → sees c p ≡ true → starts t p ≡ t c
starts_seen = steps.starts_seen

-- the text from here is the first character and what is left behind it
pub first_is : (p : Place) (c : ℕ) → first p ≡ Some c → p.rest ≡ c ∷ (next p).rest
first_is = steps.first_is

-- where a character passes a test, there is one
pub starts_with : (t : ℕ → Bool) (p : Place) → starts t p ≡ true → (c : ℕ) × (first p ≡ Some c) × (t c ≡ true)
starts_with = steps.starts_with

-- at the end no character passes
pub starts_none : (t : ℕ → Bool) (p : Place) → first p ≡ None → starts t p ≡ false
starts_none = steps.starts_none

-- behind a character that passes a test fewer are left
pub next_shorter : (t : ℕ → Bool) (p : Place) → starts t p ≡ true → length (next p).rest < length p.rest
next_shorter = steps.next_shorter

-- behind a character that stands here fewer are left
pub character_shorter : (c : ℕ) (p q : Place) → IsCharacter c p q → length q.rest < length p.rest
character_shorter = steps.character_shorter

-- behind a character that passes, the run ends where it does from that character
pub past_next : (t : ℕ → Bool) (p : Place) → starts t p ≡ true → past t (next p) ≡ past t p
past_next = steps.past_next

-- a run is empty where no character passes
pub past_stays : (t : ℕ → Bool) (p : Place) → starts t p ≡ false → past t p ≡ p
past_stays = steps.past_stays

-- a run is its first character and the run behind it
pub run_next : (t : ℕ → Bool) (p : Place) (c : ℕ) → first p ≡ Some c → starts t p ≡ true → run t p.rest ≡ c ∷ run t (next p).rest
run_next = steps.run_next

-- a run has no characters where none passes
pub run_none : (t : ℕ → Bool) (p : Place) → starts t p ≡ false → run t p.rest ≡ []
run_none = steps.run_none

-- behind a run no more is left than before it
pub past_le : (t : ℕ → Bool) (p : Place) → length (past t p).rest ≤ length p.rest
past_le = steps.past_le

-- behind the longest run no character passes
pub past_ends : (t : ℕ → Bool) (p : Place) → starts t (past t p) ≡ false
past_ends = steps.past_ends

-- the text doesn't end where a character passes a test
pub not_end_where_starts : (t : ℕ → Bool) (p : Place) → starts t p ≡ true → is_end p ≡ false
not_end_where_starts = steps.not_end_where_starts

-- at the end of the text nothing is left
pub length_at_end : (p : Place) → is_end p ≡ true → length p.rest ≡ 0
length_at_end = steps.length_at_end

-- before it something is left
pub length_before_end : (p : Place) → is_end p ≡ false → 0 < length p.rest
length_before_end = steps.length_before_end

-- where something is left, the text doesn't end
pub not_end_of_length : (p : Place) → 0 < length p.rest → is_end p ≡ false
not_end_of_length = steps.not_end_of_length

-- behind the end of the text it stays
pub next_end : (p : Place) → p.rest ≡ [] → next p ≡ p
next_end = steps.next_end

-- what a loop over a run has collected, and what is still to come
pub collected_more : (t : ℕ → Bool) (p : Place) (c : ℕ) (front : List ℕ) → first p ≡ Some c → starts t p ≡ true
    → (front ++ c ∷ []) ++ run t (next p).rest ≡ front ++ run t p.rest
collected_more = steps.collected_more

-- where the run is at its end, nothing is
pub collected_all : (t : ℕ → Bool) (p : Place) (front : List ℕ) → starts t p ≡ false → front ++ run t p.rest ≡ front
collected_all = steps.collected_all

-- ---- outcomes

-- a chain that succeeds did so at its first link, and goes on from there
pub bind_ok : {A B : Type 0} (r : Outcome A) (f : A → Reader B) (y : B) (q : Place) → and_then r f ≡ Ok (y, q)
    → (a : A) × (m : Place) × (r ≡ Ok (a, m)) × (f a m ≡ Ok (y, q))
bind_ok r f y q h = outcomes.bind_ok r f y q h

-- a choice that gives z took one of its two ways
pub choose : {X : Type 0} (b : Bool) (x y z : X) → (if b then x else y) ≡ z → ((b ≡ true) × (x ≡ z)) ⊎ ((b ≡ false) × (y ≡ z))
choose b x y z h = outcomes.choose b x y z h

-- a reader that takes nothing gives its value
pub ok_value : {A : Type 0} (a b : A) (p q : Place) → pure a p ≡ Ok (b, q) → a ≡ b
ok_value a b p q h = outcomes.ok_value a b p q h

-- and stays where it is
pub ok_place : {A : Type 0} (a b : A) (p q : Place) → pure a p ≡ Ok (b, q) → p ≡ q
ok_place a b p q h = outcomes.ok_place a b p q h

-- a reader that succeeds at a place gives one value
pub one_value : {A : Type 0} (r : Outcome A) (a b : A) (p q : Place) → r ≡ Ok (a, p) → r ≡ Ok (b, q) → a ≡ b
one_value r a b p q h k = outcomes.one_value r a b p q h k

-- and ends at one place
pub one_place : {A : Type 0} (r : Outcome A) (a b : A) (p q : Place) → r ≡ Ok (a, p) → r ≡ Ok (b, q) → p ≡ q
one_place r a b p q h k = outcomes.one_place r a b p q h k

-- a character that is read stands there
pub expect_ok : (c : ℕ) (p : Place) (u : Unit {0}) (q : Place) → expect c p ≡ Ok (u, q) → IsCharacter c p q
expect_ok = outcomes.expect_ok

-- and one that stands there is read
pub expect_again : (c : ℕ) (p q : Place) → IsCharacter c p q → expect c p ≡ Ok (tt, q)
expect_again = outcomes.expect_again

-- ---- loops: `more` tells where one more begins, and `one` reads it, of which fewer characters are left behind it

module _ {A : Type 0} (more : Place → Bool) (one : Reader A)
    (shorter : (p q : Place) (x : A) → more p ≡ true → one p ≡ Ok (x, q) → length q.rest < length p.rest) where
  -- the loop is one turn, and then the loop
  pub many_is : (p : Place) → many more one p ≡ step more one (many more one) p
  many_is p = loop.many_is more one shorter p

  -- where no more begins, the list is empty
  pub many_end : (p : Place) → more p ≡ false → many more one p ≡ Ok ([], p)
  many_end p h = loop.many_end more one shorter p h

  -- where one more is read, the list is that one and those from behind it
  pub many_more : (p q : Place) (x : A) → more p ≡ true → one p ≡ Ok (x, q) → many more one p ≡ and_then (many more one q) (λ xs. pure (x ∷ xs))
  many_more p q x h o = loop.many_more more one shorter p q x h o

  -- where one more begins that isn't read, the list is refused as it is
  pub many_wrong : (p : Place) (e : ReadError) → more p ≡ true → one p ≡ Err e → many more one p ≡ Err e
  many_wrong p e h o = loop.many_wrong more one shorter p e h o

  -- a chain that ends where no more begins is read whole
  pub many_again : (Is : Rule A) → ((p q : Place) (x : A) → Is p q x → (more p ≡ true) × (one p ≡ Ok (x, q)))
      → (p q : Place) (xs : List A) → AreMany Is p q xs → more q ≡ false → many more one p ≡ Ok (xs, q)
  many_again Is again p q xs are done = loop.many_again more one shorter Is again p q xs are done

-- what the loop gives is a chain, and no more begins behind it
pub many_ok : {A : Type 0} (more : Place → Bool) (one : Reader A) (Is : Rule A)
    → ((p q : Place) (x : A) → more p ≡ true → one p ≡ Ok (x, q) → Is p q x)
    → (p q : Place) (xs : List A) → many more one p ≡ Ok (xs, q) → AreMany Is p q xs × (more q ≡ false)
many_ok more one Is reads p q xs h = loop.many_ok more one Is reads p q xs h

-- ---- texts that come first

-- both of two tests that hold together hold
pub and_true : (a b : Bool) → (a && b) ≡ true → (a ≡ true) × (b ≡ true)
and_true = texts.and_true

-- the first character of a text that comes first
pub begins_first : (c : ℕ) (text : List ℕ) (p : Place) → begins (c ∷ text) p ≡ true → first p ≡ Some c
begins_first = texts.begins_first

-- what a test says of it
pub begins_starts : (t : ℕ → Bool) (c : ℕ) (text : List ℕ) (p : Place) → begins (c ∷ text) p ≡ true → starts t p ≡ t c
begins_starts = texts.begins_starts

-- where another character comes first a text doesn't
pub begins_other : (c d : ℕ) (text : List ℕ) (p : Place) → first p ≡ Some c → (c == d) ≡ false → begins (d ∷ text) p ≡ false
begins_other = texts.begins_other

-- nor where a character comes first that passes a test which its own doesn't
pub starts_other : (t : ℕ → Bool) (d : ℕ) (text : List ℕ) (p : Place) → starts t p ≡ true → t d ≡ false → begins (d ∷ text) p ≡ false
starts_other = texts.starts_other

-- a character is itself
pub same : (c : ℕ) → (c == c) ≡ true
same = texts.same

-- before the end of the text a step takes a character
pub next_takes : (p : Place) → is_end p ≡ false → length (next p).rest < length p.rest
next_takes = texts.next_takes

-- a step takes nothing back
pub next_le : (p : Place) → length (next p).rest ≤ length p.rest
next_le = texts.next_le

-- nor a text
pub behind_le : (text : List ℕ) (p : Place) → length (behind_text text p).rest ≤ length p.rest
behind_le = texts.behind_le

-- a text that comes first takes a character
pub behind_shorter : (c : ℕ) (text : List ℕ) (p : Place) → begins (c ∷ text) p ≡ true → length (behind_text (c ∷ text) p).rest < length p.rest
behind_shorter = texts.behind_shorter

-- ---- the pieces of strings

-- characters that the test calls equal are
pub is_of : (c d : ℕ) → (c == d) ≡ true → c ≡ d
is_of = piece_laws.is_of

-- what is read behind a backslash is an escape
pub escape_ok : (p q : Place) (x : List ℕ) → tokens.escape p ≡ Ok (x, q) → IsEscape p q x
escape_ok = piece_laws.escape_ok

-- a piece that is read stands there
pub piece_ok : (cooked : Bool) (p q : Place) (x : List ℕ) → tokens.piece cooked p ≡ Ok (x, q) → IsPiece cooked p q x
piece_ok = piece_laws.piece_ok

-- a piece takes a character
pub piece_lt : (cooked : Bool) (p q : Place) (x : List ℕ) → IsPiece cooked p q x → length q.rest < length p.rest
piece_lt = piece_laws.piece_lt

-- where the string goes on a piece takes a character
pub pieces_shorter : (quote : Quote) (p q : Place) (x : List ℕ) → goes_on quote p ≡ true → tokens.piece (is_cooked quote) p ≡ Ok (x, q) → length q.rest < length p.rest
pieces_shorter = piece_loop.shorter
