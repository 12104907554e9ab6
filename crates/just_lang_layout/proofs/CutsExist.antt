-- Each text of characters can be cut into pieces.
use Rattle.std.proofs.Common.{◌≡◌, ◌⊎◌, ℕ, zero, suc, ◌<◌, ◌≤◌, ◌==◌, ◌&&◌, ◌++◌, List, [], ◌∷◌, Bool, true, false, not, refl, sym, ◌∙◌, ap, subst, inl, inr, length, arith, length-append, lit<}
use Rattle.std.specs.List.{AllByRecursion}
use Rattle.std.specs.Char.{encode_utf8}
use Rattle.std.specs.Str.{encode_utf8_all, NonePass}
use Rattle.std.proofs.lemmas.List.{append-nil}
use Rattle.std.proofs.lemmas.Bool.Decides.{nat_tests}
use Rattle.std.proofs.lemmas.Str.{encode_same, encode_ascii, encodes-append, length-encode, len_utf8_bounds}
use Rattle.just_expand.specs.Bytes.{dollar_sign, open_brace, close_brace, colon, minus_sign}
use Rattle.just_expand.specs.Pieces.{Piece, plain, dollar, bare, braced, defaulted, unclosed, lone, Begins, Cuts, Lacks, LacksMark, BeginsWithout, BeginsWithoutName, EndsOrBegins, is_name_char}
use Rattle.just_expand.proofs.Braces.{finish_braced, finish_defaulted}
use Rattle.just_expand.proofs.Lists.{lacks_left, lacks_right, same_tail}
use Rattle.just_expand.proofs.Names.{without_name_nil}
use Rattle.just_expand.proofs.Splits.{lacks_all}

-- ---- a list is parted where a test first fails

-- the list is empty or begins with one that fails the test
abbrev Ends : (ℕ → Bool) → List ℕ → Type 0
Ends test [] = Unit {0}
Ends test (c ∷ cs) = test c ≡ false

pub record Split (test : ℕ → Bool) (cs : List ℕ) : Type 0 where
  pub front : List ℕ
  pub behind : List ℕ
  pub whole : cs ≡ front ++ behind
  pub pass : AllByRecursion (λ c. test c ≡ true) front
  pub fails : Ends test behind

split_by : (test : ℕ → Bool) (c : ℕ) (cs : List ℕ) (b : Bool) → test c ≡ b → Split test cs → Split test (c ∷ cs)
split_by test c cs true e s = record { front = c ∷ s.front; behind = s.behind; whole = ap (λ (k : List ℕ). c ∷ k) s.whole; pass = (e, s.pass); fails = s.fails }
split_by test c cs false e s = record { front = []; behind = c ∷ cs; whole = refl; pass = tt; fails = e }

split : (test : ℕ → Bool) (cs : List ℕ) → Split test cs
split test [] = record { front = []; behind = []; whole = refl; pass = tt; fails = tt }
split test (c ∷ cs) = split_by test c cs (test c) refl (split test cs)

-- ---- characters and their bytes

abbrev other_than : ℕ → ℕ → Bool
other_than b c = not (c == b)

is_other : (c b : ℕ) → other_than b c ≡ true → (c == b) ≡ false
is_other c b e = grind (arith, nat_tests)

is_same : (c b : ℕ) → other_than b c ≡ false → c ≡ b
is_same c b e = grind (arith, nat_tests)

none_pass : (b : ℕ) (cs : List ℕ) → AllByRecursion (λ c. other_than b c ≡ true) cs → NonePass (λ c. c == b) cs
none_pass b [] h = tt
none_pass b (c ∷ cs) h = (is_other c b h.0, none_pass b cs h.1)

-- characters of which none is that one have no such byte
lacks_bytes : (b : ℕ) (cs : List ℕ) → b < 128 → AllByRecursion (λ c. other_than b c ≡ true) cs → Lacks b (encode_utf8_all cs)
lacks_bytes b cs l h = lacks_all b (encode_utf8_all cs) (cs, refl, none_pass b cs h) l

no_char_in_nothing : (c : ℕ) (rest : List ℕ) → encode_utf8 c ++ rest ≡ [] → ⊥
no_char_in_nothing c rest e =
    let l = ap length e in
    omega (arith, l, length-append (encode_utf8 c) rest, length-encode c, (len_utf8_bounds c).0)

-- the bytes of a list that begins with that character begin with its byte
first_byte : (b : ℕ) (c : ℕ) (cs : List ℕ) → b < 128 → c ≡ b → encode_utf8_all (c ∷ cs) ≡ b ∷ encode_utf8_all cs
first_byte b c cs l e = ap (λ (k : ℕ). encode_utf8 k ++ encode_utf8_all cs) e ∙ ap (λ (k : List ℕ). k ++ encode_utf8_all cs) (encode_ascii b l)

apart : (c b : ℕ) → c ≡ b → other_than b c ≡ true → ⊥
apart c b e h = grind (arith, nat_tests)

-- and of one that begins with another one don't
other_byte : (b : ℕ) (c : ℕ) (cs : List ℕ) → b < 128 → other_than b c ≡ true → BeginsWithout b (encode_utf8_all (c ∷ cs))
other_byte b c cs l e = λ rest f.
    let same = encode_same c b (encode_utf8_all cs) rest (f ∙ sym (ap (λ (k : List ℕ). k ++ rest) (encode_ascii b l))) in
    apart c b same.0 e

ends_or_begins : (b : ℕ) (cs : List ℕ) → b < 128 → Ends (other_than b) cs → EndsOrBegins b (encode_utf8_all cs)
ends_or_begins b [] l h = inl refl
ends_or_begins b (c ∷ cs) l h = inr (encode_utf8_all cs, first_byte b c cs l (is_same c b h))

ends_name : (cs : List ℕ) → Ends is_name_char cs → BeginsWithoutName (encode_utf8_all cs)
ends_name [] h = without_name_nil
ends_name (c ∷ cs) h = λ d rest e.
    let same = encode_same c d (encode_utf8_all cs) rest e in
    ap is_name_char (sym same.0) ∙ h

shorter : (cs a b : List ℕ) → cs ≡ a ++ b → length b ≤ length cs
shorter cs a b e = let l = ap length e in omega (arith, l, length-append a b)

-- ---- where `:-` first stands

abbrev Marked : List ℕ → Type 0
Marked t = (x : List ℕ) × (y : List ℕ) × (t ≡ x ++ (colon ∷ minus_sign ∷ y)) × LacksMark x

-- the text is `:-` and more
abbrev begins_mark : List ℕ → Bool
begins_mark [] = false
begins_mark (a ∷ []) = false
begins_mark (a ∷ b ∷ t) = a == 58 && b == 45

nil_lacks : (front rest : List ℕ) → [] ≡ front ++ (colon ∷ minus_sign ∷ rest) → ⊥
nil_lacks [] rest e = cc
nil_lacks (f ∷ front) rest e = cc

lacks_at : (b : ℕ) (t : List ℕ) → begins_mark (b ∷ t) ≡ false → LacksMark t → (front rest : List ℕ) → b ∷ t ≡ front ++ (colon ∷ minus_sign ∷ rest) → ⊥
lacks_at b t h l [] rest e = let f : begins_mark (b ∷ t) ≡ true = ap begins_mark e in cc
lacks_at b t h l (f ∷ front) rest e = l front rest (same_tail b f t (front ++ (58 ∷ 45 ∷ rest)) e)

lacks_cons : (b : ℕ) (t : List ℕ) → begins_mark (b ∷ t) ≡ false → LacksMark t → LacksMark (b ∷ t)
lacks_cons b t h l = λ front rest e. lacks_at b t h l front rest e

begins_less : (b : ℕ) (x w : List ℕ) → begins_mark (b ∷ (x ++ w)) ≡ false → begins_mark (b ∷ x) ≡ false
begins_less b [] w h = refl
begins_less b (c ∷ x) w h = h

marked_cons : (b : ℕ) (t : List ℕ) → begins_mark (b ∷ t) ≡ false → Marked t → Marked (b ∷ t)
marked_cons b t h m = (
  b ∷ m.0,
  m.1,
  ap (λ (k : List ℕ). b ∷ k) m.2,
  lacks_cons b m.0 (begins_less b m.0 (58 ∷ 45 ∷ m.1) (sym (ap (λ (k : List ℕ). begins_mark (b ∷ k)) m.2) ∙ h)) m.3,
)

mark_bytes : (b c : ℕ) → (b == 58 && c == 45) ≡ true → (b ≡ 58) × (c ≡ 45)
mark_bytes b c h = (grind (arith, nat_tests), grind (arith, nat_tests))

mark_found : (b : ℕ) (t : List ℕ) → begins_mark (b ∷ t) ≡ true → Marked (b ∷ t)
mark_found b [] h = cc
mark_found b (c ∷ t) h =
    let both = mark_bytes b c h in
    ([], t, ap (λ (k : ℕ). k ∷ c ∷ t) both.0 ∙ ap (λ (k : ℕ). 58 ∷ k ∷ t) both.1, λ front rest e. nil_lacks front rest e)

mark_by : (b : ℕ) (t : List ℕ) (x : Bool) → begins_mark (b ∷ t) ≡ x → LacksMark t ⊎ Marked t → LacksMark (b ∷ t) ⊎ Marked (b ∷ t)
mark_by b t true h r = inr (mark_found b t h)
mark_by b t false h (inl l) = inl (lacks_cons b t h l)
mark_by b t false h (inr m) = inr (marked_cons b t h m)

mark_in : (t : List ℕ) → LacksMark t ⊎ Marked t
mark_in [] = inl (λ front rest e. nil_lacks front rest e)
mark_in (b ∷ t) = mark_by b t (begins_mark (b ∷ t)) refl (mark_in t)

-- ---- the next piece

-- a piece in front of the text, and characters behind it, that many at most
pub record Cut (t : List ℕ) (n : ℕ) : Type 0 where
  pub piece : Piece
  pub rest : List ℕ
  pub begins : Begins t piece (encode_utf8_all rest)
  pub fits : length rest ≤ n

abbrev Inside : List ℕ → List ℕ → Type 0
Inside n rest = (p : Piece) × Begins (dollar_sign ∷ open_brace ∷ (n ++ (close_brace ∷ rest))) p rest

inside_marked : (n rest : List ℕ) → Lacks close_brace n → (x y : List ℕ) → n ≡ x ++ (colon ∷ minus_sign ∷ y) → LacksMark x → Inside n rest
inside_marked n rest l [] y e k = (braced n, (ap (λ (t : List ℕ). 36 ∷ 123 ∷ t) (finish_braced n rest), (l, inl (y, e))))
inside_marked n rest l (z ∷ zs) y e k =
    let parts : Lacks 125 ((z ∷ zs) ++ (58 ∷ 45 ∷ y)) = subst (Lacks 125) e l in (
      defaulted (z ∷ zs) y,
      (
        ap (λ (t : List ℕ). 36 ∷ 123 ∷ t) (finish_defaulted n (z ∷ zs) y rest e),
        ((λ f. cc), lacks_left 125 (z ∷ zs) (58 ∷ 45 ∷ y) parts, k, (lacks_right 125 (z ∷ zs) (58 ∷ 45 ∷ y) parts).1.1),
      ),
    )

inside_by : (n rest : List ℕ) → Lacks close_brace n → LacksMark n ⊎ Marked n → Inside n rest
inside_by n rest l (inl k) = (braced n, (ap (λ (t : List ℕ). 36 ∷ 123 ∷ t) (finish_braced n rest), (l, inr k)))
inside_by n rest l (inr m) = inside_marked n rest l m.0 m.1 m.2 m.3

abbrev AfterDollar : List ℕ → Type 0
AfterDollar cs = Cut (dollar_sign ∷ encode_utf8_all cs) (length cs)

closed : (d : ℕ) (ds : List ℕ) → d ≡ open_brace → (a b : List ℕ) → ds ≡ a ++ b → AllByRecursion (λ c. other_than close_brace c ≡ true) a → Ends (other_than close_brace) b → AfterDollar (d ∷ ds)
closed d ds e a [] whole pass fails =
    record {
      piece = unclosed;
      rest = ds;
      begins = (
        ap (λ (t : List ℕ). 36 ∷ t) (first_byte 123 d ds (lit< tt) e),
        subst (λ (k : List ℕ). Lacks 125 (encode_utf8_all k)) (sym (whole ∙ append-nil a)) (lacks_bytes 125 a (lit< tt) pass),
      );
      fits = omega arith;
    }
closed d ds e a (x ∷ rest) whole pass fails =
    let bytes : encode_utf8_all ds ≡ encode_utf8_all a ++ (125 ∷ encode_utf8_all rest) =
    ap encode_utf8_all whole ∙ encodes-append a (x ∷ rest) ∙ ap (λ (k : List ℕ). encode_utf8_all a ++ k) (first_byte 125 x rest (lit< tt) (is_same x 125 fails)) in
    let i = inside_by (encode_utf8_all a) (encode_utf8_all rest) (lacks_bytes 125 a (lit< tt) pass) (mark_in (encode_utf8_all a)) in
    let l = shorter ds a (x ∷ rest) whole in
    record {
      piece = i.0;
      rest = rest;
      begins = (ap (λ (t : List ℕ). 36 ∷ t) (first_byte 123 d ds (lit< tt) e ∙ ap (λ (t : List ℕ). 123 ∷ t) bytes) ∙ i.1.0, i.1.1);
      fits = omega (arith, l);
    }

named : (d : ℕ) (ds : List ℕ) → other_than dollar_sign d ≡ true → other_than open_brace d ≡ true → (a b : List ℕ) → d ∷ ds ≡ a ++ b
    → AllByRecursion (λ c. is_name_char c ≡ true) a → Ends is_name_char b → AfterDollar (d ∷ ds)
named d ds h k [] b whole pass fails =
    record {
      piece = lone;
      rest = d ∷ ds;
      begins = (refl, (other_byte 36 d ds (lit< tt) h, other_byte 123 d ds (lit< tt) k, ends_name (d ∷ ds) (subst (Ends is_name_char) (sym whole) fails)));
      fits = omega arith;
    }
named d ds h k (x ∷ xs) b whole pass fails =
    record {
      piece = bare (encode_utf8_all (x ∷ xs));
      rest = b;
      begins = (
        ap (λ (t : List ℕ). 36 ∷ t) (ap encode_utf8_all whole ∙ encodes-append (x ∷ xs) b),
        ((λ e. no_char_in_nothing x (encode_utf8_all xs) e), (x ∷ xs, refl, pass), ends_name b fails),
      );
      fits = shorter (d ∷ ds) (x ∷ xs) b whole;
    }

brace_by : (d : ℕ) (ds : List ℕ) → other_than dollar_sign d ≡ true → (b : Bool) → other_than open_brace d ≡ b → AfterDollar (d ∷ ds)
brace_by d ds h true k = let s = split is_name_char (d ∷ ds) in named d ds h k s.front s.behind s.whole s.pass s.fails
brace_by d ds h false k = let s = split (other_than 125) ds in closed d ds (is_same d 123 k) s.front s.behind s.whole s.pass s.fails

dollar_by : (d : ℕ) (ds : List ℕ) (b : Bool) → other_than dollar_sign d ≡ b → AfterDollar (d ∷ ds)
dollar_by d ds true h = brace_by d ds h (other_than 123 d) refl
dollar_by d ds false h =
    record { piece = dollar; rest = ds; begins = (ap (λ (t : List ℕ). 36 ∷ t) (first_byte 36 d ds (lit< tt) (is_same d 36 h)), tt); fits = omega arith }

after_dollar : (cs : List ℕ) → AfterDollar cs
after_dollar [] = record { piece = lone; rest = []; begins = (refl, ((λ r e. cc), (λ r e. cc), without_name_nil)); fits = omega arith }
after_dollar (d ∷ ds) = dollar_by d ds (other_than 36 d) refl

next_by : (c : ℕ) (cs : List ℕ) (b : Bool) → other_than dollar_sign c ≡ b → Cut (encode_utf8_all (c ∷ cs)) (length cs)
next_by c cs true h =
    let s = split (other_than 36) cs in
    record {
      piece = plain (encode_utf8_all (c ∷ s.front));
      rest = s.behind;
      begins = (
        ap encode_utf8_all (ap (λ (k : List ℕ). c ∷ k) s.whole) ∙ encodes-append (c ∷ s.front) s.behind,
        ((λ e. no_char_in_nothing c (encode_utf8_all s.front) e), lacks_bytes 36 (c ∷ s.front) (lit< tt) (h, s.pass), ends_or_begins 36 s.behind (lit< tt) s.fails),
      );
      fits = shorter cs s.front s.behind s.whole;
    }
next_by c cs false h =
    let d = after_dollar cs in
    record { piece = d.piece; rest = d.rest; begins = (first_byte 36 c cs (lit< tt) (is_same c 36 h) ∙ d.begins.0, d.begins.1); fits = d.fits }

cuts_within : (n : ℕ) (cs : List ℕ) → length cs ≤ n → (ps : List Piece) × Cuts (encode_utf8_all cs) ps []
cuts_within n [] h = ([], refl)
cuts_within zero (c ∷ cs) h = absurd (omega (arith, h))
cuts_within (suc n) (c ∷ cs) h =
    let k = next_by c cs (other_than 36 c) refl in
    let l = k.fits in
    let r = cuts_within n k.rest (omega (arith, h, l)) in
    (k.piece ∷ r.0, (encode_utf8_all k.rest, k.begins, r.1))

-- each text of characters can be cut
pub cuts : (cs : List ℕ) → (ps : List Piece) × Cuts (encode_utf8_all cs) ps []
cuts cs = cuts_within (length cs) cs (omega arith)
