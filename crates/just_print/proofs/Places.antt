-- Texts put before others: where they end, and what is read of them.
use Rattle.std.proofs.Common.{◌≡◌, ℕ, ◌+◌, ◌==◌, ◌<◌, nat_lt, Bool, true, false, ◌&&◌, ◌||◌, if◌then◌else◌, List, [], ◌∷◌, ◌++◌, Some, encode_utf8_all, refl, sym, ap, ◌∙◌, arith}
use Rattle.std.proofs.lemmas.Bool.{false≢true, eqb-true}
use Rattle.std.proofs.lemmas.Str.{encode_ascii}
use Rattle.std.specs.List.{list_all}
use Rattle.just_lang_read.specs.Place.{Place, at, next, past, past_in, run, first, first_in, passes, begins_in, behind_text}
use Rattle.just_lang_read.proofs.Laws.{first_is}
use Rattle.just_lang_read.specs.Characters.{is_blank, in_name, is_quote}
use Rattle.just_lang_read.specs.Lines.{skip, IsToken}

-- what is left of a text behind the longest run of characters that pass the test
abbrev pub beyond : (ℕ → Bool) → List ℕ → List ℕ
beyond t [] = []
beyond t (c ∷ rest) = if t c then beyond t rest else c ∷ rest

past_pick : (t : ℕ → Bool) (a b : Bool) (p q : Place) (x : ℕ) (rest : List ℕ) (l c : ℕ) → p.rest ≡ beyond t rest → q.rest ≡ beyond t rest
    → (if a then (if b then p else q) else at (x ∷ rest) l c).rest ≡ (if a then beyond t rest else x ∷ rest)
past_pick t true true p q x rest l c h k = h
past_pick t true false p q x rest l c h k = k
past_pick t false b p q x rest l c h k = refl

past_in_rest : (t : ℕ → Bool) (list : List ℕ) (l c : ℕ) → (past_in t list l c).rest ≡ beyond t list
past_in_rest t [] l c = refl
past_in_rest t (x ∷ rest) l c =
    past_pick t (t x) (x == 10) (past_in t rest (l + 1) 1) (past_in t rest l (c + 1)) x rest l c (past_in_rest t rest (l + 1) 1) (past_in_rest t rest l (c + 1))

-- what is left behind a run
pub past_rest : (t : ℕ → Bool) (p : Place) → (past t p).rest ≡ beyond t p.rest
unfolding past
past_rest t p = past_in_rest t p.rest p.line p.column

-- a character is itself
pub same : (c : ℕ) → (c == c) ≡ true
same c = grind (arith)

-- what is left behind the first character
pub next_rest : (p : Place) (c : ℕ) (rest : List ℕ) → p.rest ≡ c ∷ rest → (next p).rest ≡ rest
next_rest p c rest h =
    let f : first p ≡ Some c = ap first_in h in
    let k : c ∷ rest ≡ c ∷ (next p).rest = sym h ∙ first_is p c f in
    cc

-- a text that was put in front comes first
pub begins_front : (text rest : List ℕ) → begins_in text (text ++ rest) ≡ true
begins_front [] rest = refl
begins_front (c ∷ text) rest = rw (same c, begins_front text rest) refl

-- and behind it the others are left
pub behind_front : (text rest : List ℕ) (p : Place) → p.rest ≡ text ++ rest → (behind_text text p).rest ≡ rest
behind_front [] rest p h = h
behind_front (c ∷ text) rest p h = behind_front text rest (next p) (next_rest p c (text ++ rest) h)

-- a mark that was put in front stands there
pub token_back : (mark rest : List ℕ) (p : Place) → p.rest ≡ mark ++ rest → (q : Place) × IsToken mark p q × (q.rest ≡ beyond is_blank rest)
token_back mark rest p h =
    (skip (behind_text mark p), (ap (begins_in mark) h ∙ begins_front mark rest, refl), past_rest is_blank (behind_text mark p) ∙ ap (beyond is_blank) (behind_front mark rest p h))

-- ---- runs

run_run_by : (b : Bool) (t : ℕ → Bool) (c : ℕ) (list rest : List ℕ) → t c ≡ b → passes t (first_in rest) ≡ false
    → run t (run t list ++ rest) ≡ run t list → run t (run t (c ∷ list) ++ rest) ≡ run t (c ∷ list)
run_run_by true t c list rest h e k = rw (h, h, k) refl
run_run_by false t c list [] h e k = rw h refl
run_run_by false t c list (d ∷ rest) h e k = rw (h, e) refl

run_nothing : (t : ℕ → Bool) (rest : List ℕ) → passes t (first_in rest) ≡ false → run t rest ≡ []
run_nothing t [] h = refl
run_nothing t (c ∷ rest) h = rw h refl

-- a run that was put before what doesn't pass is the run
pub run_run : (t : ℕ → Bool) (list rest : List ℕ) → passes t (first_in rest) ≡ false → run t (run t list ++ rest) ≡ run t list
run_run t [] rest e = run_nothing t rest e
run_run t (c ∷ list) rest e = run_run_by (t c) t c list rest refl e (run_run t list rest e)

-- nothing is dropped where no character passes
pub beyond_nothing : (t : ℕ → Bool) (rest : List ℕ) → passes t (first_in rest) ≡ false → beyond t rest ≡ rest
beyond_nothing t [] h = refl
beyond_nothing t (c ∷ rest) h = rw h refl

beyond_run_by : (b : Bool) (t : ℕ → Bool) (c : ℕ) (list rest : List ℕ) → t c ≡ b → passes t (first_in rest) ≡ false
    → beyond t (run t list ++ rest) ≡ rest → beyond t (run t (c ∷ list) ++ rest) ≡ rest
beyond_run_by true t c list rest h e k = rw (h, h, k) refl
beyond_run_by false t c list rest h e k = rw h (beyond_nothing t rest e)

-- and behind it what doesn't pass is left
pub beyond_run : (t : ℕ → Bool) (list rest : List ℕ) → passes t (first_in rest) ≡ false → beyond t (run t list ++ rest) ≡ rest
beyond_run t [] rest e = beyond_nothing t rest e
beyond_run t (c ∷ list) rest e = beyond_run_by (t c) t c list rest refl e (beyond_run t list rest e)

-- no blanks are dropped before a character that is none
pub beyond_dark : (list : List ℕ) (c : ℕ) (rest more : List ℕ) → list ≡ c ∷ rest → is_blank c ≡ false → beyond is_blank (list ++ more) ≡ list ++ more
beyond_dark list c rest more h k = rw (h, k) refl

-- ---- what follows

-- whether a line ends with the first character
abbrev pub closes : List ℕ → Bool
closes [] = true
closes (c ∷ rest) = c == 10 || c == 13

-- whether a comma or a closing parenthesis comes first
abbrev pub parts : List ℕ → Bool
parts [] = false
parts (c ∷ rest) = c == 44 || c == 41

-- two texts begin with one character, or both end a line, or, where that is asked for, each has a comma or a closing parenthesis first
pub data Likeness (parted : Bool) (list other : List ℕ) : Type 0 where
  one_first : first_in list ≡ first_in other → Likeness parted list other
  both_close : closes list ≡ true → closes other ≡ true → Likeness parted list other
  both_part : parted ≡ true → parts list ≡ true → parts other ≡ true → Likeness parted list other

-- two texts begin alike: with one character, or both end a line
abbrev pub Alike : List ℕ → List ℕ → Type 0
Alike list other = Likeness false list other

-- two texts begin alike, or each ends an argument
abbrev pub Near : List ℕ → List ℕ → Type 0
Near list other = Likeness true list other

-- texts that begin alike are near
pub widen : (list other : List ℕ) → Alike list other → Near list other
widen list other (one_first h) = one_first h
widen list other (both_close h k) = both_close h k
widen list other (both_part n h k) = absurd (false≢true n)

one_of_by : (e f : Bool) (t : ℕ → Bool) (c x y : ℕ) → t x ≡ false → t y ≡ false → (c == x) ≡ e → (c == y) ≡ f → (c == x || c == y) ≡ true → t c ≡ false
one_of_by true f t c x y a b h k g = ap t (eqb-true c x h) ∙ a
one_of_by false true t c x y a b h k g = ap t (eqb-true c y k) ∙ b
one_of_by false false t c x y a b h k g = absurd (false≢true (rw (h, k) at g))

-- no such test passes where a line ends
pub closes_test : (t : ℕ → Bool) (list : List ℕ) → t 10 ≡ false → t 13 ≡ false → closes list ≡ true → passes t (first_in list) ≡ false
closes_test t [] a b h = refl
closes_test t (c ∷ rest) a b h = one_of_by (c == 10) (c == 13) t c 10 13 a b refl refl h

-- nor where a comma or a closing parenthesis comes first
pub parts_test : (t : ℕ → Bool) (list : List ℕ) → t 44 ≡ false → t 41 ≡ false → parts list ≡ true → passes t (first_in list) ≡ false
parts_test t [] a b h = refl
parts_test t (c ∷ rest) a b h = one_of_by (c == 44) (c == 41) t c 44 41 a b refl refl h

-- a test that no line's end passes answers the same of both
pub alike_test : (t : ℕ → Bool) (list other : List ℕ) → t 10 ≡ false → t 13 ≡ false → Alike list other → passes t (first_in list) ≡ passes t (first_in other)
alike_test t list other a b (one_first h) = ap (passes t) h
alike_test t list other a b (both_close h k) = closes_test t list a b h ∙ sym (closes_test t other a b k)
alike_test t list other a b (both_part n h k) = absurd (false≢true n)

-- the same of texts that are near, where no end of an argument passes either
pub near_test : (t : ℕ → Bool) (list other : List ℕ) → t 10 ≡ false → t 13 ≡ false → t 44 ≡ false → t 41 ≡ false → Near list other
    → passes t (first_in list) ≡ passes t (first_in other)
near_test t list other a b c d (one_first h) = ap (passes t) h
near_test t list other a b c d (both_close h k) = closes_test t list a b h ∙ sym (closes_test t other a b k)
near_test t list other a b c d (both_part n h k) = parts_test t list c d h ∙ sym (parts_test t other c d k)

-- what stands directly behind a value: neither a character of a name nor a quote
abbrev pub IsApart : List ℕ → Type 0
IsApart rest = (passes in_name (first_in rest) ≡ false) × (passes is_quote (first_in rest) ≡ false)

and_self : (b : Bool) → (b && true) ≡ b
and_self true = refl
and_self false = refl

-- whether one character comes first is a test of it
pub begins_one : (c : ℕ) (list : List ℕ) → begins_in (c ∷ []) list ≡ passes (λ d. d == c) (first_in list)
begins_one c [] = refl
begins_one c (d ∷ rest) = and_self (d == c)

-- ---- tests

-- both parts of a truth are true
pub and_true : (a b : Bool) → (a && b) ≡ true → (a ≡ true) × (b ≡ true)
and_true true b h = (refl, h)
and_true false b h = absurd (false≢true h)

not_by : (b : Bool) (t : ℕ → Bool) (c d : ℕ) → (c == d) ≡ b → t c ≡ true → t d ≡ false → b ≡ false
not_by true t c d e h k = absurd (false≢true (sym k ∙ ap t (sym (eqb-true c d e)) ∙ h))
not_by false t c d e h k = refl

-- a character that passes a test is none that doesn't
pub not_that : (t : ℕ → Bool) (c d : ℕ) → t c ≡ true → t d ≡ false → (c == d) ≡ false
not_that t c d h k = not_by (c == d) t c d refl h k

-- nor a blank, where blanks don't pass
pub dark : (t : ℕ → Bool) (c : ℕ) → t c ≡ true → t 32 ≡ false → t 9 ≡ false → is_blank c ≡ false
dark t c h a b = rw (not_that t c 32 h a, not_that t c 9 h b) refl

-- whether a text has ASCII alone
abbrev pub is_plain : List ℕ → Bool
is_plain text = list_all (λ c. nat_lt c 128) text

-- such a text is its own UTF-8
pub encoded_plain : (text : List ℕ) → is_plain text ≡ true → encode_utf8_all text ≡ text
encoded_plain [] h = refl
encoded_plain (c ∷ text) h =
    let (a, b) = and_true (nat_lt c 128) (is_plain text) h in
    let low : c < 128 = grind (arith) in
    rw (encode_ascii c low, encoded_plain text b) refl
