-- Words, and what an expression begins with, where texts begin alike.
use Rattle.std.proofs.Common.{◌≡◌, ℕ, ◌==◌, Bool, true, false, not, ◌&&◌, ◌||◌, List, [], ◌∷◌, ◌++◌, Some, codes, encode_utf8_all, refl, sym, ap, ◌∙◌}
use Rattle.std.specs.List.{list_all}
use Rattle.std.proofs.lemmas.Bool.{false≢true, eqb-true}
use Rattle.std.proofs.lemmas.Str.{encodes-append}
use Rattle.just_lang_read.specs.Place.{Place, next, past, run, first, first_in, passes, starts, begins, begins_in, behind_text}
use Rattle.just_lang_read.specs.Characters.{is_blank, begins_name, in_name, is_quote}
use Rattle.just_lang_read.specs.Lines.{is_word, behind_word, IsToken, IsWord}
use Rattle.just_lang_syntax.specs.Exprs.{begins_expr, begins_condition}
use Rattle.just_print.proofs.Places.{beyond, past_rest, beyond_nothing, next_rest, begins_one, behind_front, encoded_plain, is_plain, and_true, Alike, Near, alike_test, near_test, token_back}
use Rattle.just_print.proofs.PiecesBack.{front_of}

-- ---- texts encoded

-- texts that are encoded one by one
pub joined_text : (a b x y : List ℕ) → a ≡ encode_utf8_all x → b ≡ encode_utf8_all y → a ++ b ≡ encode_utf8_all (x ++ y)
joined_text a b x y h k = ap (λ (t : List ℕ). t ++ b) h ∙ (ap (λ (t : List ℕ). encode_utf8_all x ++ t) k ∙ sym (encodes-append x y))

-- a text of ASCII is encoded as it stands
pub plain_text : (text : List ℕ) → is_plain text ≡ true → text ≡ encode_utf8_all text
plain_text text h = sym (encoded_plain text h)

-- ---- first characters

-- the first character of what begins with a text
pub begins_first : (c : ℕ) (text : List ℕ) (p : Place) → begins (c ∷ text) p ≡ true → first p ≡ Some c
begins_first c text p h = let (rest, e) = front_of (c ∷ text) p.rest h in ap first_in e

-- the first character at a mark
pub token_first : (c : ℕ) (text : List ℕ) (p q : Place) → IsToken (c ∷ text) p q → first p ≡ Some c
token_first c text p q (b, e) = begins_first c text p b

-- nor in a list
pub other_in : (c d : ℕ) (text list : List ℕ) → first_in list ≡ Some c → (c == d) ≡ false → begins_in (d ∷ text) list ≡ false
other_in c d text [] h n = refl
other_in c d text (x ∷ list) h n = let k : x ≡ c = cc in rw (k, n) refl

-- a text doesn't come first where another character does
pub begins_other : (c d : ℕ) (text : List ℕ) (p : Place) → first p ≡ Some c → (c == d) ≡ false → begins (d ∷ text) p ≡ false
begins_other c d text p h n = other_in c d text p.rest h n

-- no condition begins with another character than `i`
pub no_if : (c : ℕ) (p : Place) → first p ≡ Some c → (c == 105) ≡ false → begins_condition p ≡ false
no_if c p h n = rw (begins_other c 105 (102 ∷ []) p h n) refl

-- a test of one character is the same of texts that begin alike
pub begins_alike : (c : ℕ) (p q : Place) → (10 == c) ≡ false → (13 == c) ≡ false → Alike p.rest q.rest → begins (c ∷ []) p ≡ begins (c ∷ []) q
begins_alike c p q a b h = begins_one c p.rest ∙ (alike_test (λ d. d == c) p.rest q.rest a b h ∙ sym (begins_one c q.rest))

-- the same of texts that are near
pub begins_near : (c : ℕ) (p q : Place) → (10 == c) ≡ false → (13 == c) ≡ false → (44 == c) ≡ false → (41 == c) ≡ false → Near p.rest q.rest
    → begins (c ∷ []) p ≡ begins (c ∷ []) q
begins_near c p q a b d e h = begins_one c p.rest ∙ (near_test (λ d. d == c) p.rest q.rest a b d e h ∙ sym (begins_one c q.rest))

-- whether an expression begins is the same of places that begin alike
pub expr_alike : (p q : Place) → Near p.rest q.rest → begins_expr p ≡ begins_expr q
expr_alike p q h =
    ap (λ (b : Bool). b || (starts is_quote p || (begins (codes "(") p || begins (codes "/") p))) (near_test begins_name p.rest q.rest refl refl refl refl h)
    ∙ (ap (λ (b : Bool). starts begins_name q || (b || (begins (codes "(") p || begins (codes "/") p))) (near_test is_quote p.rest q.rest refl refl refl refl h)
    ∙ (ap (λ (b : Bool). starts begins_name q || (starts is_quote q || (b || begins (codes "/") p))) (begins_near 40 p q refl refl refl refl h)
    ∙ ap (λ (b : Bool). starts begins_name q || (starts is_quote q || (begins (codes "(") q || b))) (begins_near 47 p q refl refl refl refl h)))

-- ---- words

-- a text without as many characters as the word has
abbrev pub less : List ℕ → List ℕ → List ℕ
less [] list = list
less (c ∷ word) [] = []
less (c ∷ word) (d ∷ list) = less word list

less_nothing : (word : List ℕ) → less word [] ≡ []
less_nothing [] = refl
less_nothing (c ∷ word) = refl

next_nothing : (p : Place) → p.rest ≡ [] → (next p).rest ≡ []
unfolding next
next_nothing p h = rw h refl

-- what is left behind a word
pub behind_less : (word list : List ℕ) (p : Place) → p.rest ≡ list → (behind_text word p).rest ≡ less word list
behind_less [] list p h = h
behind_less (c ∷ word) [] p h = behind_less word [] (next p) (next_nothing p h) ∙ less_nothing word
behind_less (c ∷ word) (d ∷ list) p h = behind_less word list (next p) (next_rest p d list h)

-- whether a word stands at the front of a text, whole
abbrev pub word_in : List ℕ → List ℕ → Bool
word_in word list = begins_in word list && not (passes in_name (first_in (less word list)))

-- whether a word stands at a place is what the text from there says
pub is_word_in : (word : List ℕ) (p : Place) → is_word word p ≡ word_in word p.rest
is_word_in word p = ap (λ (list : List ℕ). begins word p && not (passes in_name (first_in list))) (behind_less word p.rest p refl)

other_by : (b : Bool) (c d : ℕ) → (d == c) ≡ b → in_name c ≡ true → in_name d ≡ false → b ≡ false
other_by true c d e h k = absurd (false≢true (sym k ∙ ap in_name (eqb-true d c e) ∙ h))
other_by false c d e h k = refl

other_name : (c d : ℕ) → in_name c ≡ true → in_name d ≡ false → (d == c) ≡ false
other_name c d h k = other_by (d == c) c d refl h k

differs : (c : ℕ) (word list : List ℕ) → in_name c ≡ true → passes in_name (first_in list) ≡ false → word_in (c ∷ word) list ≡ false
differs c word [] h k = refl
differs c word (d ∷ list) h k = rw (other_name c d h k) refl

and_and : (a b c : Bool) → ((a && b) && c) ≡ (a && (b && c))
and_and true b c = refl
and_and false b c = refl

no_letters : (b : Bool) (d : ℕ) (list rest : List ℕ) → in_name d ≡ b → passes in_name (first_in rest) ≡ false
    → passes in_name (first_in (run in_name (d ∷ list) ++ rest)) ≡ in_name d
no_letters true d list rest h k = rw h h
no_letters false d list rest h k = rw h k

same_by : (b : Bool) (c d : ℕ) (word list rest : List ℕ) → in_name d ≡ b → in_name c ≡ true → passes in_name (first_in rest) ≡ false
    → word_in word (run in_name list ++ rest) ≡ word_in word list → word_in (c ∷ word) (run in_name (d ∷ list) ++ rest) ≡ word_in (c ∷ word) (d ∷ list)
same_by true c d word list rest h n k e =
    let l : List ℕ = run in_name list ++ rest in
    rw h (and_and (d == c) (begins_in word l) (not (passes in_name (first_in (less word l))))
    ∙ (ap (λ (b : Bool). d == c && b) e ∙ sym (and_and (d == c) (begins_in word list) (not (passes in_name (first_in (less word list)))))))
same_by false c d word list rest h n k e = rw (h, differs c word rest n k, other_name c d n h) refl

-- a word stands at the front of a run of characters of names, whatever follows it, exactly where it stood before
pub same_words : (word list rest : List ℕ) → list_all in_name word ≡ true → passes in_name (first_in rest) ≡ false
    → word_in word (run in_name list ++ rest) ≡ word_in word list
same_words [] [] rest h k = rw k refl
same_words [] (d ∷ list) rest h k = ap not (no_letters (in_name d) d list rest refl k)
same_words (c ∷ word) [] rest h k = differs c word rest (and_true (in_name c) (list_all in_name word) h).0 k
same_words (c ∷ word) (d ∷ list) rest h k =
    let (a, b) = and_true (in_name c) (list_all in_name word) h in
    same_by (in_name d) c d word list rest refl a k (same_words word list rest b k)

-- ---- the word that stands somewhere

-- a word that was put in front of what is no part of a name stands there
pub word_back : (word rest : List ℕ) (p : Place) → p.rest ≡ word ++ rest → passes in_name (first_in rest) ≡ false
    → (q : Place) × IsWord word p q × (q.rest ≡ beyond is_blank rest)
word_back word rest p h k =
    let (q, t, left) = token_back word rest p h in
    let stops : starts in_name (behind_text word p) ≡ false = ap (λ (list : List ℕ). passes in_name (first_in list)) (behind_front word rest p h) ∙ k in
    (q, (rw (t.0, stops) refl, t.1), left)

not_true : (b : Bool) → not b ≡ true → b ≡ false
not_true true h = absurd (false≢true h)
not_true false h = refl

-- behind the word `if` the same is left, whether it is taken as a word or as a name
pub behind_if : (p m : Place) → is_word (codes "if") p ≡ true → IsToken (codes "if") p m → (behind_word p).rest ≡ m.rest
behind_if p m h t =
    let (a, b) = and_true (begins (codes "if") p) (not (starts in_name (behind_text (codes "if") p))) h in
    let (rest, e) = front_of (codes "if") p.rest a in
    let left : (behind_text (codes "if") p).rest ≡ rest = behind_front (codes "if") rest p e in
    let stops : passes in_name (first_in rest) ≡ false =
    ap (λ (list : List ℕ). passes in_name (first_in list)) (sym left) ∙ not_true (starts in_name (behind_text (codes "if") p)) b in
    let name : (past in_name p).rest ≡ rest = past_rest in_name p ∙ (ap (beyond in_name) e ∙ beyond_nothing in_name rest stops) in
    past_rest is_blank (past in_name p) ∙ (ap (beyond is_blank) (name ∙ sym left)
    ∙ (sym (past_rest is_blank (behind_text (codes "if") p)) ∙ ap (λ (q : Place). q.rest) (sym t.1)))
