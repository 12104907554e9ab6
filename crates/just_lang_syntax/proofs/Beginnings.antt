-- What the first characters of strings and words exclude.
use Rattle.std.proofs.Common.{◌≡◌, ℕ, ◌==◌, Bool, true, false, not, ◌&&◌, if◌then◌else◌, List, [], ◌∷◌, refl, sym, ap, ◌∙◌, subst}
use Rattle.std.proofs.lemmas.Bool.{false≢true}
use Rattle.just_lang_read.specs.Place.{Place, next, past, starts, sees, begins, begins_in, behind_text}
use Rattle.just_lang_read.proofs.Laws.{past_next, past_stays, first_is, sees_first}
use Rattle.just_lang_read.specs.Characters.{in_name, is_quote}
use Rattle.just_lang_read.specs.Lines.{skip, behind_word, IsWord}
use Rattle.just_lang_read.specs.Quotes.{begins_string}
use Rattle.just_lang_read.proofs.Laws.{and_true, begins_first, begins_starts, begins_other, starts_other}

-- what isn't so is false
pub not_true : (b : Bool) → not b ≡ true → b ≡ false
not_true true h = absurd (false≢true h)
not_true false h = refl

-- no string begins where no quote stands and no `x`
no_string_if : (b : Bool) (p : Place) → sees 120 p ≡ b → b ≡ false → starts is_quote p ≡ false → starts is_quote (if b then next p else p) ≡ false
no_string_if false p e f n = n
no_string_if true p e f n = absurd (false≢true (sym f))

-- no string begins with this character
pub no_string : (c : ℕ) (text : List ℕ) (p : Place) → begins (c ∷ text) p ≡ true → (c == 120) ≡ false → is_quote c ≡ false → begins_string p ≡ false
no_string c text p h x n =
    no_string_if (sees 120 p) p refl (begins_starts (λ d. d == 120) c text p h ∙ x) (begins_starts is_quote c text p h ∙ n)

-- where a quote stands, behind an `x` or not, another text doesn't come first
string_if : (d : ℕ) (text : List ℕ) (b : Bool) (p : Place) → sees 120 p ≡ b → (120 == d) ≡ false → is_quote d ≡ false
    → starts is_quote (if b then next p else p) ≡ true → begins (d ∷ text) p ≡ false
string_if d text true p e x n h = begins_other 120 d text p (sees_first 120 p e) x
string_if d text false p e x n h = starts_other is_quote d text p h n

-- where a string begins, this text doesn't
pub string_other : (d : ℕ) (text : List ℕ) (p : Place) → begins_string p ≡ true → (120 == d) ≡ false → is_quote d ≡ false → begins (d ∷ text) p ≡ false
string_other d text p h x n = string_if d text (sees 120 p) p refl x n h

-- behind its first character a text goes on, over lists
next_of : (c : ℕ) (text rest more : List ℕ) → rest ≡ c ∷ more → begins_in (c ∷ text) rest ≡ true → begins_in text more ≡ true
next_of c text rest more e h =
    let k : begins_in (c ∷ text) (c ∷ more) ≡ true = subst (λ (r : List ℕ). begins_in (c ∷ text) r ≡ true) e h in
    (and_true (c == c) (begins_in text more) k).1

-- behind its first character a text goes on
pub begins_next : (c : ℕ) (text : List ℕ) (p : Place) → begins (c ∷ text) p ≡ true → begins text (next p) ≡ true
begins_next c text p h = next_of c text p.rest (next p).rest (first_is p c (begins_first c text p h)) h

-- whether a name may hold all these characters
abbrev pub all_in_name : List ℕ → Bool
all_in_name [] = true
all_in_name (c ∷ text) = in_name c && all_in_name text

-- a word with nothing of a name behind it is the run of a name's characters
word_run : (text : List ℕ) (p : Place) → all_in_name text ≡ true → begins text p ≡ true → starts in_name (behind_text text p) ≡ false → past in_name p ≡ behind_text text p
word_run [] p a b s = past_stays in_name p s
word_run (c ∷ text) p a b s =
    let (i, more) = and_true (in_name c) (all_in_name text) a in
    sym (past_next in_name p (begins_starts in_name c text p b ∙ i)) ∙ word_run text (next p) more (begins_next c text p b) s

-- a whole word is the run of a name's characters
pub word_behind : (text : List ℕ) (p q : Place) → all_in_name text ≡ true → IsWord text p q → behind_word p ≡ q
word_behind text p q a (w, e) =
    let (b, s) = and_true (begins text p) (not (starts in_name (behind_text text p))) w in
    ap skip (word_run text p a b (not_true (starts in_name (behind_text text p)) s)) ∙ sym e

-- a whole word comes first
pub word_begins : (text : List ℕ) (p q : Place) → IsWord text p q → begins text p ≡ true
word_begins text p q (w, e) = (and_true (begins text p) (not (starts in_name (behind_text text p))) w).0

-- nothing and a falsehood hold together
pub and_false : (b : Bool) → (b && false) ≡ false
and_false true = refl
and_false false = refl
