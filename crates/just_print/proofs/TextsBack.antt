-- What is printed of a text of a body is what stands there, and is read again as its letters.
use lib.Utf8.{scalar, scalars, low_scalar}
use Rattle.std.proofs.Common.{◌≡◌, ℕ, ◌==◌, Bool, true, false, not, ◌&&◌, ◌||◌, List, [], ◌∷◌, ◌++◌, codes, refl, sym, ap, ◌∙◌, arith}
use Rattle.std.proofs.lemmas.Bool.{false≢true, eqb-true}
use Rattle.just_lang_read.specs.Place.{Place, AreMany, next, first_in, passes, begins_in, behind_text, is_empty}
use Rattle.just_lang_read.proofs.Laws.{first_is}
use Rattle.just_lang_read.specs.Lines.{crlf}
use Rattle.just_lang_syntax.specs.Strings.{concat}
use Rattle.just_lang_syntax.specs.Bodies.{is_text, IsLetter}
use Rattle.just_lang_syntax.specs.Bodies.IsLetter.{braces, itself}
use Rattle.just_print.specs.Printed.{doubled}
use Rattle.just_print.specs.Law.{ends_in_return}
use Rattle.just_print.proofs.Places.{next_rest, behind_front, and_true}
use Rattle.just_print.proofs.PiecesBack.{front_of}

-- ---- where text stands

-- whether a text begins with that character
abbrev pub leads : ℕ → List ℕ → Bool
leads c list = begins_in (c ∷ []) list

-- whether a line or the text ends in front of these characters
abbrev pub ends_in : List ℕ → Bool
ends_in list = is_empty list || (passes (λ d. d == 10) (first_in list) || begins_in crlf list)

-- whether an interpolation opens in front of them
abbrev pub opens_in : List ℕ → Bool
opens_in list = begins_in (codes "{{") list && not (begins_in (codes "{{{{") list)

-- whether text stands there
abbrev pub text_in : List ℕ → Bool
text_in list = not (ends_in list) && not (opens_in list)

facts_by : (a b d e : Bool) → (not (false || (a || b)) && not (d && not e)) ≡ true → e ≡ false → (a ≡ false) × (b ≡ false) × (d ≡ false)
facts_by true b d e h k = absurd (false≢true h)
facts_by false true d e h k = absurd (false≢true h)
facts_by false false d true h k = absurd (false≢true (sym k))
facts_by false false true false h k = absurd (false≢true h)
facts_by false false false false h k = (refl, refl, refl)

-- what a letter that stands for itself isn't
text_facts : (c : ℕ) (list : List ℕ) → text_in (c ∷ list) ≡ true → begins_in (codes "{{{{") (c ∷ list) ≡ false
    → ((c == 10) ≡ false) × ((c == 13 && leads 10 list) ≡ false) × ((c == 123 && leads 123 list) ≡ false)
text_facts c list h k = facts_by (c == 10) (c == 13 && leads 10 list) (c == 123 && leads 123 list) (begins_in (codes "{{{{") (c ∷ list)) h k

four_by : (b : Bool) (list : List ℕ) → (b && leads 123 list) ≡ false → (b && begins_in (codes "{{{") list) ≡ false
four_by false list h = refl
four_by true [] h = refl
four_by true (d ∷ list) h = two_by (d == 123) (begins_in (codes "{{") list) h
  where
    two_by : (b e : Bool) → (b && true) ≡ false → (b && e) ≡ false
    two_by true e h = absurd (false≢true (sym h))
    two_by false e h = refl

-- and what isn't that is one
text_made : (c : ℕ) (list : List ℕ) → (c == 10) ≡ false → (c == 13 && leads 10 list) ≡ false → (c == 123 && leads 123 list) ≡ false
    → (text_in (c ∷ list) ≡ true) × (begins_in (codes "{{{{") (c ∷ list) ≡ false)
text_made c list a b e = (made_by (c == 10) (c == 13 && leads 10 list) (c == 123 && leads 123 list) (begins_in (codes "{{{{") (c ∷ list)) a b e, four_by (c == 123) list e)
  where
    made_by : (a b d e : Bool) → a ≡ false → b ≡ false → d ≡ false → (not (false || (a || b)) && not (d && not e)) ≡ true
    made_by a b d e h k l = rw (h, k, l) refl

-- ---- braces that are doubled

head_by : (a b : Bool) (d e : ℕ) (list : List ℕ) → (d == 123) ≡ a → (e == 123) ≡ b → (more : List ℕ) × (doubled (d ∷ e ∷ list) ≡ d ∷ more)
head_by true true d e list h k =
    (codes "{{{" ++ doubled list, rw (h, k) (ap (λ (c : ℕ). c ∷ (codes "{{{" ++ doubled list)) (sym (eqb-true d 123 h))))
head_by true false d e list h k = (doubled (e ∷ list), rw (h, k) refl)
head_by false b d e list h k = (doubled (e ∷ list), rw h refl)

-- the first character stays the first
pub doubled_head : (d : ℕ) (list : List ℕ) → (more : List ℕ) × (doubled (d ∷ list) ≡ d ∷ more)
doubled_head d [] = ([], refl)
doubled_head d (e ∷ list) = head_by (d == 123) (e == 123) d e list refl refl

and_alone : (a b : Bool) → (a && (b && true)) ≡ (a && b)
and_alone true true = refl
and_alone true false = refl
and_alone false b = refl

-- a character that isn't the first of two braces stands for itself
doubled_one : (c : ℕ) (list whole rest : List ℕ) → doubled list ≡ whole → (c == 123 && leads 123 (whole ++ rest)) ≡ false → doubled (c ∷ list) ≡ c ∷ whole
doubled_one c [] whole rest h k = ap (λ (l : List ℕ). c ∷ l) h
doubled_one c (d ∷ list) whole rest h k =
    let (more, e) = doubled_head d list in
    let n : (c == 123 && d == 123) ≡ false =
    sym (and_alone (c == 123) (d == 123)) ∙ (ap (λ (l : List ℕ). c == 123 && leads 123 (l ++ rest)) (sym e ∙ h) ∙ k) in
    rw n (ap (λ (l : List ℕ). c ∷ l) h)

returns_by : (a b : Bool) (c d : ℕ) (list : List ℕ) → (c == 123) ≡ a → (d == 123) ≡ b → ends_in_return (doubled list) ≡ ends_in_return list
    → ends_in_return (doubled (d ∷ list)) ≡ ends_in_return (d ∷ list) → ends_in_return (doubled (c ∷ d ∷ list)) ≡ ends_in_return (c ∷ d ∷ list)
returns_by true true c d [] h k i j = rw (h, k) (ap (λ (x : ℕ). x == 13) (sym (eqb-true d 123 k)))
returns_by true true c d (e ∷ list) h k i j =
    let (more, z) = doubled_head e list in
    rw (h, k) (ap (λ (l : List ℕ). ends_in_return (codes "{{{{" ++ l)) z ∙ (ap ends_in_return (sym z) ∙ i))
returns_by true false c d list h k i j =
    let (more, z) = doubled_head d list in rw (h, k) (ap (λ (l : List ℕ). ends_in_return (c ∷ l)) z ∙ (ap ends_in_return (sym z) ∙ j))
returns_by false b c d list h k i j =
    let (more, z) = doubled_head d list in rw h (ap (λ (l : List ℕ). ends_in_return (c ∷ l)) z ∙ (ap ends_in_return (sym z) ∙ j))

-- the last one stays the last, if it is a carriage return
pub doubled_returns : (list : List ℕ) → ends_in_return (doubled list) ≡ ends_in_return list
doubled_returns [] = refl
doubled_returns (c ∷ []) = refl
doubled_returns (c ∷ d ∷ list) = returns_by (c == 123) (d == 123) c d list refl refl (doubled_returns list) (doubled_returns (d ∷ list))

-- ---- what follows

leads_same : (c : ℕ) (whole list other : List ℕ) → leads c list ≡ leads c other → leads c (whole ++ list) ≡ leads c (whole ++ other)
leads_same c [] list other h = h
leads_same c (d ∷ whole) list other h = refl

-- what stands before a line feed
pub feed_same : (c : ℕ) (whole list other : List ℕ) → (c == 13 && leads 10 (whole ++ other)) ≡ false → (ends_in_return (c ∷ whole) && leads 10 list) ≡ false
    → (c == 13 && leads 10 (whole ++ list)) ≡ false
feed_same c [] list other h k = k
feed_same c (d ∷ whole) list other h k = h

pub return_tail : (c : ℕ) (whole : List ℕ) (b : Bool) → (ends_in_return (c ∷ whole) && b) ≡ false → (ends_in_return whole && b) ≡ false
return_tail c [] b h = refl
return_tail c (d ∷ whole) b h = h

-- ---- letters

-- letters from p to q: they are printed as what stands there, and wherever that stands before something that opens or not as what follows
-- does, and that is no line feed where it ends in a carriage return, these letters are read
pub record Letters (p q : Place) (letters : List (List ℕ)) : Type 0 where
  pub whole : List ℕ
  pub source : p.rest ≡ whole ++ q.rest
  pub written : doubled (concat letters) ≡ whole
  pub scalar_too : scalars p.rest ≡ true → (scalars (concat letters) ≡ true) × (scalars q.rest ≡ true)
  pub again : (r : Place) (rest : List ℕ) → r.rest ≡ whole ++ rest → leads 123 rest ≡ leads 123 q.rest → (ends_in_return whole && leads 10 rest) ≡ false
      → (s : Place) × AreMany IsLetter r s letters × (s.rest ≡ rest)

-- a letter that stands for itself, before others
itself_back : (p m q : Place) (c : ℕ) (x : List ℕ) (xs : List (List ℕ)) → is_text p ≡ true → begins_in (codes "{{{{") p.rest ≡ false → p.rest ≡ c ∷ m.rest
    → x ≡ c ∷ [] → Letters m q xs → Letters p q (x ∷ xs)
itself_back p m q c x xs t b e z l =
    let from : p.rest ≡ c ∷ (l.whole ++ q.rest) = e ∙ ap (λ (k : List ℕ). c ∷ k) l.source in
    let (no_feed, no_return, no_brace) = text_facts c (l.whole ++ q.rest) (ap text_in (sym from) ∙ t) (ap (begins_in (codes "{{{{")) (sym from) ∙ b) in
    record {
      whole = c ∷ l.whole;
      source = from;
      written = ap (λ (k : List ℕ). doubled (k ++ concat xs)) z ∙ doubled_one c (concat xs) l.whole q.rest l.written no_brace;
      scalar_too = λ s.
          let (a, more) = and_true (scalar c) (scalars m.rest) (ap scalars (sym e) ∙ s) in
          let (inside, behind) = l.scalar_too more in
          let all : scalars (c ∷ concat xs) ≡ true = rw (a, inside) refl in
          (ap (λ (k : List ℕ). scalars (k ++ concat xs)) z ∙ all, behind);
      again = λ r rest h f g.
          let left : (next r).rest ≡ l.whole ++ rest = next_rest r c (l.whole ++ rest) h in
          let brace : (c == 123 && leads 123 (l.whole ++ rest)) ≡ false = ap (λ (v : Bool). c == 123 && v) (leads_same 123 l.whole rest q.rest f) ∙ no_brace in
          let (stands, four) = text_made c (l.whole ++ rest) no_feed (feed_same c l.whole rest q.rest no_return g) brace in
          let (s, are, behind) = l.again (next r) rest left f (return_tail c l.whole (leads 10 rest) g) in
          (s, (next r, itself c (ap text_in h ∙ stands) (ap (begins_in (codes "{{{{")) h ∙ four) (ap first_in h) refl z, are), behind);
    }

-- four braces, before others
braces_back : (p m q : Place) (x : List ℕ) (xs : List (List ℕ)) → p.rest ≡ codes "{{{{" ++ m.rest → x ≡ codes "{{" → Letters m q xs → Letters p q (x ∷ xs)
braces_back p m q x xs e z l =
    record {
      whole = codes "{{{{" ++ l.whole;
      source = e ∙ ap (λ (k : List ℕ). codes "{{{{" ++ k) l.source;
      written = ap (λ (k : List ℕ). doubled (k ++ concat xs)) z ∙ ap (λ (k : List ℕ). codes "{{{{" ++ k) l.written;
      scalar_too = λ s.
          let brace : scalar 123 ≡ true = low_scalar 123 (omega arith) in
          let all : scalars (codes "{{{{" ++ m.rest) ≡ true = ap scalars (sym e) ∙ s in
          let (a, one) = and_true (scalar 123) (scalars (codes "{{{" ++ m.rest)) all in
          let (b, two) = and_true (scalar 123) (scalars (codes "{{" ++ m.rest)) one in
          let (d, three) = and_true (scalar 123) (scalars (codes "{" ++ m.rest)) two in
          let (f, more) = and_true (scalar 123) (scalars m.rest) three in
          let (inside, behind) = l.scalar_too more in
          let whole_too : scalars (codes "{{" ++ concat xs) ≡ true = rw (brace, brace, inside) refl in
          (ap (λ (k : List ℕ). scalars (k ++ concat xs)) z ∙ whole_too, behind);
      again = λ r rest h f g.
          let left : (behind_text (codes "{{{{") r).rest ≡ l.whole ++ rest = behind_front (codes "{{{{") (l.whole ++ rest) r h in
          let b = leads 10 rest in
          let less : (ends_in_return l.whole && b) ≡ false =
          return_tail 123 l.whole b (return_tail 123 (codes "{" ++ l.whole) b (return_tail 123 (codes "{{" ++ l.whole) b (return_tail 123 (codes "{{{" ++ l.whole) b g))) in
          let (s, are, behind) = l.again (behind_text (codes "{{{{") r) rest left f less in
          (s, (behind_text (codes "{{{{") r, braces (ap text_in h) (ap (begins_in (codes "{{{{")) h) refl z, are), behind);
    }

-- the letters of a text are printed and read as they are
pub letters_back : (p q : Place) (letters : List (List ℕ)) → AreMany IsLetter p q letters → Letters p q letters
letters_back p q [] e =
    record {
      whole = [];
      source = ap (λ (m : Place). m.rest) (sym e);
      written = refl;
      scalar_too = λ s. (refl, ap (λ (m : Place). scalars m.rest) e ∙ s);
      again = λ r rest h f g. (r, refl, h);
    }
letters_back p q (x ∷ xs) (m, braces t b e z, are) =
    let (rest, h) = front_of (codes "{{{{") p.rest b in
    let k : m.rest ≡ rest = ap (λ (n : Place). n.rest) e ∙ behind_front (codes "{{{{") rest p h in
    braces_back p m q x xs (h ∙ ap (λ (l : List ℕ). codes "{{{{" ++ l) (sym k)) z (letters_back m q xs are)
letters_back p q (x ∷ xs) (m, itself c t b f e z, are) =
    itself_back p m q c x xs t b (first_is p c f ∙ ap (λ (n : Place). c ∷ n.rest) (sym e)) z (letters_back m q xs are)
