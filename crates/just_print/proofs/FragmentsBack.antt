-- What is printed of the fragments of a body line is read again as fragments of the same shape.
use lib.Utf8.{scalars}
use Rattle.std.proofs.Common.{◌≡◌, ℕ, ◌==◌, Bool, true, false, not, ◌&&◌, ◌||◌, ◌⊎◌, inl, inr, ⊎_elim, List, [], ◌∷◌, ◌++◌, map, Some, codes, chars, encode_utf8_all, refl, sym, ap, ◌∙◌, subst, append_assoc}
use Rattle.std.proofs.lemmas.Bool.{false≢true}
use Rattle.std.proofs.lemmas.Str.{chars-encodes}
use Rattle.std.specs.List.{flat_map}
use Rattle.just_lang_read.specs.Place.{Place, AreMany, at, first_in, begins, begins_in, behind_text}
use Rattle.just_lang_syntax.specs.declared.ast.Expr.{Expr}
use Rattle.just_lang_syntax.specs.declared.ast.Fragment.{Fragment}
use Rattle.just_lang_syntax.specs.declared.ast.Fragment.TheVariants as fragment
use Rattle.just_lang_read.specs.Characters.{is_blank}
use Rattle.just_lang_read.specs.Lines.{ends_line, IsToken}
use Rattle.just_lang_syntax.specs.Strings.{concat}
use Rattle.just_lang_syntax.specs.Exprs.{IsExpr}
use Rattle.just_lang_syntax.specs.Bodies.{opens, is_text, IsLetter, IsFragment}
use Rattle.just_lang_syntax.specs.Bodies.IsLetter.{braces, itself}
use Rattle.just_lang_syntax.specs.Bodies.IsFragment.{text, value}
use Rattle.just_print.specs.Printed.{printed_expr, printed_fragment, doubled}
use Rattle.just_print.specs.Shapes.{bare_fragment}
use Rattle.just_print.specs.Law.{ends_in_return, fragment_returns, line_returns}
use Rattle.just_print.proofs.Places.{beyond, behind_front, token_back, beyond_run, beyond_dark, closes, Alike, one_first, both_close, alike_test}
use Rattle.just_print.proofs.WordsBack.{joined_text, plain_text, begins_first, begins_alike}
use Rattle.just_print.proofs.ExprsBack.{expr_back}
use Rattle.just_print.proofs.Scalars.{Keeps, same_keeps, text_keeps, token_keeps, many_keep, expr_keeps}
use Rattle.just_print.proofs.TextsBack.{leads, ends_in, opens_in, text_in, doubled_returns, feed_same, return_tail, letters_back}

-- ---- the ends of lines

ends_by : (a b d : Bool) → (false || (a || (b && d))) ≡ true → (a || b) ≡ true
ends_by true b d h = refl
ends_by false true d h = refl
ends_by false false d h = absurd (false≢true h)

-- where a line ends, it closes
pub ends_closes : (list : List ℕ) → ends_in list ≡ true → closes list ≡ true
ends_closes [] h = refl
ends_closes (c ∷ rest) h = ends_by (c == 10) (c == 13) (leads 10 rest) h

-- no blanks stand there
pub ends_stay : (list : List ℕ) → ends_in list ≡ true → beyond is_blank list ≡ list
ends_stay list h = beyond_run is_blank [] list (alike_test is_blank list [] refl refl (both_close (ends_closes list h) refl))

no_end_by : (a b d e : Bool) → (false || (a || (b && d))) ≡ false → (b && e) ≡ false → (false || (a || (b && e))) ≡ false
no_end_by true b d e h k = absurd (false≢true (sym h))
no_end_by false b d e h k = k

return_of : (a b d : Bool) → (false || (a || (b && d))) ≡ false → (b && d) ≡ false
return_of true b d h = absurd (false≢true (sym h))
return_of false b d h = h

dark_by : (b : Bool) (c : ℕ) (whole list other : List ℕ) → is_blank c ≡ b → ends_in (beyond is_blank (c ∷ (whole ++ list))) ≡ false
    → (ends_in_return (c ∷ whole) && leads 10 other) ≡ false
    → (ends_in (beyond is_blank (whole ++ list)) ≡ false → ends_in (beyond is_blank (whole ++ other)) ≡ false)
    → ends_in (beyond is_blank (c ∷ (whole ++ other))) ≡ false
dark_by true c whole list other e h k go = rw e (go (rw e at h))
dark_by false c whole list other e h k go =
    let from : ends_in (c ∷ (whole ++ list)) ≡ false = rw e at h in
    rw e (no_end_by (c == 10) (c == 13) (leads 10 (whole ++ list)) (leads 10 (whole ++ other)) from
    (feed_same c whole other list (return_of (c == 10) (c == 13) (leads 10 (whole ++ list)) from) k))

-- a line that isn't blank stays so where what follows its first text is no blank line where it was none
dark_text : (whole list other : List ℕ) → ends_in (beyond is_blank (whole ++ list)) ≡ false → (ends_in_return whole && leads 10 other) ≡ false
    → (ends_in (beyond is_blank list) ≡ false → ends_in (beyond is_blank other) ≡ false) → ends_in (beyond is_blank (whole ++ other)) ≡ false
dark_text [] list other h k go = go h
dark_text (c ∷ whole) list other h k go =
    dark_by (is_blank c) c whole list other refl h k (λ g. dark_text whole list other g (return_tail c whole (leads 10 other) k) go)

-- ---- fragments

-- the fragments of a line from p to its end: what is printed of them, and that it is read again before a line feed
pub record Fragments (p : Place) (xs : List Fragment) : Type 0 where
  pub letters : List ℕ
  pub encoded : flat_map printed_fragment xs ≡ encode_utf8_all letters
  pub alike : (rest : List ℕ) → Alike (letters ++ 10 ∷ rest) p.rest
  pub opened : (rest : List ℕ) → opens_in p.rest ≡ true → leads 10 (letters ++ 10 ∷ rest) ≡ false
  pub no_text : (rest : List ℕ) → text_in p.rest ≡ false → text_in (letters ++ 10 ∷ rest) ≡ false
  pub dark : (rest : List ℕ) → ends_in (beyond is_blank p.rest) ≡ false → ends_in (beyond is_blank (letters ++ 10 ∷ rest)) ≡ false
  pub again : (r : Place) (rest : List ℕ) → r.rest ≡ letters ++ 10 ∷ rest
      → (s : Place) × (ys : List Fragment) × AreMany IsFragment r s ys × (s.rest ≡ 10 ∷ rest) × (map bare_fragment ys ≡ map bare_fragment xs)

opens_ends : (a b : Bool) → (a && b) ≡ true → a ≡ true
opens_ends true b h = refl
opens_ends false b h = absurd (false≢true h)

-- where an interpolation opens, a brace comes first
opens_first : (p : Place) → opens p ≡ true → first_in p.rest ≡ Some 123
opens_first p h = begins_first 123 (codes "{") p (opens_ends (begins (codes "{{") p) (not (begins (codes "{{{{") p)) h)

brace_ends : (list : List ℕ) → first_in list ≡ Some 123 → closes list ≡ true → ⊥
brace_ends [] h k = let no : ⊥ = cc (h) in no
brace_ends (c ∷ list) h k = let e : c ≡ 123 = cc (h) in false≢true (ap (λ (d : ℕ). d == 10 || d == 13) (sym e) ∙ k)

-- where no text stands, the fragments are at their end or an interpolation opens
last_or_opens : (p q : Place) (xs : List Fragment) → AreMany IsFragment p q xs → is_text p ≡ false → (xs ≡ []) ⊎ (opens p ≡ true)
last_or_opens p q [] are n = inl refl
last_or_opens p q (x ∷ xs) (m, text letters t l d z, are) n = absurd (false≢true (sym n ∙ t))
last_or_opens p q (x ∷ xs) (m, value a b y o t i c e z, are) n = inr o

returns_more : (x : Fragment) (xs : List Fragment) → line_returns (x ∷ xs) ≡ false → line_returns xs ≡ false
returns_more x [] h = refl
returns_more x (y ∷ xs) h = h

-- text stands where its letters do
text_first : (p q r s : Place) (letters : List (List ℕ)) → AreMany IsLetter p q letters → is_text p ≡ true → is_text q ≡ false → AreMany IsLetter r s letters → is_text r ≡ true
text_first p q r s [] e t d f = absurd (false≢true (sym d ∙ (ap is_text e ∙ t)))
text_first p q r s (x ∷ xs) are t d (m, braces u b e z, others) = u
text_first p q r s (x ∷ xs) are t d (m, itself c u b f e z, others) = u

alike_text : (whole list other : List ℕ) → text_in (whole ++ other) ≡ true → text_in other ≡ false → Alike (whole ++ list) (whole ++ other)
alike_text [] list other t d = absurd (false≢true (sym d ∙ t))
alike_text (c ∷ whole) list other t d = one_first refl

-- where text stands, no interpolation opens
text_closed : (a b : Bool) → (not a && not b) ≡ true → b ≡ true → ⊥
text_closed true b h k = false≢true h
text_closed false true h k = false≢true h
text_closed false false h k = false≢true k

-- no fragments, at the line's end
none_back : (p q : Place) → q ≡ p → ends_line q ≡ true → Fragments p []
none_back p q e end =
    let ends : ends_in p.rest ≡ true = ap ends_line (sym e) ∙ end in
    record {
      letters = [];
      encoded = refl;
      alike = λ rest. both_close refl (ends_closes p.rest ends);
      opened = λ rest o. absurd (brace_ends p.rest (opens_first p o) (ends_closes p.rest ends));
      no_text = λ rest n. refl;
      dark = λ rest n. absurd (false≢true (sym n ∙ (ap ends_in (ends_stay p.rest ends) ∙ ends)));
      again = λ r rest h. (r, [], refl, h, refl);
    }

-- a text before others
text_back : (p m : Place) (letters : List (List ℕ)) (x : Fragment) (xs : List Fragment) → is_text p ≡ true → AreMany IsLetter p m letters → is_text m ≡ false
    → x ≡ fragment.Text (encode_utf8_all (concat letters)) → scalars p.rest ≡ true → (xs ≡ []) ⊎ (opens m ≡ true) → line_returns (x ∷ xs) ≡ false → Fragments m xs
    → Fragments p (x ∷ xs)
text_back p m letters x xs t are d z s ends n f =
    let l = letters_back p m letters are in
    let read : chars (encode_utf8_all (concat letters)) ≡ concat letters = chars-encodes (concat letters) (l.scalar_too s).0 in
    let made : printed_fragment x ≡ encode_utf8_all l.whole =
    ap printed_fragment z ∙ ap encode_utf8_all (ap doubled read ∙ l.written) in
    let returns : ends_in_return l.whole ≡ fragment_returns x =
    ap ends_in_return (sym l.written) ∙ (doubled_returns (concat letters) ∙ (ap ends_in_return (sym read) ∙ ap fragment_returns (sym z))) in
    let fits : (rest : List ℕ) → (ends_in_return l.whole && leads 10 (f.letters ++ 10 ∷ rest)) ≡ false = λ rest.
    ⊎_elim
    (λ (e : xs ≡ []). let no : ends_in_return l.whole ≡ false = returns ∙ (ap (λ (ys : List Fragment). line_returns (x ∷ ys)) (sym e) ∙ n) in rw no refl)
    (λ (o : opens m ≡ true). and_false (ends_in_return l.whole) (leads 10 (f.letters ++ 10 ∷ rest)) (f.opened rest o))
    ends in
    let parts : (rest : List ℕ) → (l.whole ++ f.letters) ++ 10 ∷ rest ≡ l.whole ++ (f.letters ++ 10 ∷ rest) = λ rest. append_assoc l.whole f.letters (10 ∷ rest) in
    record {
      letters = l.whole ++ f.letters;
      encoded = joined_text (printed_fragment x) (flat_map printed_fragment xs) l.whole f.letters made f.encoded;
      alike = λ rest.
          subst (λ (k : List ℕ). Alike k p.rest) (sym (parts rest))
          (subst (λ (k : List ℕ). Alike (l.whole ++ (f.letters ++ 10 ∷ rest)) k) (sym l.source)
          (alike_text l.whole (f.letters ++ 10 ∷ rest) m.rest (ap text_in (sym l.source) ∙ t) d));
      opened = λ rest o. absurd (text_closed (ends_in p.rest) (opens_in p.rest) t o);
      no_text = λ rest e. absurd (false≢true (sym e ∙ t));
      dark = λ rest e.
          ap (λ (k : List ℕ). ends_in (beyond is_blank k)) (parts rest)
          ∙ dark_text l.whole m.rest (f.letters ++ 10 ∷ rest) (ap (λ (k : List ℕ). ends_in (beyond is_blank k)) (sym l.source) ∙ e) (fits rest) (f.dark rest);
      again = λ r rest h.
          let (a, letters_are, left) =
          l.again r (f.letters ++ 10 ∷ rest) (h ∙ parts rest) (begins_alike 123 (at (f.letters ++ 10 ∷ rest) 1 1) m refl refl (f.alike rest)) (fits rest) in
          let (b, ys, others, behind, shape) = f.again a rest left in (
            b,
            x ∷ ys,
            (a, text letters (text_first p m r a letters are t d letters_are) letters_are (ap text_in left ∙ f.no_text rest d) z, others),
            behind,
            ap (λ (ws : List Fragment). bare_fragment x ∷ ws) shape,
          );
    }
  where
    and_false : (a b : Bool) → b ≡ false → (a && b) ≡ false
    and_false true b h = h
    and_false false b h = refl

-- the characters of an interpolation
abbrev in_braces : List ℕ → List ℕ
in_braces letters = codes "{{ " ++ (letters ++ codes " }}")

-- an interpolation before others
value_back : (p m n q : Place) (y : Expr) (x : Fragment) (xs : List Fragment) → opens p ≡ true → IsToken (codes "{{") p m → IsExpr m n y → begins (codes "}}") n ≡ true
    → x ≡ fragment.Value y → Fragments q xs → Fragments p (x ∷ xs)
value_back p m n q y x xs o t i b z f =
    let e = expr_back m n y i in
    let parts : (rest : List ℕ) → (in_braces e.letters ++ f.letters) ++ 10 ∷ rest ≡ codes "{{ " ++ (e.letters ++ (codes " }}" ++ (f.letters ++ 10 ∷ rest))) = λ rest.
    append_assoc (in_braces e.letters) f.letters (10 ∷ rest)
    ∙ ap (λ (k : List ℕ). codes "{{ " ++ k) (append_assoc e.letters (codes " }}") (f.letters ++ 10 ∷ rest)) in
    let made : printed_fragment x ≡ encode_utf8_all (in_braces e.letters) =
    ap printed_fragment z
    ∙ joined_text (codes "{{ ") (printed_expr y ++ codes " }}") (codes "{{ ") (e.letters ++ codes " }}") (plain_text (codes "{{ ") refl)
    (joined_text (printed_expr y) (codes " }}") e.letters (codes " }}") e.encoded (plain_text (codes " }}") refl)) in
    record {
      letters = in_braces e.letters ++ f.letters;
      encoded = joined_text (printed_fragment x) (flat_map printed_fragment xs) (in_braces e.letters) f.letters made f.encoded;
      alike = λ rest. one_first (sym (opens_first p o));
      opened = λ rest k. refl;
      no_text = λ rest k. refl;
      dark = λ rest k. refl;
      again = λ r rest h.
          let more : List ℕ = f.letters ++ 10 ∷ rest in
          let from : r.rest ≡ codes "{{ " ++ (e.letters ++ (codes " }}" ++ more)) = h ∙ parts rest in
          let (a, token, left) = token_back (codes "{{") (codes " " ++ (e.letters ++ (codes " }}" ++ more))) r from in
          let here : a.rest ≡ e.letters ++ (codes " }}" ++ more) = left ∙ beyond_dark e.letters e.head e.tail (codes " }}" ++ more) e.begins e.dark_head in
          let (c, w, is, behind, shape) = e.again a (codes " }}" ++ more) here (refl, refl) (one_first (sym (begins_first 125 (codes "}") n b))) in
          let (v, ys, others, end, same_rest) = f.again (behind_text (codes "}}") c) rest (behind_front (codes "}}") more c behind) in (
            v,
            fragment.Value w ∷ ys,
            (behind_text (codes "}}") c, value a c w (ap opens_in from) token is.1 (ap (begins_in (codes "}}")) behind) refl refl, others),
            end,
            ap (λ (k : Fragment). k ∷ map bare_fragment ys) (ap (λ (k : Expr). fragment.Value k) shape ∙ sym (ap bare_fragment z))
                ∙ ap (λ (ws : List Fragment). bare_fragment x ∷ ws) same_rest,
          );
    }

-- behind a fragment there are scalar values alone, where there are from it on
fragment_keeps : (p q : Place) (x : Fragment) → IsFragment p q x → Keeps p q
fragment_keeps p q x (text letters t are d z) s = ((letters_back p q letters are).scalar_too s).1
fragment_keeps p q x (value m n y o t i b e z) s =
    same_keeps p q (behind_text (codes "}}") n) e (λ k. text_keeps (codes "}}") n (expr_keeps m n y i (token_keeps (codes "{{") p m t k))) s

-- and behind fragments
pub fragments_keep : (p q : Place) (xs : List Fragment) → AreMany IsFragment p q xs → Keeps p q
fragments_keep p q xs are s = many_keep IsFragment fragment_keeps p q xs are s

-- the fragments of a line are printed and read with the same shape
pub fragments_back : (p q : Place) (xs : List Fragment) → AreMany IsFragment p q xs → ends_line q ≡ true → scalars p.rest ≡ true → line_returns xs ≡ false → Fragments p xs
fragments_back p q [] e end s n = none_back p q e end
fragments_back p q (x ∷ xs) (m, text letters t l d z, are) end s n =
    text_back p m letters x xs t l d z s (last_or_opens m q xs are d) n
    (fragments_back m q xs are end (fragment_keeps p m x (text letters t l d z) s) (returns_more x xs n))
fragments_back p q (x ∷ xs) (m, value a b y o t i c e z, are) end s n =
    value_back p a b m y x xs o t i c z
    (fragments_back m q xs are end (fragment_keeps p m x (value a b y o t i c e z) s) (returns_more x xs n))
