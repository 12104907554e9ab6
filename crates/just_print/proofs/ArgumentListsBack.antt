-- What is printed of the arguments of an attribute in parentheses is read again; a comma before the closing parenthesis is dropped.
use Rattle.std.proofs.Common.{◌≡◌, ℕ, Bool, true, false, not, ◌&&◌, List, [], ◌∷◌, ◌++◌, map, Some, codes, encode_utf8_all, refl, sym, ap, ◌∙◌, subst, append_assoc}
use Rattle.std.proofs.lemmas.Bool.{false≢true}
use Rattle.std.proofs.lemmas.List.{map-append}
use Rattle.just_lang_read.specs.Place.{Place, next, first, first_in, begins}
use Rattle.just_lang_syntax.specs.declared.ast.Argument.{Argument}
use Rattle.just_lang_syntax.specs.declared.form.Form.{Form}
use Rattle.just_lang_read.specs.Characters.{is_blank}
use Rattle.just_lang_read.specs.Lines.{skip, IsToken}
use Rattle.just_lang_syntax.specs.Attributes.{IsArgument, goes_on, AreFurther, IsTrailing, AreArguments}
use Rattle.just_lang_syntax.specs.Attributes.IsTrailing.{comma, nothing}
use Rattle.just_lang_syntax.specs.Attributes.AreArguments.{in_parentheses}
use Rattle.just_print.specs.Printed.{led, printed_argument, behind_attribute}
use Rattle.just_print.specs.Shapes.{bare_argument}
use Rattle.just_print.proofs.Places.{beyond, beyond_dark, and_true, parts, Near, one_first, both_part, IsApart, token_back}
use Rattle.just_print.proofs.NamesBack.{Back}
use Rattle.just_print.proofs.WordsBack.{joined_text, plain_text, begins_first, token_first, begins_other, begins_alike}
use Rattle.just_print.proofs.KeysBack.{argument_behind}
use Rattle.just_print.proofs.ArgumentsBack.{argument_back}

-- ---- what stands behind an argument

-- a text of which the first character ends an argument
parts_first : (list : List ℕ) (c : ℕ) → first_in list ≡ Some c → parts (c ∷ []) ≡ true → parts list ≡ true
parts_first [] c h k = absurd (let no : ⊥ = cc (h) in no)
parts_first (d ∷ list) c h k = let e : d ≡ c = cc (h) in ap (λ (x : ℕ). parts (x ∷ [])) e ∙ k

-- a comma ends an argument
comma_parts : (p : Place) → begins (codes ",") p ≡ true → parts p.rest ≡ true
comma_parts p h = parts_first p.rest 44 (begins_first 44 [] p h) refl

-- behind arguments a comma or the closing parenthesis stands
trailing_parts : (p q r : Place) → IsTrailing p q → IsToken (codes ")") q r → parts p.rest ≡ true
trailing_parts p q r (comma t) u = comma_parts p t.0
trailing_parts p q r (nothing b e) u = parts_first p.rest 41 (ap first (sym e) ∙ token_first 41 [] q r u) refl

-- and so it is behind each of them
further_parts : (form : Form) (earlier : List Argument) (p q : Place) (xs : List Argument) → AreFurther form earlier p q xs → parts q.rest ≡ true → parts p.rest ≡ true
further_parts form earlier p q [] (g, e) c = ap (λ (r : Place). parts r.rest) (sym e) ∙ c
further_parts form earlier p q (x ∷ xs) (m, n, g, t, i, are) c = comma_parts p t.0

-- arguments of the same shape with one more of the same shape
added : (others earlier : List Argument) (y x : Argument) → map bare_argument others ≡ map bare_argument earlier → bare_argument y ≡ bare_argument x
    → map bare_argument (others ++ y ∷ []) ≡ map bare_argument (earlier ++ x ∷ [])
added others earlier y x h k =
    map-append bare_argument others (y ∷ [])
    ∙ (ap (λ (l : List Argument). l ++ bare_argument y ∷ []) h
    ∙ (ap (λ (a : Argument). map bare_argument earlier ++ a ∷ []) k ∙ sym (map-append bare_argument earlier (x ∷ []))))

-- ---- arguments behind commas

-- arguments behind others, before the parenthesis that closes them
record FurtherBack (form : Form) (earlier xs : List Argument) : Type 0 where
  letters : List ℕ
  encoded : led (codes ", ") (map printed_argument xs) ≡ encode_utf8_all letters
  apart : (rest : List ℕ) → IsApart (letters ++ (codes ")" ++ rest))
  part : (rest : List ℕ) → parts (letters ++ (codes ")" ++ rest)) ≡ true
  dark : (rest : List ℕ) → beyond is_blank (letters ++ (codes ")" ++ rest)) ≡ letters ++ (codes ")" ++ rest)
  again : (others : List Argument) → map bare_argument others ≡ map bare_argument earlier → (s : Place) (rest : List ℕ) → s.rest ≡ letters ++ (codes ")" ++ rest)
      → (t : Place) × (ys : List Argument) × AreFurther form others s t ys × (t.rest ≡ codes ")" ++ rest) × (map bare_argument ys ≡ map bare_argument xs)

-- whether the closing parenthesis comes first is the same of texts that begin with one character
closing_alike : (p q : Place) → first p ≡ first q → begins (codes ")") p ≡ begins (codes ")") q
closing_alike p q h = begins_alike 41 p q refl refl (one_first h)

-- what is not so is false
not_true : (b : Bool) → not b ≡ true → b ≡ false
not_true true h = absurd (false≢true h)
not_true false h = refl

-- arguments behind others are printed and read with the same shape
further_back : (form : Form) (earlier : List Argument) (p q : Place) (xs : List Argument) → AreFurther form earlier p q xs → parts q.rest ≡ true → FurtherBack form earlier xs
further_back form earlier p q [] are c =
    record {
      letters = [];
      encoded = refl;
      apart = λ rest. (refl, refl);
      part = λ rest. refl;
      dark = λ rest. refl;
      again = λ others same s rest h.
          let stops : goes_on s ≡ false = ap (λ (b : Bool). b && not (begins (codes ")") (skip (next s)))) (begins_other 41 44 [] s (ap first_in h) refl) in
          (s, [], (stops, refl), h, refl);
    }
further_back form earlier p q (x ∷ xs) (m, n, g, t, i, are) c =
    let b : Back (IsArgument form earlier) bare_argument m n x (printed_argument x) =
    argument_back form earlier m n x (further_parts form (earlier ++ x ∷ []) n q xs are c) i in
    let O : FurtherBack form (earlier ++ x ∷ []) xs = further_back form (earlier ++ x ∷ []) n q xs are c in
    let others_text : List ℕ = led (codes ", ") (map printed_argument xs) in
    record {
      letters = codes ", " ++ (b.letters ++ O.letters);
      encoded = joined_text (codes ", ") (printed_argument x ++ others_text) (codes ", ") (b.letters ++ O.letters) (plain_text (codes ", ") refl)
          (joined_text (printed_argument x) others_text b.letters O.letters b.encoded O.encoded);
      apart = λ rest. (refl, refl);
      part = λ rest. refl;
      dark = λ rest. refl;
      again = λ others same s rest h.
          let r1 : List ℕ = O.letters ++ (codes ")" ++ rest) in
          let (m2, t2, l1) = token_back (codes ",") (codes " " ++ ((b.letters ++ O.letters) ++ (codes ")" ++ rest))) s h in
          let start : m2.rest ≡ b.letters ++ r1 =
          l1 ∙ (ap (beyond is_blank) (append_assoc b.letters O.letters (codes ")" ++ rest)) ∙ beyond_dark b.letters b.head b.tail r1 b.begins b.dark_head) in
          let behind : Near (beyond is_blank r1) n.rest =
          both_part refl (ap parts (O.dark rest) ∙ O.part rest) (further_parts form (earlier ++ x ∷ []) n q xs are c) in
          let (n2, y, j, l2, shape) = b.again m2 r1 start (O.apart rest) behind in
          let first_same : first m2 ≡ first m = ap first_in start ∙ (ap (λ (l : List ℕ). first_in (l ++ r1)) b.begins ∙ sym b.seen) in
          let opened : begins (codes ")") m ≡ false =
          ap (begins (codes ")")) t.1 ∙ not_true (begins (codes ")") (skip (next p))) (and_true (begins (codes ",") p) (not (begins (codes ")") (skip (next p)))) g).1 in
          let opened_again : begins (codes ")") (skip (next s)) ≡ false =
          ap (begins (codes ")")) (sym t2.1) ∙ (closing_alike m2 m first_same ∙ opened) in
          let goes : goes_on s ≡ true = rw (t2.0, opened_again) refl in
          let (t3, ys, many, l3, shapes) = O.again (others ++ y ∷ []) (added others earlier y x same shape) n2 rest (l2 ∙ O.dark rest) in (
            t3,
            y ∷ ys,
            (m2, n2, goes, t2, argument_behind others earlier same form m2 n2 y j, many),
            l3,
            ap (λ (a : Argument). a ∷ map bare_argument ys) shape ∙ ap (λ (l : List Argument). bare_argument x ∷ l) shapes,
          );
    }

-- ---- arguments in parentheses

-- arguments in parentheses are printed and read with the same shape
pub record ArgumentsBack (form : Form) (xs : List Argument) : Type 0 where
  pub letters : List ℕ
  pub tail : List ℕ
  pub encoded : behind_attribute false xs ≡ encode_utf8_all letters
  pub begins_so : letters ≡ 40 ∷ tail
  pub again : (s : Place) (rest : List ℕ) → s.rest ≡ letters ++ rest
      → (t : Place) × (ys : List Argument) × AreArguments form s t ys × (t.rest ≡ beyond is_blank rest) × (map bare_argument ys ≡ map bare_argument xs)

-- one argument or more
some_back : (form : Form) (m n o : Place) (x : Argument) (xs : List Argument) → IsArgument form [] m n x → AreFurther form (x ∷ []) n o xs → parts o.rest ≡ true
    → ArgumentsBack form (x ∷ xs)
some_back form m n o x xs i are c =
    let behind_x : parts n.rest ≡ true = further_parts form (x ∷ []) n o xs are c in
    let b : Back (IsArgument form []) bare_argument m n x (printed_argument x) = argument_back form [] m n x behind_x i in
    let O : FurtherBack form (x ∷ []) xs = further_back form (x ∷ []) n o xs are c in
    let others_text : List ℕ = led (codes ", ") (map printed_argument xs) in
    let inside : List ℕ = b.letters ++ O.letters in
    record {
      letters = codes "(" ++ (inside ++ codes ")");
      tail = inside ++ codes ")";
      encoded = joined_text (codes "(") ((printed_argument x ++ others_text) ++ codes ")") (codes "(") (inside ++ codes ")") (plain_text (codes "(") refl)
          (joined_text (printed_argument x ++ others_text) (codes ")") inside (codes ")") (joined_text (printed_argument x) others_text b.letters O.letters b.encoded O.encoded)
          (plain_text (codes ")") refl));
      begins_so = refl;
      again = λ s rest h.
          let r1 : List ℕ = O.letters ++ (codes ")" ++ rest) in
          let (m2, t2, l1) = token_back (codes "(") ((inside ++ codes ")") ++ rest) s h in
          let start : m2.rest ≡ b.letters ++ r1 =
          l1 ∙ (ap (beyond is_blank) (append_assoc inside (codes ")") rest ∙ append_assoc b.letters O.letters (codes ")" ++ rest))
          ∙ beyond_dark b.letters b.head b.tail r1 b.begins b.dark_head) in
          let behind : Near (beyond is_blank r1) n.rest = both_part refl (ap parts (O.dark rest) ∙ O.part rest) behind_x in
          let (n2, y, j, l2, shape) = b.again m2 r1 start (O.apart rest) behind in
          let (o2, ys, many, l3, shapes) = O.again (y ∷ []) (ap (λ (a : Argument). a ∷ []) shape) n2 rest (l2 ∙ O.dark rest) in
          let no_comma : begins (codes ",") o2 ≡ false = begins_other 41 44 [] o2 (ap first_in l3) refl in
          let (q2, u2, l4) = token_back (codes ")") rest o2 l3 in (
            q2,
            y ∷ ys,
            in_parentheses m2 n2 o2 o2 y ys t2 j many (nothing no_comma refl) u2 refl,
            l4,
            ap (λ (a : Argument). a ∷ map bare_argument ys) shape ∙ ap (λ (l : List Argument). bare_argument x ∷ l) shapes,
          );
    }

-- arguments in parentheses are printed and read with the same shape
pub arguments_back : (form : Form) (p q : Place) (xs : List Argument) → AreArguments form p q xs → ArgumentsBack form xs
arguments_back form p q xs (in_parentheses m n o r first_one others t i are w u z) =
    subst (λ (ys : List Argument). ArgumentsBack form ys) (sym z) (some_back form m n o first_one others i are (trailing_parts o r q w u))
