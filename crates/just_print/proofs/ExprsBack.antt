-- What is printed of an expression is read again as an expression of the same shape.
use Rattle.std.proofs.Common.{◌≡◌, ℕ, zero, suc, Bool, true, false, not, ◌&&◌, List, [], ◌∷◌, ◌++◌, codes, encode_utf8_all, refl, sym, ap, ◌∙◌, subst, append_assoc}
use Rattle.just_lang_read.specs.Place.{Place, Rule, first, first_in, starts, begins, behind_text}
use Rattle.just_lang_syntax.specs.declared.ast.Comparison.{Comparison}
use Rattle.just_lang_syntax.specs.declared.ast.Comparison.TheVariants.{Equal, Unequal}
use Rattle.just_lang_syntax.specs.declared.ast.Expr.{Expr}
use Rattle.just_lang_syntax.specs.declared.ast.Expr.TheVariants as e
use Rattle.just_lang_read.specs.Characters.{is_blank, in_name}
use Rattle.just_lang_read.specs.Lines.{is_word, behind_word, IsToken, IsWord}
use Rattle.just_lang_syntax.specs.Exprs.{begins_expr, begins_condition, IsComparison, IsValue, IsBlock, IsOtherwise, IsLevel, IsInner, IsExpr}
use Rattle.just_lang_syntax.specs.Exprs.IsComparison.{equal, unequal}
use Rattle.just_lang_syntax.specs.Exprs.IsBlock.{block}
use Rattle.just_lang_syntax.specs.Exprs.IsOtherwise.{last, further}
use Rattle.just_lang_syntax.specs.Exprs.IsLevel.{conditional, root, value, joined, concatenated}
use Rattle.just_print.specs.Printed.{printed_comparison, otherwise, printed_expr}
use Rattle.just_print.specs.Shapes.{bare_expr}
use Rattle.just_print.proofs.Exprs.{printed_if, printed_root, printed_join, printed_concat}
use Rattle.just_print.proofs.BareExprs.{bare_if, bare_root, bare_join, bare_concat}
use Rattle.just_print.proofs.Places.{beyond, beyond_dark, and_true, Likeness, Near, one_first, IsApart, token_back}
use Rattle.just_print.proofs.NamesBack.{Back}
use Rattle.just_print.proofs.WordsBack.{joined_text, plain_text, token_first, no_if, begins_near, expr_alike, word_back, behind_if}
use Rattle.just_print.proofs.ValuesBack.{At, IsFirst}
use Rattle.just_print.proofs.CallsBack.{word_first, value_back}

-- what is printed of a value begins as the value does
pub alike_front : {A : Type 0} {parted : Bool} (Is : Rule A) (bare : A → A) (p q : Place) (x : A) (text : List ℕ) (b : Back Is bare p q x text) (more : List ℕ)
    → Likeness parted (beyond is_blank (b.letters ++ more)) p.rest
alike_front Is bare p q x text b more =
    one_first (ap first_in (beyond_dark b.letters b.head b.tail more b.begins b.dark_head) ∙ (ap (λ (l : List ℕ). first_in (l ++ more)) b.begins ∙ sym b.seen))

-- ---- comparisons

-- a comparison with its blanks before what begins with no blank
pub record Compares (n : Place) (c : Comparison) : Type 0 where
  pub encoded : printed_comparison c ≡ encode_utf8_all (printed_comparison c)
  pub apart : (more : List ℕ) → IsApart (printed_comparison c ++ more)
  pub alike : (more : List ℕ) → Near (beyond is_blank (printed_comparison c ++ more)) n.rest
  pub again : (s : Place) (more : List ℕ) → s.rest ≡ beyond is_blank (printed_comparison c ++ more) → (t : Place) × IsComparison s t c × (t.rest ≡ beyond is_blank more)

equal_back : (n o : Place) → IsToken (codes "==") n o → Compares n Equal
equal_back n o t =
    record {
      encoded = plain_text (codes " == ") refl;
      apart = λ more. (refl, refl);
      alike = λ more. one_first (sym (token_first 61 (61 ∷ []) n o t));
      again = λ s more h. let (v, t1, l) = token_back (codes "==") (codes " " ++ more) s h in (v, equal t1 refl, l);
    }

unequal_back : (n o : Place) → IsToken (codes "!=") n o → Compares n Unequal
unequal_back n o t =
    record {
      encoded = plain_text (codes " != ") refl;
      apart = λ more. (refl, refl);
      alike = λ more. one_first (sym (token_first 33 (61 ∷ []) n o t));
      again = λ s more h. let (v, t1, l) = token_back (codes "!=") (codes " " ++ more) s h in (v, unequal t1 refl, l);
    }

comparison_back : (n o : Place) (c : Comparison) → IsComparison n o c → Compares n c
comparison_back n o c (equal t z) = subst (λ (d : Comparison). Compares n d) (sym z) (equal_back n o t)
comparison_back n o c (unequal t z) = subst (λ (d : Comparison). Compares n d) (sym z) (unequal_back n o t)

-- ---- levels, where what is printed of the expressions inside is read again

module _ (Inner : Rule Expr) (back : (p q : Place) (x : Expr) → Inner p q x → Back (At Inner (begins_condition p)) bare_expr p q x (printed_expr x)) where
  block_back : (p q : Place) (x : Expr) → IsBlock Inner p q x → Back (IsBlock Inner) bare_expr p q x (codes "{ " ++ (printed_expr x ++ codes " }"))
  block_back p q x (block m n t i u) =
      let b : Back (At Inner (begins_condition m)) bare_expr m n x (printed_expr x) = back m n x i in
      record {
        letters = codes "{ " ++ (b.letters ++ codes " }");
        head = 123;
        tail = codes " " ++ (b.letters ++ codes " }");
        encoded = joined_text (codes "{ ") (printed_expr x ++ codes " }") (codes "{ ") (b.letters ++ codes " }") (plain_text (codes "{ ") refl)
            (joined_text (printed_expr x) (codes " }") b.letters (codes " }") b.encoded (plain_text (codes " }") refl));
        begins = refl;
        seen = token_first 123 [] p m t;
        dark_head = refl;
        again = λ r rest h apart alike.
            let (s, t1, l1) = token_back (codes "{") (codes " " ++ ((b.letters ++ codes " }") ++ rest)) r h in
            let here : s.rest ≡ b.letters ++ (codes " }" ++ rest) =
            l1 ∙ (ap (beyond is_blank) (append_assoc b.letters (codes " }") rest) ∙ beyond_dark b.letters b.head b.tail (codes " }" ++ rest) b.begins b.dark_head) in
            let (o, w, j, l2, shape) = b.again s (codes " }" ++ rest) here (refl, refl) (one_first (sym (token_first 125 [] n q u))) in
            let (v, t2, l3) = token_back (codes "}") rest o l2 in
            (v, w, block s o t1 j.1 t2, l3, shape);
      }

  block_no_if : (p q : Place) (x : Expr) → IsBlock Inner p q x → begins_condition p ≡ false
  block_no_if p q x (block m n t i u) = no_if 123 p (token_first 123 [] p m t) refl

  last_back : (p q : Place) (x : Expr) → IsBlock Inner p q x → Back (λ r s y. IsOtherwise Inner r s false y) bare_expr p q x (otherwise false (printed_expr x))
  last_back p q x i =
      let b : Back (IsBlock Inner) bare_expr p q x (codes "{ " ++ (printed_expr x ++ codes " }")) = block_back p q x i in
      record {
        letters = b.letters;
        head = b.head;
        tail = b.tail;
        encoded = b.encoded;
        begins = b.begins;
        seen = b.seen;
        dark_head = b.dark_head;
        again = λ r rest h apart alike.
            let (s, y, j, left, shape) = b.again r rest h apart alike in (s, y, last (block_no_if r s y j) j refl, left, shape);
      }

  further_back : (p q : Place) (x : Expr) → begins_condition p ≡ true → Inner p q x
      → Back (λ r s y. IsOtherwise Inner r s true y) bare_expr p q x (otherwise true (printed_expr x))
  further_back p q x g i =
      let b : Back (At Inner (begins_condition p)) bare_expr p q x (printed_expr x) = back p q x i in
      record {
        letters = b.letters;
        head = b.head;
        tail = b.tail;
        encoded = b.encoded;
        begins = b.begins;
        seen = b.seen;
        dark_head = b.dark_head;
        again = λ r rest h apart alike.
            let (s, y, j, left, shape) = b.again r rest h apart alike in (s, y, further (j.0 ∙ g) j.1 refl, left, shape);
      }

  otherwise_back : (p q : Place) (chained : Bool) (x : Expr) → IsOtherwise Inner p q chained x
      → Back (λ r s y. IsOtherwise Inner r s chained y) bare_expr p q x (otherwise chained (printed_expr x))
  otherwise_back p q chained x (last g i z) =
      subst (λ (c : Bool). Back (λ r s y. IsOtherwise Inner r s c y) bare_expr p q x (otherwise c (printed_expr x))) (sym z) (last_back p q x i)
  otherwise_back p q chained x (further g i z) =
      subst (λ (c : Bool). Back (λ r s y. IsOtherwise Inner r s c y) bare_expr p q x (otherwise c (printed_expr x))) (sym z) (further_back p q x g i)

  root_back : (p m q : Place) (y x : Expr) → IsToken (codes "/") p m → Inner m q y → x ≡ e.Root y → Back (At (IsLevel Inner) false) bare_expr p q x (printed_expr x)
  root_back p m q y x t i z =
      let b : Back (At Inner (begins_condition m)) bare_expr m q y (printed_expr y) = back m q y i in
      record {
        letters = codes "/ " ++ b.letters;
        head = 47;
        tail = codes " " ++ b.letters;
        encoded = ap printed_expr z ∙ (printed_root y ∙ joined_text (codes "/ ") (printed_expr y) (codes "/ ") b.letters (plain_text (codes "/ ") refl) b.encoded);
        begins = refl;
        seen = token_first 47 [] p m t;
        dark_head = refl;
        again = λ r rest h apart alike.
            let (s, t1, l1) = token_back (codes "/") (codes " " ++ (b.letters ++ rest)) r h in
            let here : s.rest ≡ b.letters ++ rest = l1 ∙ beyond_dark b.letters b.head b.tail rest b.begins b.dark_head in
            let (v, w, j, l2, shape) = b.again s rest here apart alike in (
              v,
              e.Root w,
              (no_if 47 r (token_first 47 [] r s t1) refl, root s w t1 j.1 refl),
              l2,
              bare_root w ∙ (ap (λ (c : Expr). e.Root c) shape ∙ (sym (bare_root y) ∙ sym (ap bare_expr z))),
            );
      }

  alone_back : (p q : Place) (x : Expr) → begins_condition p ≡ false → IsValue Inner p q x → begins (codes "/") q ≡ false → begins (codes "+") q ≡ false
      → Back (At (IsLevel Inner) false) bare_expr p q x (printed_expr x)
  alone_back p q x g i n k =
      let b : Back (IsFirst Inner) bare_expr p q x (printed_expr x) = value_back Inner back p q x g i in
      record {
        letters = b.letters;
        head = b.head;
        tail = b.tail;
        encoded = b.encoded;
        begins = b.begins;
        seen = b.seen;
        dark_head = b.dark_head;
        again = λ r rest h apart alike.
            let (s, y, j, left, shape) = b.again r rest h apart alike in
            let follows : Near s.rest q.rest = subst (λ (l : List ℕ). Near l q.rest) (sym left) alike in
            (s, y, (j.0, value j.0 j.1 (begins_near 47 s q refl refl refl refl follows ∙ n) (begins_near 43 s q refl refl refl refl follows ∙ k)), left, shape);
      }

  joined_back : (p m n q : Place) (a b x : Expr) → begins_condition p ≡ false → IsValue Inner p m a → IsToken (codes "/") m n → Inner n q b → x ≡ e.Join a b
      → Back (At (IsLevel Inner) false) bare_expr p q x (printed_expr x)
  joined_back p m n q a b x g v t i z =
      let f : Back (IsFirst Inner) bare_expr p m a (printed_expr a) = value_back Inner back p m a g v in
      let k : Back (At Inner (begins_condition n)) bare_expr n q b (printed_expr b) = back n q b i in
      record {
        letters = f.letters ++ (codes " / " ++ k.letters);
        head = f.head;
        tail = f.tail ++ (codes " / " ++ k.letters);
        encoded = ap printed_expr z ∙ (printed_join a b
            ∙ joined_text (printed_expr a) (codes " / " ++ printed_expr b) f.letters (codes " / " ++ k.letters) f.encoded
            (joined_text (codes " / ") (printed_expr b) (codes " / ") k.letters (plain_text (codes " / ") refl) k.encoded));
        begins = ap (λ (l : List ℕ). l ++ (codes " / " ++ k.letters)) f.begins;
        seen = f.seen;
        dark_head = f.dark_head;
        again = λ r rest h apart alike.
            let (s, a2, j, l1, shape) = f.again r (codes " / " ++ (k.letters ++ rest)) (h ∙ append_assoc f.letters (codes " / " ++ k.letters) rest) (refl, refl)
            (one_first (sym (token_first 47 [] m n t))) in
            let (o, t1, l2) = token_back (codes "/") (codes " " ++ (k.letters ++ rest)) s l1 in
            let here : o.rest ≡ k.letters ++ rest = l2 ∙ beyond_dark k.letters k.head k.tail rest k.begins k.dark_head in
            let (w, b2, l, l3, shape2) = k.again o rest here apart alike in (
              w,
              e.Join a2 b2,
              (j.0, joined s o a2 b2 j.0 j.1 t1 l.1 refl),
              l3,
              bare_join a2 b2 ∙ (ap (λ (c : Expr). e.Join c (bare_expr b2)) shape
                  ∙ (ap (λ (c : Expr). e.Join (bare_expr a) c) shape2 ∙ (sym (bare_join a b) ∙ sym (ap bare_expr z)))),
            );
      }

  concatenated_back : (p m n q : Place) (a b x : Expr) → begins_condition p ≡ false → IsValue Inner p m a → IsToken (codes "+") m n → Inner n q b → x ≡ e.Concat a b
      → Back (At (IsLevel Inner) false) bare_expr p q x (printed_expr x)
  concatenated_back p m n q a b x g v t i z =
      let f : Back (IsFirst Inner) bare_expr p m a (printed_expr a) = value_back Inner back p m a g v in
      let k : Back (At Inner (begins_condition n)) bare_expr n q b (printed_expr b) = back n q b i in
      record {
        letters = f.letters ++ (codes " + " ++ k.letters);
        head = f.head;
        tail = f.tail ++ (codes " + " ++ k.letters);
        encoded = ap printed_expr z ∙ (printed_concat a b
            ∙ joined_text (printed_expr a) (codes " + " ++ printed_expr b) f.letters (codes " + " ++ k.letters) f.encoded
            (joined_text (codes " + ") (printed_expr b) (codes " + ") k.letters (plain_text (codes " + ") refl) k.encoded));
        begins = ap (λ (l : List ℕ). l ++ (codes " + " ++ k.letters)) f.begins;
        seen = f.seen;
        dark_head = f.dark_head;
        again = λ r rest h apart alike.
            let (s, a2, j, l1, shape) = f.again r (codes " + " ++ (k.letters ++ rest)) (h ∙ append_assoc f.letters (codes " + " ++ k.letters) rest) (refl, refl)
            (one_first (sym (token_first 43 [] m n t))) in
            let (o, t1, l2) = token_back (codes "+") (codes " " ++ (k.letters ++ rest)) s l1 in
            let here : o.rest ≡ k.letters ++ rest = l2 ∙ beyond_dark k.letters k.head k.tail rest k.begins k.dark_head in
            let (w, b2, l, l3, shape2) = k.again o rest here apart alike in (
              w,
              e.Concat a2 b2,
              (j.0, concatenated s o a2 b2 j.0 j.1 t1 l.1 refl),
              l3,
              bare_concat a2 b2 ∙ (ap (λ (c : Expr). e.Concat c (bare_expr b2)) shape
                  ∙ (ap (λ (c : Expr). e.Concat (bare_expr a) c) shape2 ∙ (sym (bare_concat a b) ∙ sym (ap bare_expr z)))),
            );
      }

  conditional_back : (p m n o r s t q : Place) (left right consequent alternative x : Expr) (c : Comparison) (chained : Bool) → begins_condition p ≡ true
      → IsToken (codes "if") p m → Inner m n left → IsComparison n o c → Inner o r right → IsBlock Inner r s consequent → IsWord (codes "else") s t
      → IsOtherwise Inner t q chained alternative → x ≡ e.If left c right consequent chained alternative → Back (At (IsLevel Inner) true) bare_expr p q x (printed_expr x)
  conditional_back p m n o r s t q left right consequent alternative x c chained g i a k b d w y z =
      let A : Back (At Inner (begins_condition m)) bare_expr m n left (printed_expr left) = back m n left a in
      let C : Compares n c = comparison_back n o c k in
      let B : Back (At Inner (begins_condition o)) bare_expr o r right (printed_expr right) = back o r right b in
      let D : Back (IsBlock Inner) bare_expr r s consequent (codes "{ " ++ (printed_expr consequent ++ codes " }")) = block_back r s consequent d in
      let Y : Back (λ u v f. IsOtherwise Inner u v chained f) bare_expr t q alternative (otherwise chained (printed_expr alternative)) =
      otherwise_back t q chained alternative y in
      let sign : List ℕ = printed_comparison c in
      let other : List ℕ = otherwise chained (printed_expr alternative) in
      let t5 : List ℕ = codes " else " ++ Y.letters in
      let t4 : List ℕ = D.letters ++ t5 in
      let t3 : List ℕ = codes " " ++ t4 in
      let t2 : List ℕ = B.letters ++ t3 in
      let t1 : List ℕ = sign ++ t2 in
      let braces : List ℕ = codes "{ " ++ (printed_expr consequent ++ codes " }") in
      let moved : codes " { " ++ (printed_expr consequent ++ (codes " } else " ++ other)) ≡ codes " " ++ (braces ++ (codes " else " ++ other)) =
      ap (λ (l : List ℕ). codes " { " ++ l) (sym (append_assoc (printed_expr consequent) (codes " }") (codes " else " ++ other))) in
      record {
        letters = codes "if " ++ (A.letters ++ t1);
        head = 105;
        tail = codes "f " ++ (A.letters ++ t1);
        encoded = ap printed_expr z ∙ (printed_if left c right consequent chained alternative
            ∙ (ap (λ (l : List ℕ). codes "if " ++ (printed_expr left ++ (sign ++ (printed_expr right ++ l)))) moved
            ∙ joined_text (codes "if ") (printed_expr left ++ (sign ++ (printed_expr right ++ (codes " " ++ (braces ++ (codes " else " ++ other)))))) (codes "if ") (A.letters ++ t1)
            (plain_text (codes "if ") refl)
            (joined_text (printed_expr left) (sign ++ (printed_expr right ++ (codes " " ++ (braces ++ (codes " else " ++ other))))) A.letters t1 A.encoded
            (joined_text sign (printed_expr right ++ (codes " " ++ (braces ++ (codes " else " ++ other)))) sign t2 C.encoded
            (joined_text (printed_expr right) (codes " " ++ (braces ++ (codes " else " ++ other))) B.letters t3 B.encoded
            (joined_text (codes " ") (braces ++ (codes " else " ++ other)) (codes " ") t4 (plain_text (codes " ") refl)
            (joined_text braces (codes " else " ++ other) D.letters t5 D.encoded
            (joined_text (codes " else ") other (codes " else ") Y.letters (plain_text (codes " else ") refl) Y.encoded))))))));
        begins = refl;
        seen = token_first 105 (102 ∷ []) p m i;
        dark_head = refl;
        again = λ u rest h apart alike.
            let r6 : List ℕ = Y.letters ++ rest in
            let r5 : List ℕ = codes " else " ++ r6 in
            let r4 : List ℕ = D.letters ++ r5 in
            let r3 : List ℕ = codes " " ++ r4 in
            let r2 : List ℕ = B.letters ++ r3 in
            let r1 : List ℕ = sign ++ r2 in
            let r0 : List ℕ = A.letters ++ r1 in
            let spread : (A.letters ++ t1) ++ rest ≡ r0 =
            append_assoc A.letters t1 rest ∙ ap (λ (l : List ℕ). A.letters ++ l) (append_assoc sign t2 rest ∙ ap (λ (l : List ℕ). sign ++ l)
            (append_assoc B.letters t3 rest ∙ ap (λ (l : List ℕ). B.letters ++ (codes " " ++ l)) (append_assoc D.letters t5 rest))) in
            let start : u.rest ≡ codes "if" ++ (codes " " ++ r0) = h ∙ ap (λ (l : List ℕ). codes "if " ++ l) spread in
            let (m2, w2, l0) = word_back (codes "if") (codes " " ++ r0) u start refl in
            let i2 : IsToken (codes "if") u m2 = ((and_true (begins (codes "if") u) (not (starts in_name (behind_text (codes "if") u))) w2.0).0, w2.1) in
            let here0 : m2.rest ≡ r0 = l0 ∙ beyond_dark A.letters A.head A.tail r1 A.begins A.dark_head in
            let (word, opens) = and_true (is_word (codes "if") p) (begins_expr (behind_word p)) g in
            let same_start : first (behind_word u) ≡ first (behind_word p) =
            ap first_in (behind_if u m2 w2.0 i2 ∙ here0) ∙ (ap (λ (l : List ℕ). first_in (l ++ r1)) A.begins ∙ (sym A.seen ∙ sym (ap first_in (behind_if p m word i)))) in
            let condition : begins_condition u ≡ true =
            ap (λ (v : Bool). v && begins_expr (behind_word u)) w2.0 ∙ (expr_alike (behind_word u) (behind_word p) (one_first same_start) ∙ opens) in
            let (n2, a2, ja, l1, shape_a) = A.again m2 r1 here0 (C.apart r2) (C.alike r2) in
            let (o2, k2, l2) = C.again n2 r2 l1 in
            let here2 : o2.rest ≡ r2 = l2 ∙ beyond_dark B.letters B.head B.tail r3 B.begins B.dark_head in
            let (s2, b2, jb, l3, shape_b) =
            B.again o2 r3 here2 (refl, refl) (alike_front (IsBlock Inner) bare_expr r s consequent (codes "{ " ++ (printed_expr consequent ++ codes " }")) D r5) in
            let here3 : s2.rest ≡ r4 = l3 ∙ beyond_dark D.letters D.head D.tail r5 D.begins D.dark_head in
            let (v2, d2, jd, l4, shape_d) = D.again s2 r5 here3 (refl, refl) (one_first (sym (word_first 101 (codes "lse") s t w))) in
            let (f2, e2, l5) = word_back (codes "else") (codes " " ++ r6) v2 l4 refl in
            let here5 : f2.rest ≡ r6 = l5 ∙ beyond_dark Y.letters Y.head Y.tail rest Y.begins Y.dark_head in
            let (q2, y2, jy, l6, shape_y) = Y.again f2 rest here5 apart alike in (
              q2,
              e.If a2 c b2 d2 chained y2,
              (condition, conditional m2 n2 o2 s2 v2 f2 a2 b2 d2 y2 c chained condition i2 ja.1 k2 jb.1 jd e2 jy refl),
              l6,
              bare_if a2 c b2 d2 chained y2
                  ∙ (ap (λ (v : Expr). e.If v c (bare_expr b2) (bare_expr d2) chained (bare_expr y2)) shape_a
                  ∙ (ap (λ (v : Expr). e.If (bare_expr left) c v (bare_expr d2) chained (bare_expr y2)) shape_b
                  ∙ (ap (λ (v : Expr). e.If (bare_expr left) c (bare_expr right) v chained (bare_expr y2)) shape_d
                  ∙ (ap (λ (v : Expr). e.If (bare_expr left) c (bare_expr right) (bare_expr consequent) chained v) shape_y
                  ∙ (sym (bare_if left c right consequent chained alternative) ∙ sym (ap bare_expr z)))))),
            );
      }

  -- an expression of any form is printed and read as one of its shape
  pub level_back : (p q : Place) (x : Expr) → IsLevel Inner p q x → Back (At (IsLevel Inner) (begins_condition p)) bare_expr p q x (printed_expr x)
  level_back p q x (conditional m n o r s t left right consequent alternative c chained g i a k b d w y z) =
      subst (λ (v : Bool). Back (At (IsLevel Inner) v) bare_expr p q x (printed_expr x)) (sym g)
      (conditional_back p m n o r s t q left right consequent alternative x c chained g i a k b d w y z)
  level_back p q x (root m y t i z) =
      subst (λ (v : Bool). Back (At (IsLevel Inner) v) bare_expr p q x (printed_expr x)) (sym (no_if 47 p (token_first 47 [] p m t) refl)) (root_back p m q y x t i z)
  level_back p q x (value g i n k) =
      subst (λ (v : Bool). Back (At (IsLevel Inner) v) bare_expr p q x (printed_expr x)) (sym g) (alone_back p q x g i n k)
  level_back p q x (joined m n a b g v t i z) =
      subst (λ (v : Bool). Back (At (IsLevel Inner) v) bare_expr p q x (printed_expr x)) (sym g) (joined_back p m n q a b x g v t i z)
  level_back p q x (concatenated m n a b g v t i z) =
      subst (λ (v : Bool). Back (At (IsLevel Inner) v) bare_expr p q x (printed_expr x)) (sym g) (concatenated_back p m n q a b x g v t i z)

-- what is printed of an expression inside another one is read again
pub inner_back : (left : ℕ) (p q : Place) (x : Expr) → IsInner left p q x → Back (At (IsInner left) (begins_condition p)) bare_expr p q x (printed_expr x)
unfolding IsInner
inner_back zero p q x i = absurd i
inner_back (suc left) p q x i = level_back (IsInner left) (inner_back left) p q x i

-- what is printed of an expression is read again as an expression of the same shape
pub expr_back : (p q : Place) (x : Expr) → IsExpr p q x → Back (At IsExpr (begins_condition p)) bare_expr p q x (printed_expr x)
expr_back p q x i = level_back (IsInner 256) (inner_back 256) p q x i
