-- What is printed of calls, and so of values, is read again, where it is so of the expressions inside.
use Rattle.std.specs.Option.{option_map}
use Rattle.std.proofs.Common.{◌≡◌, ℕ, Bool, false, not, List, [], ◌∷◌, ◌++◌, Option, Some, None, codes, encode_utf8_all, refl, sym, ap, ◌∙◌, append_assoc}
use Rattle.just_lang_read.specs.Place.{Place, Rule, first, first_in, starts, begins, behind_text}
use Rattle.just_lang_syntax.specs.declared.ast.Expr.{Expr}
use Rattle.just_lang_syntax.specs.declared.ast.Expr.TheVariants as e
use Rattle.just_lang_read.specs.Characters.{is_blank, in_name}
use Rattle.just_lang_read.specs.Lines.{IsToken, IsWord}
use Rattle.just_lang_syntax.specs.Exprs.{begins_condition, IsDefault, IsValue}
use Rattle.just_lang_syntax.specs.Exprs.IsValue.{literal, group, env, variable}
use Rattle.just_print.specs.Printed.{printed_expr, printed_second}
use Rattle.just_print.specs.Shapes.{bare_expr}
use Rattle.just_print.proofs.Exprs.{printed_env}
use Rattle.just_print.proofs.BareExprs.{bare_env}
use Rattle.just_print.proofs.Places.{beyond, beyond_dark, and_true, Near, one_first, IsApart, token_back}
use Rattle.just_print.proofs.NamesBack.{Back}
use Rattle.just_print.proofs.WordsBack.{joined_text, plain_text, begins_first, token_first, begins_other, no_if, word_back}
use Rattle.just_print.proofs.ValuesBack.{At, IsFirst, literal_back, variable_back, group_back}

-- the first character of a word
pub word_first : (c : ℕ) (word : List ℕ) (p q : Place) → IsWord (c ∷ word) p q → first p ≡ Some c
word_first c word p q w = begins_first c word p (and_true (begins (c ∷ word) p) (not (starts in_name (behind_text (c ∷ word) p))) w.0).0

-- the second argument of a call, or none, before the parenthesis that closes it
pub record SecondBack (Inner : Rule Expr) (o : Place) (d : Option Expr) : Type 0 where
  pub letters : List ℕ
  pub encoded : printed_second (option_map printed_expr d) ≡ encode_utf8_all letters
  pub apart : (rest : List ℕ) → IsApart (letters ++ (codes ")" ++ rest))
  pub alike : (rest : List ℕ) → Near (beyond is_blank (letters ++ (codes ")" ++ rest))) o.rest
  pub dark : (rest : List ℕ) → beyond is_blank (letters ++ (codes ")" ++ rest)) ≡ letters ++ (codes ")" ++ rest)
  pub again : (r : Place) (rest : List ℕ) → r.rest ≡ letters ++ (codes ")" ++ rest)
      → (s : Place) × (y : Option Expr) × IsDefault Inner r s y × (s.rest ≡ codes ")" ++ rest) × (option_map bare_expr y ≡ option_map bare_expr d)

module _ (Inner : Rule Expr) (back : (p q : Place) (x : Expr) → Inner p q x → Back (At Inner (begins_condition p)) bare_expr p q x (printed_expr x)) where
  second_back : (o r q : Place) (d : Option Expr) → IsDefault Inner o r d → IsToken (codes ")") r q → SecondBack Inner o d
  second_back o r q None (n, e) u =
      record {
        letters = [];
        encoded = refl;
        apart = λ rest. (refl, refl);
        alike = λ rest. one_first (sym (ap first (sym e) ∙ token_first 41 [] r q u));
        dark = λ rest. refl;
        again = λ s rest h. (s, None, (begins_other 41 44 [] s (ap first_in h) refl, refl), h, refl);
      }
  second_back o r q (Some x) (m, t, i) u =
      let b : Back (At Inner (begins_condition m)) bare_expr m r x (printed_expr x) = back m r x i in
      record {
        letters = codes ", " ++ b.letters;
        encoded = joined_text (codes ", ") (printed_expr x) (codes ", ") b.letters (plain_text (codes ", ") refl) b.encoded;
        apart = λ rest. (refl, refl);
        alike = λ rest. one_first (sym (token_first 44 [] o m t));
        dark = λ rest. refl;
        again = λ s rest h.
            let (w, t1, l1) = token_back (codes ",") (codes " " ++ (b.letters ++ (codes ")" ++ rest))) s h in
            let here : w.rest ≡ b.letters ++ (codes ")" ++ rest) = l1 ∙ beyond_dark b.letters b.head b.tail (codes ")" ++ rest) b.begins b.dark_head in
            let (v, y, j, l2, shape) = b.again w (codes ")" ++ rest) here (refl, refl) (one_first (sym (token_first 41 [] r q u))) in
            (v, Some y, (w, t1, j.1), l2, ap (λ (c : Expr). Some c) shape);
      }

  env_back : (p m n o r q : Place) (key : Expr) (d : Option Expr) (x : Expr) → IsWord (codes "env") p m → IsToken (codes "(") m n → Inner n o key → IsDefault Inner o r d
      → IsToken (codes ")") r q → x ≡ e.Env p.line p.column key d → Back (IsFirst Inner) bare_expr p q x (printed_expr x)
  env_back p m n o r q key d x w t i k u z =
      let b : Back (At Inner (begins_condition n)) bare_expr n o key (printed_expr key) = back n o key i in
      let c : SecondBack Inner o d = second_back o r q d k u in
      let second : List ℕ = printed_second (option_map printed_expr d) in
      record {
        letters = codes "env(" ++ (b.letters ++ (c.letters ++ codes ")"));
        head = 101;
        tail = codes "nv(" ++ (b.letters ++ (c.letters ++ codes ")"));
        encoded = ap printed_expr z ∙ (printed_env p.line p.column key d
            ∙ joined_text (codes "env(") (printed_expr key ++ (second ++ codes ")")) (codes "env(") (b.letters ++ (c.letters ++ codes ")")) (plain_text (codes "env(") refl)
            (joined_text (printed_expr key) (second ++ codes ")") b.letters (c.letters ++ codes ")") b.encoded
            (joined_text second (codes ")") c.letters (codes ")") c.encoded (plain_text (codes ")") refl))));
        begins = refl;
        seen = word_first 101 (codes "nv") p m w;
        dark_head = refl;
        again = λ s rest h apart alike.
            let (l, w1, l1) = word_back (codes "env") (codes "(" ++ ((b.letters ++ (c.letters ++ codes ")")) ++ rest)) s h refl in
            let (f, t1, l2) = token_back (codes "(") ((b.letters ++ (c.letters ++ codes ")")) ++ rest) l l1 in
            let spread : (b.letters ++ (c.letters ++ codes ")")) ++ rest ≡ b.letters ++ (c.letters ++ (codes ")" ++ rest)) =
            append_assoc b.letters (c.letters ++ codes ")") rest ∙ ap (λ (a : List ℕ). b.letters ++ a) (append_assoc c.letters (codes ")") rest) in
            let here : f.rest ≡ b.letters ++ (c.letters ++ (codes ")" ++ rest)) =
            l2 ∙ (ap (beyond is_blank) spread ∙ beyond_dark b.letters b.head b.tail (c.letters ++ (codes ")" ++ rest)) b.begins b.dark_head) in
            let (g, key2, j, l3, shape) = b.again f (c.letters ++ (codes ")" ++ rest)) here (c.apart rest) (c.alike rest) in
            let (v, d2, a, l4, shape2) = c.again g rest (l3 ∙ c.dark rest) in
            let (end, t2, l5) = token_back (codes ")") rest v l4 in (
              end,
              e.Env s.line s.column key2 d2,
              (no_if 101 s (word_first 101 (codes "nv") s l w1) refl, env l f g v key2 d2 w1 t1 j.1 a t2 refl),
              l5,
              bare_env s.line s.column key2 d2
                  ∙ (ap (λ (y : Expr). e.Env 0 0 y (option_map bare_expr d2)) shape
                  ∙ (ap (λ (y : Option Expr). e.Env 0 0 (bare_expr key) y) shape2 ∙ (sym (bare_env p.line p.column key d) ∙ sym (ap bare_expr z)))),
            );
      }

  -- a value at which no condition begins
  pub value_back : (p q : Place) (x : Expr) → begins_condition p ≡ false → IsValue Inner p q x → Back (IsFirst Inner) bare_expr p q x (printed_expr x)
  value_back p q x g (literal s i z) = literal_back Inner p q s x i z
  value_back p q x g (group m n y t i u z) = group_back Inner back p m n q y x t i u z
  value_back p q x g (env m n o r key d w t i k u z) = env_back p m n o r q key d x w t i k u z
  value_back p q x g (variable n s c i z) = variable_back Inner p q n x false g c i z

  drop_condition : (p q : Place) (x : Expr) (b : Bool) → Back (At (IsValue Inner) b) bare_expr p q x (printed_expr x) → Back (IsValue Inner) bare_expr p q x (printed_expr x)
  drop_condition p q x c b =
      record {
        letters = b.letters;
        head = b.head;
        tail = b.tail;
        encoded = b.encoded;
        begins = b.begins;
        seen = b.seen;
        dark_head = b.dark_head;
        again = λ r rest h apart alike. let (s, y, j, left, shape) = b.again r rest h apart alike in (s, y, j.1, left, shape);
      }

  -- a value, whether a condition begins there or not
  pub any_value_back : (p q : Place) (x : Expr) → IsValue Inner p q x → Back (IsValue Inner) bare_expr p q x (printed_expr x)
  any_value_back p q x (literal s i z) = drop_condition p q x false (literal_back Inner p q s x i z)
  any_value_back p q x (group m n y t i u z) = drop_condition p q x false (group_back Inner back p m n q y x t i u z)
  any_value_back p q x (env m n o r key d w t i k u z) = drop_condition p q x false (env_back p m n o r q key d x w t i k u z)
  any_value_back p q x (variable n s c i z) = drop_condition p q x (begins_condition p) (variable_back Inner p q n x (begins_condition p) refl c i z)
