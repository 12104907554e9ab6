-- What is printed of strings, names and expressions in parentheses is read again, where it is so of the expressions inside.
use Rattle.std.proofs.Common.{◌≡◌, ℕ, ◌==◌, Bool, true, false, ◌&&◌, if◌then◌else◌, List, [], ◌∷◌, ◌++◌, Some, codes, refl, sym, ap, ◌∙◌, subst, append_assoc}
use Rattle.std.proofs.lemmas.Bool.{false≢true}
use Rattle.just_lang_read.specs.Place.{Place, Rule, next, run, first_in, passes, starts, sees, begins}
use Rattle.just_lang_read.proofs.Laws.{starts_at, starts_with, run_next, sees_first}
use Rattle.just_lang_syntax.specs.declared.ast.Name.{Name}
use Rattle.just_lang_read.specs.declared.quote.Quote.{Quote}
use Rattle.just_lang_read.specs.declared.quote.Quote.TheVariants.{Single, Double, SingleBlock, DoubleBlock}
use Rattle.just_lang_syntax.specs.declared.ast.StringLiteral.{StringLiteral}
use Rattle.just_lang_syntax.specs.declared.ast.Expr.{Expr}
use Rattle.just_lang_syntax.specs.declared.ast.Expr.TheVariants as e
use Rattle.just_lang_read.specs.Characters.{is_blank, begins_name, in_name, is_quote}
use Rattle.just_lang_read.specs.Lines.{is_word, behind_word, IsToken}
use Rattle.just_lang_syntax.specs.Places.{name_at, IsName}
use Rattle.just_lang_read.specs.Quotes.{quote_at, behind_x, begins_string}
use Rattle.just_lang_syntax.specs.Strings.{IsString}
use Rattle.just_lang_syntax.specs.Strings.IsString.{string}
use Rattle.just_lang_syntax.specs.Exprs.{begins_expr, begins_condition, is_call, IsValue}
use Rattle.just_lang_syntax.specs.Exprs.IsValue.{literal, group, variable}
use Rattle.just_print.specs.Printed.{printed_string, printed_expr}
use Rattle.just_print.specs.Shapes.{bare_string, bare_expr}
use Rattle.just_print.proofs.Exprs.{literal_is, variable_is, printed_group}
use Rattle.just_print.proofs.BareExprs.{bare_literal, bare_variable, bare_group}
use Rattle.just_print.proofs.Places.{beyond, beyond_dark, next_rest, not_that, dark, Near, one_first, token_back}
use Rattle.just_print.proofs.NamesBack.{Back, in_name_first, name_stands}
use Rattle.just_print.proofs.StringsBack.{quote_character, quote_first, string_back}
use Rattle.just_print.proofs.WordsBack.{joined_text, plain_text, token_first, no_if, begins_near, expr_alike, is_word_in, word_in, same_words}

-- an expression at which a condition begins, or none
abbrev pub At : Rule Expr → Bool → Place → Place → Expr → Type 0
At Is b p q x = (begins_condition p ≡ b) × Is p q x

-- ---- strings

no_i : (quote : Quote) → (quote_character quote == 105) ≡ false
no_i Single = refl
no_i Double = refl
no_i SingleBlock = refl
no_i DoubleBlock = refl

string_no_if_by : (b : Bool) (p : Place) (quote : Quote) → sees 120 p ≡ b → quote_at (behind_x p) ≡ Some quote → begins_condition p ≡ false
string_no_if_by true p quote h o = no_if 120 p (sees_first 120 p h) refl
string_no_if_by false p quote h o = no_if (quote_character quote) p (quote_first p quote (ap (λ (b : Bool). quote_at (if b then next p else p)) (sym h) ∙ o)) (no_i quote)

-- a string that is read is no condition
string_no_if : (p q : Place) (x : StringLiteral) → IsString p q x → begins_condition p ≡ false
string_no_if p q x (string m quote raw o r u z) = string_no_if_by (sees 120 p) p quote refl o

-- ---- names

quote_no_name : (c : ℕ) (t : ℕ → Bool) → t c ≡ true → t 39 ≡ false → t 34 ≡ false → is_quote c ≡ false
quote_no_name c t h a b = rw (not_that t c 39 h a, not_that t c 34 h b) refl

no_quote_by : (b : Bool) (c : ℕ) (list rest : List ℕ) → in_name c ≡ b → passes is_quote (first_in rest) ≡ false → passes is_quote (first_in (run in_name (c ∷ list) ++ rest)) ≡ false
no_quote_by true c list rest h k = rw h (quote_no_name c in_name h refl refl)
no_quote_by false c list rest h k = rw h k

no_quote : (list rest : List ℕ) → passes is_quote (first_in rest) ≡ false → passes is_quote (first_in (run in_name list ++ rest)) ≡ false
no_quote [] rest k = k
no_quote (c ∷ list) rest k = no_quote_by (in_name c) c list rest refl k

x_or : (b : Bool) (r : Place) → starts is_quote (next r) ≡ false → starts is_quote r ≡ false → starts is_quote (if b then next r else r) ≡ false
x_or true r h k = h
x_or false r h k = k

-- a printed name is no string
name_no_string : (p : Place) → starts begins_name p ≡ true → (r : Place) (rest : List ℕ) → r.rest ≡ run in_name p.rest ++ rest → passes is_quote (first_in rest) ≡ false
    → begins_string r ≡ false
name_no_string p b r rest h k =
    let (c, f, t) = starts_with begins_name p b in
    let cell : r.rest ≡ c ∷ (run in_name (next p).rest ++ rest) =
    h ∙ ap (λ (l : List ℕ). l ++ rest) (run_next in_name p c f (starts_at in_name p c f ∙ in_name_first c t)) in
    let behind : starts is_quote (next r) ≡ false =
    ap (λ (l : List ℕ). passes is_quote (first_in l)) (next_rest r c (run in_name (next p).rest ++ rest) cell) ∙ no_quote (next p).rest rest k in
    let here : starts is_quote r ≡ false = starts_at is_quote r c (ap first_in cell) ∙ quote_no_name c begins_name t refl refl in
    x_or (sees 120 r) r behind here

second_false : (a b : Bool) → (a && b) ≡ false → a ≡ true → b ≡ false
second_false true b h k = h
second_false false b h k = absurd (false≢true k)

-- whether a condition begins at a printed name is what it was
name_condition : (p q r : Place) (rest : List ℕ) → r.rest ≡ run in_name p.rest ++ rest → passes in_name (first_in rest) ≡ false → q ≡ behind_word p
    → Near (behind_word r).rest q.rest → begins_condition r ≡ begins_condition p
name_condition p q r rest h k u alike =
    let words : is_word (codes "if") r ≡ is_word (codes "if") p =
    is_word_in (codes "if") r ∙ (ap (word_in (codes "if")) h ∙ (same_words (codes "if") p.rest rest refl k ∙ sym (is_word_in (codes "if") p))) in
    let others : begins_expr (behind_word r) ≡ begins_expr (behind_word p) = expr_alike (behind_word r) q alike ∙ ap begins_expr u in
    ap (λ (b : Bool). b && begins_expr (behind_word r)) words ∙ ap (λ (b : Bool). is_word (codes "if") p && b) others

-- ---- values, where what is printed of the expressions inside is read again

abbrev pub IsFirst : Rule Expr → Place → Place → Expr → Type 0
IsFirst Inner p q x = At (IsValue Inner) false p q x

module _ (Inner : Rule Expr) where
  -- a string as an expression
  pub literal_back : (p q : Place) (s : StringLiteral) (x : Expr) → IsString p q s → x ≡ e.Literal s → Back (IsFirst Inner) bare_expr p q x (printed_expr x)
  literal_back p q s x i z =
      let b : Back IsString bare_string p q s (printed_string s) = string_back p q s i in
      record {
        letters = b.letters;
        head = b.head;
        tail = b.tail;
        encoded = ap printed_expr z ∙ (literal_is s ∙ b.encoded);
        begins = b.begins;
        seen = b.seen;
        dark_head = b.dark_head;
        again = λ r rest h apart alike.
            let (o, t, is, left, shape) = b.again r rest h apart alike in (
              o,
              e.Literal t,
              (string_no_if r o t is, literal t is refl),
              left,
              bare_literal t ∙ (ap (λ (u : StringLiteral). e.Literal u) shape ∙ (sym (bare_literal s) ∙ sym (ap bare_expr z))),
            );
      }

  -- a name as an expression
  pub variable_back : (p q : Place) (n : Name) (x : Expr) (b : Bool) → begins_condition p ≡ b → is_call p ≡ false → IsName p q n → x ≡ e.Variable n
      → Back (At (IsValue Inner) b) bare_expr p q x (printed_expr x)
  variable_back p q n x b g c i z =
      let (d, f, t) = starts_with begins_name p i.0 in
      record {
        letters = run in_name p.rest;
        head = d;
        tail = run in_name (next p).rest;
        encoded = ap printed_expr z ∙ (variable_is n ∙ ap (λ (m : Name). m.text) i.2);
        begins = run_next in_name p d f (starts_at in_name p d f ∙ in_name_first d t);
        seen = f;
        dark_head = dark begins_name d t refl refl;
        again = λ r rest h apart alike.
            let (is, left, shape) = name_stands p q n i r rest h apart.0 in
            let follows : Near (behind_word r).rest q.rest = subst (λ (l : List ℕ). Near l q.rest) (sym left) alike in
            let call : is_call r ≡ false =
            ap (λ (b : Bool). b && begins (codes "(") (behind_word r)) is.0
            ∙ (begins_near 40 (behind_word r) q refl refl refl refl follows
            ∙ (ap (begins (codes "(")) i.1 ∙ second_false (starts begins_name p) (begins (codes "(") (behind_word p)) c i.0)) in (
              behind_word r,
              e.Variable (name_at r),
              (name_condition p q r rest h apart.0 i.1 follows ∙ g, variable (name_at r) (name_no_string p i.0 r rest h apart.1) call is refl),
              left,
              bare_variable (name_at r) ∙ (ap (λ (u : Name). e.Variable u) shape ∙ (sym (bare_variable n) ∙ sym (ap bare_expr z))),
            );
      }

module _ (Inner : Rule Expr) (back : (p q : Place) (x : Expr) → Inner p q x → Back (At Inner (begins_condition p)) bare_expr p q x (printed_expr x)) where
  -- an expression in parentheses
  pub group_back : (p m n q : Place) (y x : Expr) → IsToken (codes "(") p m → Inner m n y → IsToken (codes ")") n q → x ≡ e.Group y
      → Back (IsFirst Inner) bare_expr p q x (printed_expr x)
  group_back p m n q y x t i u z =
      let b : Back (At Inner (begins_condition m)) bare_expr m n y (printed_expr y) = back m n y i in
      record {
        letters = codes "(" ++ (b.letters ++ codes ")");
        head = 40;
        tail = b.letters ++ codes ")";
        encoded = ap printed_expr z ∙ (printed_group y
            ∙ joined_text (codes "(") (printed_expr y ++ codes ")") (codes "(") (b.letters ++ codes ")") (plain_text (codes "(") refl)
            (joined_text (printed_expr y) (codes ")") b.letters (codes ")") b.encoded (plain_text (codes ")") refl)));
        begins = refl;
        seen = token_first 40 [] p m t;
        dark_head = refl;
        again = λ r rest h apart alike.
            let (s, t1, l1) = token_back (codes "(") ((b.letters ++ codes ")") ++ rest) r h in
            let here : s.rest ≡ b.letters ++ (codes ")" ++ rest) =
            l1 ∙ (ap (beyond is_blank) (append_assoc b.letters (codes ")") rest) ∙ beyond_dark b.letters b.head b.tail (codes ")" ++ rest) b.begins b.dark_head) in
            let (o, w, j, l2, shape) = b.again s (codes ")" ++ rest) here (refl, refl) (one_first (sym (token_first 41 [] n q u))) in
            let (v, t2, l3) = token_back (codes ")") rest o l2 in (
              v,
              e.Group w,
              (no_if 40 r (token_first 40 [] r s t1) refl, group s o w t1 j.1 t2 refl),
              l3,
              bare_group w ∙ (ap (λ (c : Expr). e.Group c) shape ∙ (sym (bare_group y) ∙ sym (ap bare_expr z))),
            );
      }
