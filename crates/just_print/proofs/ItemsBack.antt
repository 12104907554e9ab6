-- What is printed of items without attributes and values of settings is read again.
use Rattle.std.proofs.Common.{◌≡◌, ℕ, ◌==◌, Bool, true, false, if◌then◌else◌, List, [], ◌∷◌, ◌++◌, map, Some, codes, encode_utf8_all, refl, sym, ap, ◌∙◌, append_assoc}
use Rattle.just_lang_read.specs.Place.{Place, Rule, next, run, first, first_in, sees}
use Rattle.just_lang_read.proofs.Laws.{sees_first}
use Rattle.just_lang_syntax.specs.declared.ast.Name.{Name}
use Rattle.just_lang_read.specs.declared.quote.Quote.{Quote}
use Rattle.just_lang_read.specs.declared.quote.Quote.TheVariants.{Single, Double, SingleBlock, DoubleBlock}
use Rattle.just_lang_syntax.specs.declared.ast.StringLiteral.{StringLiteral}
use Rattle.just_lang_syntax.specs.declared.ast.Expr.{Expr}
use Rattle.just_lang_syntax.specs.declared.ast.AstItem.{AstItem}
use Rattle.just_lang_syntax.specs.declared.ast.AstItem.TheVariants as item
use Rattle.just_lang_read.specs.Characters.{is_blank, in_name}
use Rattle.just_lang_read.specs.Lines.{behind_word}
use Rattle.just_lang_syntax.specs.Places.{name_at, IsComment}
use Rattle.just_lang_read.specs.Quotes.{quote_at, behind_x}
use Rattle.just_lang_syntax.specs.Strings.{IsString}
use Rattle.just_lang_syntax.specs.Strings.IsString.{string}
use Rattle.just_lang_syntax.specs.Exprs.{begins_condition, IsExpr}
use Rattle.just_lang_syntax.specs.Recipes.{IsMaybe}
use Rattle.just_lang_syntax.specs.Recipes.IsMaybe.{here, not_here}
use Rattle.just_lang_syntax.specs.Items.{IsAlias, IsImport, IsAssignment, IsUnexport}
use Rattle.just_print.specs.Printed.{newline, only_if, printed_string, printed_path, printed_expr, printed_end, printed_word, printed_item}
use Rattle.just_print.specs.Shapes.{bare_name, bare_string, bare_expr, bare_item}
use Rattle.just_print.proofs.Places.{beyond, beyond_dark, widen, token_back}
use Rattle.just_print.proofs.NamesBack.{Back, name_stands}
use Rattle.just_print.proofs.StringsBack.{quote_character, quote_first, string_back}
use Rattle.just_print.proofs.PathsBack.{name_cell, PathBack, path_back}
use Rattle.just_print.proofs.WordsBack.{joined_text, plain_text, begins_other}
use Rattle.just_print.proofs.ValuesBack.{At}
use Rattle.just_print.proofs.ExprsBack.{expr_back}
use Rattle.just_print.proofs.LinesBack.{comment_letters, comment_stands, EndBack, end_back}
use Rattle.just_print.proofs.DependenciesBack.{Follows}
use Rattle.just_print.proofs.ParametersBack.{dark_first}
use Rattle.just_print.proofs.RecipesBack.{end_follows}

-- an item's line is printed, and read again as one of the same shape
pub record ItemBack (Is : Rule AstItem) (x : AstItem) : Type 0 where
  pub letters : List ℕ
  pub encoded : (indentation : List ℕ) → printed_item indentation x ≡ encode_utf8_all letters
  pub again : (r : Place) (rest : List ℕ) → r.rest ≡ letters ++ rest → (s : Place) × (y : AstItem) × Is r s y × (s.rest ≡ rest) × (bare_item y ≡ bare_item x)

-- ---- aliases

-- an alias is printed and read as it is
pub alias_back : (p q : Place) (x : AstItem) → IsAlias p q x → ItemBack IsAlias x
alias_back p q x (m, n, o, r, name, target, comment, t, k, u, i, w, z) =
    let P : PathBack o target = path_back o r target i in
    let E : EndBack r comment = end_back r q comment w in
    let word : List ℕ = run in_name m.rest in
    let (c, f, cell, is_dark, is_letter) = name_cell m n name k in
    let tail : List ℕ = P.letters ++ E.letters in
    record {
      letters = codes "alias " ++ (word ++ (codes " := " ++ tail));
      encoded = λ indentation. ap (printed_item indentation) z
          ∙ joined_text (codes "alias ") (name.text ++ (codes " := " ++ (printed_path target ++ printed_end comment))) (codes "alias ") (word ++ (codes " := " ++ tail))
          (plain_text (codes "alias ") refl)
          (joined_text name.text (codes " := " ++ (printed_path target ++ printed_end comment)) word (codes " := " ++ tail) (ap (λ (b : Name). b.text) k.2)
          (joined_text (codes " := ") (printed_path target ++ printed_end comment) (codes " := ") tail (plain_text (codes " := ") refl)
          (joined_text (printed_path target) (printed_end comment) P.letters E.letters P.encoded E.encoded)));
      again = λ r0 rest h.
          let r2 : List ℕ = P.letters ++ (E.letters ++ rest) in
          let r1 : List ℕ = codes " := " ++ r2 in
          let spread : r0.rest ≡ codes "alias" ++ (codes " " ++ (word ++ r1)) =
          h ∙ ap (λ (l : List ℕ). codes "alias " ++ l) (append_assoc word (codes " := " ++ tail) rest
          ∙ ap (λ (l : List ℕ). word ++ (codes " := " ++ l)) (append_assoc P.letters E.letters rest)) in
          let (m2, t2, l1) = token_back (codes "alias") (codes " " ++ (word ++ r1)) r0 spread in
          let (is, l2, shape) = name_stands m n name k m2 r1 (l1 ∙ beyond_dark word c (run in_name (next m).rest) r1 cell is_dark) refl in
          let (o2, u2, l3) = token_back (codes ":=") (codes " " ++ r2) (behind_word m2) l2 in
          let F : Follows (E.letters ++ rest) r = end_follows r q comment w rest in
          let (e2, ns, i2, l4, shapes) = P.again o2 (E.letters ++ rest) (l3 ∙ beyond_dark P.letters P.head P.tail (E.letters ++ rest) P.begins P.dark_head) F.apart F.no_path in
          let (q2, w2, l5) = E.again e2 rest l4 in (
            q2,
            item.Alias (name_at m2) ns comment,
            (m2, behind_word m2, o2, e2, name_at m2, ns, comment, t2, is, u2, i2, w2, refl),
            l5,
            ap (λ (b : Name). item.Alias b (map bare_name ns) comment) shape
                ∙ (ap (λ (l : List Name). item.Alias (bare_name name) l comment) shapes ∙ sym (ap bare_item z)),
          );
    }

-- ---- assignments

-- a printed assignment without the word `export`
pub record AssignmentBack (export : Bool) (x : AstItem) : Type 0 where
  pub letters : List ℕ
  pub head : ℕ
  pub tail : List ℕ
  pub begins : letters ≡ head ∷ tail
  pub dark_head : is_blank head ≡ false
  pub encoded : (indentation : List ℕ) → printed_item indentation x ≡ only_if export (codes "export ") ++ encode_utf8_all letters
  pub again : (r : Place) (rest : List ℕ) → r.rest ≡ letters ++ rest → (s : Place) × (y : AstItem) × IsAssignment export r s y × (s.rest ≡ rest) × (bare_item y ≡ bare_item x)

-- an assignment, behind the word `export` or without it, is printed and read as it is
pub assignment_back : (export : Bool) (p q : Place) (x : AstItem) → IsAssignment export p q x → AssignmentBack export x
assignment_back export p q x (m, n, o, name, value, comment, k, u, i, w, z) =
    let V : Back (At IsExpr (begins_condition n)) bare_expr n o value (printed_expr value) = expr_back n o value i in
    let E : EndBack o comment = end_back o q comment w in
    let word : List ℕ = run in_name p.rest in
    let (c, f, cell, is_dark, is_letter) = name_cell p m name k in
    let tail : List ℕ = V.letters ++ E.letters in
    let text : List ℕ = name.text ++ (codes " := " ++ (printed_expr value ++ printed_end comment)) in
    record {
      letters = word ++ (codes " := " ++ tail);
      head = c;
      tail = run in_name (next p).rest ++ (codes " := " ++ tail);
      begins = ap (λ (l : List ℕ). l ++ (codes " := " ++ tail)) cell;
      dark_head = is_dark;
      encoded = λ indentation. ap (printed_item indentation) z ∙ ap (λ (l : List ℕ). only_if export (codes "export ") ++ l)
          (joined_text name.text (codes " := " ++ (printed_expr value ++ printed_end comment)) word (codes " := " ++ tail) (ap (λ (b : Name). b.text) k.2)
          (joined_text (codes " := ") (printed_expr value ++ printed_end comment) (codes " := ") tail (plain_text (codes " := ") refl)
          (joined_text (printed_expr value) (printed_end comment) V.letters E.letters V.encoded E.encoded)));
      again = λ r0 rest h.
          let r2 : List ℕ = V.letters ++ (E.letters ++ rest) in
          let r1 : List ℕ = codes " := " ++ r2 in
          let spread : r0.rest ≡ word ++ r1 =
          h ∙ (append_assoc word (codes " := " ++ tail) rest ∙ ap (λ (l : List ℕ). word ++ (codes " := " ++ l)) (append_assoc V.letters E.letters rest)) in
          let (is, l2, shape) = name_stands p m name k r0 r1 spread refl in
          let (n2, u2, l3) = token_back (codes ":=") (codes " " ++ r2) (behind_word r0) l2 in
          let (o2, y2, i2, l4, shape2) = V.again n2 (E.letters ++ rest) (l3 ∙ beyond_dark V.letters V.head V.tail (E.letters ++ rest) V.begins V.dark_head) (E.apart rest) (widen (beyond is_blank (E.letters ++ rest)) o.rest (E.alike rest)) in
          let (q2, w2, l5) = E.again o2 rest l4 in (
            q2,
            item.Assignment export (name_at r0) y2 comment,
            (behind_word r0, n2, o2, name_at r0, y2, comment, is, u2, i2.1, w2, refl),
            l5,
            ap (λ (b : Name). item.Assignment export b (bare_expr y2) comment) shape
                ∙ (ap (λ (b : Expr). item.Assignment export (bare_name name) b comment) shape2 ∙ sym (ap bare_item z)),
          );
    }

-- ---- unexports

-- an `unexport` is printed and read as it is
pub unexport_back : (p q : Place) (x : AstItem) → IsUnexport p q x → ItemBack IsUnexport x
unexport_back p q x (m, n, name, comment, t, k, w, z) =
    let E : EndBack n comment = end_back n q comment w in
    let word : List ℕ = run in_name m.rest in
    let (c, f, cell, is_dark, is_letter) = name_cell m n name k in
    record {
      letters = codes "unexport " ++ (word ++ E.letters);
      encoded = λ indentation. ap (printed_item indentation) z
          ∙ joined_text (codes "unexport ") (name.text ++ printed_end comment) (codes "unexport ") (word ++ E.letters) (plain_text (codes "unexport ") refl)
          (joined_text name.text (printed_end comment) word E.letters (ap (λ (b : Name). b.text) k.2) E.encoded);
      again = λ r0 rest h.
          let r1 : List ℕ = E.letters ++ rest in
          let (m2, t2, l1) = token_back (codes "unexport") (codes " " ++ ((word ++ E.letters) ++ rest)) r0 h in
          let start : m2.rest ≡ word ++ r1 = l1 ∙ (ap (beyond is_blank) (append_assoc word E.letters rest) ∙ beyond_dark word c (run in_name (next m).rest) r1 cell is_dark) in
          let (is, l2, shape) = name_stands m n name k m2 r1 start (E.apart rest).0 in
          let (q2, w2, l3) = E.again (behind_word m2) rest l2 in (
            q2,
            item.Unexport (name_at m2) comment,
            (m2, behind_word m2, name_at m2, comment, t2, is, w2, refl),
            l3,
            ap (λ (b : Name). item.Unexport b comment) shape ∙ sym (ap bare_item z),
          );
    }

-- ---- imports

-- a `?` and a blank, or the blank alone
pub maybe_blank : (b : Bool) (d : ℕ) (r : Place) (more : List ℕ) → r.rest ≡ beyond is_blank (only_if b (codes "?") ++ (codes " " ++ more)) → first_in more ≡ Some d
    → (d == 63) ≡ false → is_blank d ≡ false → (s : Place) × IsMaybe (codes "?") r s b × (s.rest ≡ more)
maybe_blank true d r more h f n k =
    let (s, t, left) = token_back (codes "?") (codes " " ++ more) r h in (s, here t refl, left ∙ dark_first more d f k)
maybe_blank false d r more h f n k =
    let start : r.rest ≡ more = h ∙ dark_first more d f k in
    (r, not_here (begins_other d 63 [] r (ap first_in start ∙ f) n) refl refl, start)

quote_no_mark : (quote : Quote) → (quote_character quote == 63) ≡ false
quote_no_mark Single = refl
quote_no_mark Double = refl
quote_no_mark SingleBlock = refl
quote_no_mark DoubleBlock = refl

string_mark_by : (b : Bool) (p : Place) (quote : Quote) → sees 120 p ≡ b → quote_at (behind_x p) ≡ Some quote → (c : ℕ) × (first p ≡ Some c) × ((c == 63) ≡ false)
string_mark_by true p quote h o = (120, sees_first 120 p h, refl)
string_mark_by false p quote h o =
    (quote_character quote, quote_first p quote (ap (λ (b : Bool). quote_at (if b then next p else p)) (sym h) ∙ o), quote_no_mark quote)

-- no string begins with a question mark
pub string_no_mark : (p q : Place) (x : StringLiteral) → IsString p q x → (c : ℕ) × (first p ≡ Some c) × ((c == 63) ≡ false)
string_no_mark p q x (string m quote raw o r u z) = string_mark_by (sees 120 p) p quote refl o

-- a question mark that is wanted is encoded as it stands
pub only_mark : (b : Bool) → only_if b (codes "?") ≡ encode_utf8_all (only_if b (codes "?"))
only_mark true = plain_text (codes "?") refl
only_mark false = refl

-- an import is printed and read as it is
pub import_back : (p q : Place) (x : AstItem) → IsImport p q x → ItemBack IsImport x
import_back p q x (m, n, o, optional, path, comment, t, a, i, w, z) =
    let B : Back IsString bare_string n o path (printed_string path) = string_back n o path i in
    let E : EndBack o comment = end_back o q comment w in
    let at : List ℕ = only_if optional (codes "?") in
    let (d, f, no_mark) = string_no_mark n o path i in
    let both : Some d ≡ Some B.head = sym f ∙ B.seen in
    let head : d ≡ B.head = cc (both) in
    let tail : List ℕ = B.letters ++ E.letters in
    let text : List ℕ = printed_string path ++ printed_end comment in
    let moved : printed_word (codes "import") optional ++ text ≡ codes "import" ++ (at ++ (codes " " ++ text)) =
    ap (λ (l : List ℕ). codes "import" ++ l) (append_assoc at (codes " ") text) in
    record {
      letters = codes "import" ++ (at ++ (codes " " ++ tail));
      encoded = λ indentation. ap (printed_item indentation) z ∙ (moved
          ∙ joined_text (codes "import") (at ++ (codes " " ++ text)) (codes "import") (at ++ (codes " " ++ tail)) (plain_text (codes "import") refl)
          (joined_text at (codes " " ++ text) at (codes " " ++ tail) (only_mark optional)
          (joined_text (codes " ") text (codes " ") tail (plain_text (codes " ") refl)
          (joined_text (printed_string path) (printed_end comment) B.letters E.letters B.encoded E.encoded))));
      again = λ r0 rest h.
          let r1 : List ℕ = B.letters ++ (E.letters ++ rest) in
          let spread : r0.rest ≡ codes "import" ++ (at ++ (codes " " ++ r1)) =
          h ∙ ap (λ (l : List ℕ). codes "import" ++ l) (append_assoc at (codes " " ++ tail) rest
          ∙ ap (λ (l : List ℕ). at ++ (codes " " ++ l)) (append_assoc B.letters E.letters rest)) in
          let (m2, t2, l1) = token_back (codes "import") (at ++ (codes " " ++ r1)) r0 spread in
          let (n2, a2, l2) = maybe_blank optional B.head m2 r1 l1 (ap (λ (l : List ℕ). first_in (l ++ (E.letters ++ rest))) B.begins)
          (ap (λ (e : ℕ). e == 63) (sym head) ∙ no_mark) B.dark_head in
          let (o2, y2, i2, l3, shape) = B.again n2 (E.letters ++ rest) l2 (E.apart rest) (widen (beyond is_blank (E.letters ++ rest)) o.rest (E.alike rest)) in
          let (q2, w2, l4) = E.again o2 rest l3 in (
            q2,
            item.Import optional y2 comment,
            (m2, n2, o2, optional, y2, comment, t2, a2, i2, w2, refl),
            l4,
            ap (λ (b : StringLiteral). item.Import optional b comment) shape ∙ sym (ap bare_item z),
          );
    }

-- ---- comments that stand alone

-- a comment that stands alone is printed and read as it is
pub comment_back : (p q : Place) (t : List ℕ) → IsComment p q t → ItemBack (λ r s y. (u : List ℕ) × IsComment r s u × (y ≡ item.Comment u)) (item.Comment t)
comment_back p q t i =
    record {
      letters = comment_letters p ++ newline;
      encoded = λ indentation. joined_text t newline (comment_letters p) newline i.1 (plain_text newline refl);
      again = λ r rest h.
          let (s, is, left) = comment_stands p q t i r rest (h ∙ append_assoc (comment_letters p) newline rest) in (s, item.Comment t, (t, is, refl), left, refl);
    }
