-- What is printed of settings is read again.
use Rattle.std.specs.Option.{option_map}
use Rattle.std.proofs.Common.{◌≡◌, ℕ, ◌==◌, Bool, true, false, ◌&&◌, List, [], ◌∷◌, ◌++◌, map, Option, Some, None, ◌⊎◌, inl, inr, ⊎_elim, codes, encode_utf8_all, refl, sym, ap, ◌∙◌, subst, append_assoc}
use Rattle.just_lang_read.specs.Place.{Place, AreMany, next, run, first, first_in, passes, begins}
use Rattle.just_lang_read.proofs.Laws.{starts_at}
use Rattle.just_lang_syntax.specs.declared.ast.Name.{Name}
use Rattle.just_lang_read.specs.declared.quote.Quote.{Quote}
use Rattle.just_lang_read.specs.declared.quote.Quote.TheVariants.{Single, Double, SingleBlock, DoubleBlock}
use Rattle.just_lang_syntax.specs.declared.ast.StringLiteral.{StringLiteral}
use Rattle.just_lang_syntax.specs.declared.ast.Expr.{Expr}
use Rattle.just_lang_syntax.specs.declared.ast.SettingValue.{SettingValue}
use Rattle.just_lang_syntax.specs.declared.ast.SettingValue.TheVariants as setting
use Rattle.just_lang_syntax.specs.declared.ast.AstItem.{AstItem}
use Rattle.just_lang_syntax.specs.declared.ast.AstItem.TheVariants as item
use Rattle.just_lang_syntax.specs.declared.form.Sort.{Sort}
use Rattle.just_lang_syntax.specs.declared.form.Sort.TheVariants as sort
use Rattle.just_lang_read.specs.Characters.{is_blank, in_name, is_quote}
use Rattle.just_lang_read.specs.Lines.{skip, behind_word}
use Rattle.just_lang_syntax.specs.Places.{name_at, IsRest}
use Rattle.just_lang_read.specs.Quotes.{behind_x, begins_string}
use Rattle.just_lang_syntax.specs.Strings.{IsString}
use Rattle.just_lang_syntax.specs.Strings.IsString.{string}
use Rattle.just_lang_syntax.specs.Exprs.{begins_condition, IsExpr}
use Rattle.just_lang_syntax.specs.Forms.{sort_of}
use Rattle.just_lang_syntax.specs.Attributes.IsTrailing.{nothing}
use Rattle.just_lang_syntax.specs.Items.{goes_on, IsTruth, IsFurtherString, AreStrings, IsSettingValue, IsSetting}
use Rattle.just_lang_syntax.specs.Items.IsTruth.{yes_word, no_word}
use Rattle.just_lang_syntax.specs.Items.AreStrings.{none, some}
use Rattle.just_lang_syntax.specs.Items.IsSettingValue.{absent, flag, text, list, any_text, any_list}
use Rattle.just_print.specs.Printed.{led, printed_string, printed_strings, printed_expr, printed_setting, printed_end, printed_item}
use Rattle.just_print.specs.Shapes.{bare_name, bare_string, bare_expr, bare_value, bare_item}
use Rattle.just_print.proofs.Places.{beyond, beyond_dark, widen, one_first, alike_test, IsApart, token_back}
use Rattle.just_print.proofs.NamesBack.{Back, name_stands}
use Rattle.just_print.proofs.StringsBack.{quote_character, quote_first, StringStands, string_stands}
use Rattle.just_print.proofs.PathsBack.{name_cell}
use Rattle.just_print.proofs.WordsBack.{joined_text, plain_text, begins_other, begins_alike, word_back}
use Rattle.just_print.proofs.ValuesBack.{At}
use Rattle.just_print.proofs.ExprsBack.{expr_back}
use Rattle.just_print.proofs.LinesBack.{EndBack, end_back}
use Rattle.just_print.proofs.RecipesBack.{rest_first, begins_not}
use Rattle.just_print.proofs.ItemsBack.{ItemBack}

-- ---- lists of strings

quote_is : (quote : Quote) → is_quote (quote_character quote) ≡ true
quote_is Single = refl
quote_is Double = refl
quote_is SingleBlock = refl
quote_is DoubleBlock = refl

-- where a string stands, one begins
string_begins : (p q : Place) (x : StringLiteral) → IsString p q x → begins_string p ≡ true
string_begins p q x (string m quote raw o r u z) =
    starts_at is_quote (behind_x p) (quote_character quote) (quote_first (behind_x p) quote o) ∙ quote_is quote

-- strings behind commas, before the bracket that closes them
pub record FurtherStrings (xs : List StringLiteral) : Type 0 where
  pub letters : List ℕ
  pub encoded : led (codes ", ") (map printed_string xs) ≡ encode_utf8_all letters
  pub apart : (rest : List ℕ) → IsApart (letters ++ (codes "]" ++ rest))
  pub again : (s : Place) (rest : List ℕ) → s.rest ≡ beyond is_blank (letters ++ (codes "]" ++ rest))
      → (t : Place) × (ys : List StringLiteral) × AreMany IsFurtherString s t ys × (t.rest ≡ codes "]" ++ rest) × (map bare_string ys ≡ map bare_string xs)

further_strings : (p q : Place) (xs : List StringLiteral) → AreMany IsFurtherString p q xs → FurtherStrings xs
further_strings p q [] e = record { letters = []; encoded = refl; apart = λ rest. (refl, refl); again = λ s rest h. (s, [], refl, h, refl) }
further_strings p q (x ∷ xs) (k, (m, g, t, i), are) =
    let O : FurtherStrings xs = further_strings k q xs are in
    let b : StringStands m x = string_stands m k x i in
    record {
      letters = codes ", " ++ (b.letters ++ O.letters);
      encoded = joined_text (codes ", ") (printed_string x ++ led (codes ", ") (map printed_string xs)) (codes ", ") (b.letters ++ O.letters) (plain_text (codes ", ") refl)
          (joined_text (printed_string x) (led (codes ", ") (map printed_string xs)) b.letters O.letters b.encoded O.encoded);
      apart = λ rest. (refl, refl);
      again = λ s rest h.
          let r1 : List ℕ = O.letters ++ (codes "]" ++ rest) in
          let (m2, t2, l1) = token_back (codes ",") (codes " " ++ ((b.letters ++ O.letters) ++ (codes "]" ++ rest))) s h in
          let start : m2.rest ≡ b.letters ++ r1 =
          l1 ∙ (ap (beyond is_blank) (append_assoc b.letters O.letters (codes "]" ++ rest)) ∙ beyond_dark b.letters b.head b.tail r1 b.begins b.dark_head) in
          let (k2, y, j, l2, shape) = b.again m2 r1 start (O.apart rest) in
          let goes : goes_on s ≡ true = ap (λ (c : Bool). c && begins_string (skip (next s))) t2.0 ∙ (ap begins_string (sym t2.1) ∙ string_begins m2 k2 y j) in
          let (t3, ys, many, l3, shapes) = O.again k2 rest l2 in
          (t3, y ∷ ys, (k2, (m2, goes, t2, j), many), l3, ap (λ (a : StringLiteral). a ∷ map bare_string ys) shape ∙ ap (λ (l : List StringLiteral). bare_string x ∷ l) shapes);
    }

-- strings in brackets are printed and read as they are
pub record ListBack (xs : List StringLiteral) : Type 0 where
  pub letters : List ℕ
  pub tail : List ℕ
  pub encoded : printed_strings xs ≡ encode_utf8_all letters
  pub begins : letters ≡ 91 ∷ tail
  pub again : (s : Place) (rest : List ℕ) → s.rest ≡ letters ++ rest
      → (t : Place) × (ys : List StringLiteral) × AreStrings s t ys × (t.rest ≡ beyond is_blank rest) × (map bare_string ys ≡ map bare_string xs)

empty_back : ListBack []
empty_back =
    record {
      letters = codes "[]";
      tail = codes "]";
      encoded = plain_text (codes "[]") refl;
      begins = refl;
      again = λ s rest h.
          let (m, t, l1) = token_back (codes "[") (codes "]" ++ rest) s h in
          let (q, u, l2) = token_back (codes "]") rest m l1 in
          (q, [], none m t u refl, l2, refl);
    }

some_back : (m n o : Place) (x : StringLiteral) (xs : List StringLiteral) → IsString m n x → AreMany IsFurtherString n o xs → ListBack (x ∷ xs)
some_back m n o x xs i are =
    let O : FurtherStrings xs = further_strings n o xs are in
    let b : StringStands m x = string_stands m n x i in
    let others : List ℕ = led (codes ", ") (map printed_string xs) in
    record {
      letters = codes "[" ++ ((b.letters ++ O.letters) ++ codes "]");
      tail = (b.letters ++ O.letters) ++ codes "]";
      encoded = joined_text (codes "[") ((printed_string x ++ others) ++ codes "]") (codes "[") ((b.letters ++ O.letters) ++ codes "]") (plain_text (codes "[") refl)
          (joined_text (printed_string x ++ others) (codes "]") (b.letters ++ O.letters) (codes "]") (joined_text (printed_string x) others b.letters O.letters b.encoded O.encoded)
          (plain_text (codes "]") refl));
      begins = refl;
      again = λ s rest h.
          let r1 : List ℕ = O.letters ++ (codes "]" ++ rest) in
          let (m2, t2, l1) = token_back (codes "[") (((b.letters ++ O.letters) ++ codes "]") ++ rest) s h in
          let start : m2.rest ≡ b.letters ++ r1 =
          l1 ∙ (ap (beyond is_blank) (append_assoc (b.letters ++ O.letters) (codes "]") rest ∙ append_assoc b.letters O.letters (codes "]" ++ rest))
          ∙ beyond_dark b.letters b.head b.tail r1 b.begins b.dark_head) in
          let (n2, y, j, l2, shape) = b.again m2 r1 start (O.apart rest) in
          let (o2, ys, many, l3, shapes) = O.again n2 rest l2 in
          let no_comma : begins (codes ",") o2 ≡ false = begins_other 93 44 [] o2 (ap first_in l3) refl in
          let (q2, u2, l4) = token_back (codes "]") rest o2 l3 in (
            q2,
            y ∷ ys,
            some m2 n2 o2 o2 y ys t2 j many (ap (λ (c : Bool). c && begins_string (skip (next o2))) no_comma) (nothing no_comma refl) u2 refl,
            l4,
            ap (λ (a : StringLiteral). a ∷ map bare_string ys) shape ∙ ap (λ (l : List StringLiteral). bare_string x ∷ l) shapes,
          );
    }

-- strings in brackets are printed and read as they are
pub strings_back : (p q : Place) (xs : List StringLiteral) → AreStrings p q xs → ListBack xs
strings_back p q xs (none m t u z) = subst (λ (ys : List StringLiteral). ListBack ys) (sym z) empty_back
strings_back p q xs (some m n o r first others t i are g c u z) = subst (λ (ys : List StringLiteral). ListBack ys) (sym z) (some_back m n o first others i are)

-- ---- values of settings, before the end of the line

pub record SettingBack (kind : Sort) (value : Option SettingValue) (end : List ℕ) : Type 0 where
  pub letters : List ℕ
  pub encoded : printed_setting value ≡ encode_utf8_all letters
  pub apart : (rest : List ℕ) → IsApart (letters ++ (end ++ rest))
  pub again : (s : Place) (rest : List ℕ) → s.rest ≡ beyond is_blank (letters ++ (end ++ rest))
      → (t : Place) × (y : Option SettingValue) × IsSettingValue kind s t y × (t.rest ≡ beyond is_blank (end ++ rest)) × (option_map bare_value y ≡ option_map bare_value value)

module _ (kind : Sort) (o q : Place) (comment : Option (List ℕ)) (w : IsRest o q comment) where
  absent_back : (kind ≡ sort.Text → ⊥) → (kind ≡ sort.List → ⊥) → SettingBack kind None (end_back o q comment w).letters
  absent_back a b =
      let E : EndBack o comment = end_back o q comment w in
      record {
        letters = [];
        encoded = refl;
        apart = E.apart;
        again = λ s rest h.
            let no_sign : begins (codes ":=") s ≡ false =
            begins_not 58 (61 ∷ []) s.rest (ap (λ (l : List ℕ). passes (λ d. d == 58) (first_in l)) h
            ∙ (alike_test (λ d. d == 58) (beyond is_blank (E.letters ++ rest)) o.rest refl refl (E.alike rest) ∙ rest_first (λ d. d == 58) o q comment refl refl refl w)) in
            (s, None, absent a b no_sign refl refl, h, refl);
      }

  yes_back : kind ≡ sort.Flag → SettingBack kind (Some (setting.Bool true)) (end_back o q comment w).letters
  yes_back k =
      let E : EndBack o comment = end_back o q comment w in
      record {
        letters = codes " := true";
        encoded = plain_text (codes " := true") refl;
        apart = λ rest. (refl, refl);
        again = λ s rest h.
            let (m2, t2, l1) = token_back (codes ":=") (codes " true" ++ (E.letters ++ rest)) s h in
            let (o2, w2, l2) = word_back (codes "true") (E.letters ++ rest) m2 l1 (E.apart rest).0 in
            (o2, Some (setting.Bool true), flag m2 true k t2 (yes_word w2 refl) refl, l2, refl);
      }

  no_back : kind ≡ sort.Flag → SettingBack kind (Some (setting.Bool false)) (end_back o q comment w).letters
  no_back k =
      let E : EndBack o comment = end_back o q comment w in
      record {
        letters = codes " := false";
        encoded = plain_text (codes " := false") refl;
        apart = λ rest. (refl, refl);
        again = λ s rest h.
            let (m2, t2, l1) = token_back (codes ":=") (codes " false" ++ (E.letters ++ rest)) s h in
            let (o2, w2, l2) = word_back (codes "false") (E.letters ++ rest) m2 l1 (E.apart rest).0 in
            (o2, Some (setting.Bool false), flag m2 false k t2 (no_word w2 refl) refl, l2, refl);
      }

  truth_back : (m : Place) (b : Bool) → kind ≡ sort.Flag → IsTruth m o b → SettingBack kind (Some (setting.Bool b)) (end_back o q comment w).letters
  truth_back m b k (yes_word i z) = subst (λ (c : Bool). SettingBack kind (Some (setting.Bool c)) (end_back o q comment w).letters) (sym z) (yes_back k)
  truth_back m b k (no_word i z) = subst (λ (c : Bool). SettingBack kind (Some (setting.Bool c)) (end_back o q comment w).letters) (sym z) (no_back k)

  -- a text, of which an unknown setting's doesn't begin with a bracket
  text_back : (m : Place) (y : Expr) → ((kind ≡ sort.Text) ⊎ ((kind ≡ sort.Open) × (begins (codes "[") m ≡ false))) → IsExpr m o y
      → SettingBack kind (Some (setting.Text y)) (end_back o q comment w).letters
  text_back m y k i =
      let E : EndBack o comment = end_back o q comment w in
      let b : Back (At IsExpr (begins_condition m)) bare_expr m o y (printed_expr y) = expr_back m o y i in
      record {
        letters = codes " := " ++ b.letters;
        encoded = joined_text (codes " := ") (printed_expr y) (codes " := ") b.letters (plain_text (codes " := ") refl) b.encoded;
        apart = λ rest. (refl, refl);
        again = λ s rest h.
            let (m2, t2, l1) = token_back (codes ":=") (codes " " ++ (b.letters ++ (E.letters ++ rest))) s h in
            let start : m2.rest ≡ b.letters ++ (E.letters ++ rest) = l1 ∙ beyond_dark b.letters b.head b.tail (E.letters ++ rest) b.begins b.dark_head in
            let (o2, x, j, l2, shape) = b.again m2 (E.letters ++ rest) start (E.apart rest) (widen (beyond is_blank (E.letters ++ rest)) o.rest (E.alike rest)) in
            let bracket : begins (codes "[") m2 ≡ begins (codes "[") m =
            begins_alike 91 m2 m refl refl (one_first (ap first_in start ∙ (ap (λ (l : List ℕ). first_in (l ++ (E.letters ++ rest))) b.begins ∙ sym b.seen))) in
            let is : IsSettingValue kind s o2 (Some (setting.Text x)) =
            ⊎_elim (λ (a : _). text m2 x a t2 j.1 refl) (λ (a : _). any_text m2 x a.0 t2 (bracket ∙ a.1) j.1 refl) k in
            (o2, Some (setting.Text x), is, l2, ap (λ (a : Expr). Some (setting.Text a)) shape);
      }

  list_back : (m : Place) (ys : List StringLiteral) → ((kind ≡ sort.List) ⊎ (kind ≡ sort.Open)) → AreStrings m o ys
      → SettingBack kind (Some (setting.List ys)) (end_back o q comment w).letters
  list_back m ys k i =
      let E : EndBack o comment = end_back o q comment w in
      let b : ListBack ys = strings_back m o ys i in
      record {
        letters = codes " := " ++ b.letters;
        encoded = joined_text (codes " := ") (printed_strings ys) (codes " := ") b.letters (plain_text (codes " := ") refl) b.encoded;
        apart = λ rest. (refl, refl);
        again = λ s rest h.
            let (m2, t2, l1) = token_back (codes ":=") (codes " " ++ (b.letters ++ (E.letters ++ rest))) s h in
            let start : m2.rest ≡ b.letters ++ (E.letters ++ rest) = l1 ∙ beyond_dark b.letters 91 b.tail (E.letters ++ rest) b.begins refl in
            let (o2, zs, j, l2, shapes) = b.again m2 (E.letters ++ rest) start in
            let is : IsSettingValue kind s o2 (Some (setting.List zs)) =
            ⊎_elim (λ (a : _). list m2 zs a t2 j refl) (λ (a : _). any_list m2 zs a t2 j refl) k in
            (o2, Some (setting.List zs), is, l2, ap (λ (l : List StringLiteral). Some (setting.List l)) shapes);
      }

  setting_value_back : (n : Place) (x : Option SettingValue) → IsSettingValue kind n o x → SettingBack kind x (end_back o q comment w).letters
  setting_value_back n x (absent a b s e z) = subst (λ (y : Option SettingValue). SettingBack kind y (end_back o q comment w).letters) (sym z) (absent_back a b)
  setting_value_back n x (flag m b k t i z) = subst (λ (y : Option SettingValue). SettingBack kind y (end_back o q comment w).letters) (sym z) (truth_back m b k i)
  setting_value_back n x (text m y k t i z) = subst (λ (a : Option SettingValue). SettingBack kind a (end_back o q comment w).letters) (sym z) (text_back m y (inl k) i)
  setting_value_back n x (list m ys k t i z) = subst (λ (a : Option SettingValue). SettingBack kind a (end_back o q comment w).letters) (sym z) (list_back m ys (inl k) i)
  setting_value_back n x (any_text m y k t b i z) =
      subst (λ (a : Option SettingValue). SettingBack kind a (end_back o q comment w).letters) (sym z) (text_back m y (inr (k, b)) i)
  setting_value_back n x (any_list m ys k t i z) = subst (λ (a : Option SettingValue). SettingBack kind a (end_back o q comment w).letters) (sym z) (list_back m ys (inr k) i)

-- a setting is printed and read as it is
pub setting_back : (p q : Place) (x : AstItem) → IsSetting p q x → ItemBack IsSetting x
setting_back p q x (m, n, o, name, value, comment, t, k, v, w, z) =
    let E : EndBack o comment = end_back o q comment w in
    let V : SettingBack (sort_of name.text) value E.letters = setting_value_back (sort_of name.text) o q comment w n value v in
    let word : List ℕ = run in_name m.rest in
    let (c, f, cell, is_dark, is_letter) = name_cell m n name k in
    record {
      letters = codes "set " ++ (word ++ (V.letters ++ E.letters));
      encoded = λ indentation. ap (printed_item indentation) z
          ∙ joined_text (codes "set ") (name.text ++ (printed_setting value ++ printed_end comment)) (codes "set ") (word ++ (V.letters ++ E.letters)) (plain_text (codes "set ") refl)
          (joined_text name.text (printed_setting value ++ printed_end comment) word (V.letters ++ E.letters) (ap (λ (b : Name). b.text) k.2)
          (joined_text (printed_setting value) (printed_end comment) V.letters E.letters V.encoded E.encoded));
      again = λ r0 rest h.
          let r1 : List ℕ = V.letters ++ (E.letters ++ rest) in
          let spread : r0.rest ≡ codes "set" ++ (codes " " ++ (word ++ r1)) =
          h ∙ ap (λ (l : List ℕ). codes "set " ++ l) (append_assoc word (V.letters ++ E.letters) rest ∙ ap (λ (l : List ℕ). word ++ l) (append_assoc V.letters E.letters rest)) in
          let (m2, t2, l1) = token_back (codes "set") (codes " " ++ (word ++ r1)) r0 spread in
          let (is, l2, shape) = name_stands m n name k m2 r1 (l1 ∙ beyond_dark word c (run in_name (next m).rest) r1 cell is_dark) (V.apart rest).0 in
          let (o2, y, v2, l3, shape2) = V.again (behind_word m2) rest l2 in
          let (q2, w2, l4) = E.again o2 rest l3 in
          let same_kind : sort_of name.text ≡ sort_of (name_at m2).text = ap (λ (b : Name). sort_of b.text) (sym shape) in
          let v3 : IsSettingValue (sort_of (name_at m2).text) (behind_word m2) o2 y = subst (λ (g : Sort). IsSettingValue g (behind_word m2) o2 y) same_kind v2 in (
            q2,
            item.Setting (name_at m2) y comment,
            (m2, behind_word m2, o2, name_at m2, y, comment, t2, is, v3, w2, refl),
            l4,
            ap (λ (b : Name). item.Setting b (option_map bare_value y) comment) shape
                ∙ (ap (λ (b : Option SettingValue). item.Setting (bare_name name) b comment) shape2 ∙ sym (ap bare_item z)),
          );
    }
