-- What is printed of attributes is read again, each on a line of its own.
use Rattle.std.proofs.Common.{◌≡◌, ℕ, true, false, List, [], ◌∷◌, ◌++◌, map, Option, None, ◌⊎◌, inl, inr, codes, encode_utf8_all, refl, sym, ap, ◌∙◌, subst, append_assoc, append-nil}
use Rattle.just_lang_read.specs.Place.{Place, AreMany, next, run, first_in, passes, begins_in}
use Rattle.just_lang_syntax.specs.declared.ast.Name.{Name}
use Rattle.just_lang_syntax.specs.declared.ast.StringLiteral.{StringLiteral}
use Rattle.just_lang_syntax.specs.declared.ast.Expr.{Expr}
use Rattle.just_lang_syntax.specs.declared.ast.Expr.TheVariants as e
use Rattle.just_lang_syntax.specs.declared.ast.Argument.{Argument}
use Rattle.just_lang_syntax.specs.declared.ast.Attribute.{Attribute}
use Rattle.just_lang_syntax.specs.declared.form.Form.{Form}
use Rattle.just_lang_read.specs.Characters.{is_blank, in_name}
use Rattle.just_lang_read.specs.Lines.{skip, behind_word}
use Rattle.just_lang_syntax.specs.Places.{name_at, IsName, IsRest}
use Rattle.just_lang_syntax.specs.Places.IsRest.{ended}
use Rattle.just_lang_syntax.specs.Strings.{IsString}
use Rattle.just_lang_syntax.specs.Forms.{form_of, may_be_bare, has_colon}
use Rattle.just_lang_syntax.specs.Attributes.{argument_at, AreArguments, attribute_of, IsAttribute, IsFurtherAttribute, with_comment, IsAttributeLine, concat, AreAttributes}
use Rattle.just_lang_syntax.specs.Attributes.IsAttribute.{bare, behind_colon, grouped}
use Rattle.just_lang_syntax.specs.Attributes.IsAttributeLine.{in_brackets}
use Rattle.just_lang_syntax.specs.Attributes.AreAttributes.{line_by_line}
use Rattle.just_print.specs.Printed.{newline, printed_expr, printed_end, behind_attribute, printed_attribute, printed_attributes}
use Rattle.just_print.specs.Shapes.{bare_name, bare_expr, bare_argument, bare_attribute}
use Rattle.just_print.proofs.Exprs.{literal_is}
use Rattle.just_print.proofs.BareExprs.{bare_literal}
use Rattle.just_print.proofs.Places.{beyond, past_rest, beyond_dark, beyond_nothing, token_back}
use Rattle.just_print.proofs.NamesBack.{name_stands}
use Rattle.just_print.proofs.StringsBack.{StringStands, string_stands}
use Rattle.just_print.proofs.PathsBack.{name_cell}
use Rattle.just_print.proofs.WordsBack.{joined_text, plain_text, begins_other}
use Rattle.just_print.proofs.LinesBack.{newline_back, EndBack, end_back}
use Rattle.just_print.proofs.ArgumentsBack.{placed}
use Rattle.just_print.proofs.ArgumentListsBack.{ArgumentsBack, arguments_back}

-- ---- an attribute, before the bracket that closes it

-- an attribute without a comment is printed and read with the same shape
record AttributeBack (x : Attribute) : Type 0 where
  letters : List ℕ
  head : ℕ
  tail : List ℕ
  encoded : x.name.text ++ behind_attribute x.colon x.arguments ≡ encode_utf8_all letters
  begins_so : letters ≡ head ∷ tail
  dark_head : is_blank head ≡ false
  no_comment : record x { comment = None } ≡ x
  again : (r : Place) (rest : List ℕ) → r.rest ≡ letters ++ (codes "]" ++ rest)
      → (s : Place) × (y : Attribute) × IsAttribute r s y × (s.rest ≡ codes "]" ++ rest) × (bare_attribute y ≡ bare_attribute x)

-- an attribute that is a name alone
alone_back : (p q : Place) (n : Name) → IsName p q n → may_be_bare (form_of n.text) ≡ true → AttributeBack (attribute_of n false [])
alone_back p q n i may =
    let word : List ℕ = run in_name p.rest in
    let (c, f, cell, is_dark, is_letter) = name_cell p q n i in
    record {
      letters = word;
      head = c;
      tail = run in_name (next p).rest;
      encoded = append-nil n.text ∙ ap (λ (a : Name). a.text) i.2;
      begins_so = cell;
      dark_head = is_dark;
      no_comment = refl;
      again = λ r rest h.
          let (is, left, shape) = name_stands p q n i r (codes "]" ++ rest) h refl in
          let same : (name_at r).text ≡ n.text = ap (λ (a : Name). a.text) shape in (
            behind_word r,
            attribute_of (name_at r) false [],
            bare (name_at r) is (ap (λ (t : List ℕ). may_be_bare (form_of t)) same ∙ may) (begins_other 93 58 [] (behind_word r) (ap first_in left) refl)
                (begins_other 93 40 [] (behind_word r) (ap first_in left) refl) refl,
            left,
            ap (λ (a : Name). attribute_of a false []) shape,
          );
    }

-- an attribute with a string behind a colon
colon_back : (p m o q : Place) (n : Name) (s : StringLiteral) → IsName p m n → has_colon (form_of n.text) ≡ true → IsString o q s
    → AttributeBack (attribute_of n true (argument_at None o (e.Literal s) ∷ []))
colon_back p m o q n s i has j =
    let word : List ℕ = run in_name p.rest in
    let (c, f, cell, is_dark, is_letter) = name_cell p m n i in
    let b : StringStands o s = string_stands o q s j in
    let text : printed_expr (e.Literal s) ++ [] ≡ encode_utf8_all b.letters = append-nil (printed_expr (e.Literal s)) ∙ (literal_is s ∙ b.encoded) in
    record {
      letters = word ++ (codes ": " ++ b.letters);
      head = c;
      tail = run in_name (next p).rest ++ (codes ": " ++ b.letters);
      encoded = joined_text n.text (codes ": " ++ (printed_expr (e.Literal s) ++ [])) word (codes ": " ++ b.letters) (ap (λ (a : Name). a.text) i.2)
          (joined_text (codes ": ") (printed_expr (e.Literal s) ++ []) (codes ": ") b.letters (plain_text (codes ": ") refl) text);
      begins_so = ap (λ (l : List ℕ). l ++ (codes ": " ++ b.letters)) cell;
      dark_head = is_dark;
      no_comment = refl;
      again = λ r rest h.
          let more : List ℕ = b.letters ++ (codes "]" ++ rest) in
          let (is, l1, shape) = name_stands p m n i r (codes ": " ++ more) (h ∙ append_assoc word (codes ": " ++ b.letters) (codes "]" ++ rest)) refl in
          let (o2, t2, l2) = token_back (codes ":") (codes " " ++ more) (behind_word r) l1 in
          let (q2, s2, j2, left, shape2) =
          b.again o2 (codes "]" ++ rest) (l2 ∙ beyond_dark b.letters b.head b.tail (codes "]" ++ rest) b.begins b.dark_head) (refl, refl) in
          let same : (name_at r).text ≡ n.text = ap (λ (a : Name). a.text) shape in (
            q2,
            attribute_of (name_at r) true (argument_at None o2 (e.Literal s2) ∷ []),
            behind_colon (behind_word r) o2 (name_at r) s2 is (ap (λ (t : List ℕ). has_colon (form_of t)) same ∙ has) t2 j2 refl,
            left,
            ap (λ (a : Name). attribute_of a true (placed None (bare_expr (e.Literal s2)) ∷ [])) shape
                ∙ ap (λ (v : Expr). attribute_of (bare_name n) true (placed None v ∷ []))
                (bare_literal s2 ∙ (ap (λ (u : StringLiteral). e.Literal u) shape2 ∙ sym (bare_literal s))),
          );
    }

-- an attribute with arguments in parentheses
grouped_back : (p m q : Place) (n : Name) (xs : List Argument) → IsName p m n → AreArguments (form_of n.text) m q xs → AttributeBack (attribute_of n false xs)
grouped_back p m q n xs i are =
    let word : List ℕ = run in_name p.rest in
    let (c, f, cell, is_dark, is_letter) = name_cell p m n i in
    let b : ArgumentsBack (form_of n.text) xs = arguments_back (form_of n.text) m q xs are in
    record {
      letters = word ++ b.letters;
      head = c;
      tail = run in_name (next p).rest ++ b.letters;
      encoded = joined_text n.text (behind_attribute false xs) word b.letters (ap (λ (a : Name). a.text) i.2) b.encoded;
      begins_so = ap (λ (l : List ℕ). l ++ b.letters) cell;
      dark_head = is_dark;
      no_comment = refl;
      again = λ r rest h.
          let more : List ℕ = codes "]" ++ rest in
          let ends : passes in_name (first_in (b.letters ++ more)) ≡ false = ap (λ (l : List ℕ). passes in_name (first_in (l ++ more))) b.begins_so in
          let (is, l1, shape) = name_stands p m n i r (b.letters ++ more) (h ∙ append_assoc word b.letters more) ends in
          let (q2, ys, j, left, shapes) = b.again (behind_word r) more (l1 ∙ beyond_dark b.letters 40 b.tail more b.begins_so refl) in
          let same : form_of n.text ≡ form_of (name_at r).text = ap (λ (a : Name). form_of a.text) (sym shape) in (
            q2,
            attribute_of (name_at r) false ys,
            grouped (behind_word r) (name_at r) ys is (subst (λ (g : Form). AreArguments g (behind_word r) q2 ys) same j) refl,
            left,
            ap (λ (a : Name). attribute_of a false (map bare_argument ys)) shape ∙ ap (λ (l : List Argument). attribute_of (bare_name n) false l) shapes,
          );
    }

-- an attribute of any form is printed and read with the same shape
attribute_back : (p q : Place) (x : Attribute) → IsAttribute p q x → AttributeBack x
attribute_back p q x (bare n i may nc np z) = subst AttributeBack (sym z) (alone_back p q n i may)
attribute_back p q x (behind_colon m o n s i has t j z) = subst AttributeBack (sym z) (colon_back p m o q n s i has j)
attribute_back p q x (grouped m n xs i are z) = subst AttributeBack (sym z) (grouped_back p m q n xs i are)

-- ---- the end of a line of attributes

-- the end of a line, with this comment, is printed and read as it is
record LineEnd (comment : Option (List ℕ)) : Type 0 where
  letters : List ℕ
  encoded : printed_end comment ≡ encode_utf8_all letters
  again : (s : Place) (rest : List ℕ) → s.rest ≡ beyond is_blank (letters ++ rest) → (t : Place) × IsRest s t comment × (t.rest ≡ rest)

-- the end of a line that was read, with its comment
rest_end : (p q : Place) (comment : Option (List ℕ)) → IsRest p q comment → LineEnd comment
rest_end p q comment w =
    let E : EndBack p comment = end_back p q comment w in
    record { letters = E.letters; encoded = E.encoded; again = E.again }

-- the end of a line without a comment
bare_end : LineEnd None
bare_end =
    record {
      letters = newline;
      encoded = plain_text newline refl;
      again = λ s rest h. let (ends, left) = newline_back s rest h in (next s, ended ends refl, left);
    }

-- ---- lines

-- what is printed of attributes: nothing where there are none, else it begins with a bracket; and before what begins with no blank
-- lines of attributes of the same shape are read of it
pub record AttributesBack (xs : List Attribute) : Type 0 where
  pub letters : List ℕ
  pub encoded : printed_attributes xs ≡ encode_utf8_all letters
  pub front : ((xs ≡ []) × (letters ≡ [])) ⊎ ((tail : List ℕ) × (letters ≡ 91 ∷ tail))
  pub again : (r : Place) (rest : List ℕ) → r.rest ≡ letters ++ rest → passes is_blank (first_in rest) ≡ false
      → (s : Place) × (lines : List (List Attribute)) × AreMany IsAttributeLine r s lines × (s.rest ≡ rest) × (map bare_attribute (concat lines) ≡ map bare_attribute xs)

-- what is printed of attributes begins with no blank where what follows doesn't
front_dark : (xs : List Attribute) (letters rest : List ℕ) → (((xs ≡ []) × (letters ≡ [])) ⊎ ((tail : List ℕ) × (letters ≡ 91 ∷ tail)))
    → passes is_blank (first_in rest) ≡ false → passes is_blank (first_in (letters ++ rest)) ≡ false
front_dark xs letters rest (inl (n, z)) h = ap (λ (l : List ℕ). passes is_blank (first_in (l ++ rest))) z ∙ h
front_dark xs letters rest (inr (tail, z)) h = ap (λ (l : List ℕ). passes is_blank (first_in (l ++ rest))) z

-- no attributes
nothing_back : AttributesBack []
nothing_back = record { letters = []; encoded = refl; front = inl (refl, refl); again = λ r rest h d. (r, [], refl, h, refl) }

-- an attribute with this comment
abbrev commented : Option (List ℕ) → Attribute → Attribute
commented comment x = record x { comment = comment }

-- an attribute on its line, before the lines of others
one_more : (comment : Option (List ℕ)) (x : Attribute) (more : List Attribute) → AttributeBack x → LineEnd comment → AttributesBack more
    → AttributesBack (commented comment x ∷ more)
one_more comment x more A E f =
    let line : List ℕ = codes "[" ++ (A.letters ++ (codes "]" ++ E.letters)) in
    let behind : List ℕ = behind_attribute x.colon x.arguments in
    let end : List ℕ = codes "]" ++ printed_end comment in
    record {
      letters = line ++ f.letters;
      encoded = joined_text (printed_attribute (commented comment x)) (printed_attributes more) line f.letters
          (joined_text (codes "[") (x.name.text ++ (behind ++ end)) (codes "[") (A.letters ++ (codes "]" ++ E.letters)) (plain_text (codes "[") refl)
          (sym (append_assoc x.name.text behind end)
          ∙ joined_text (x.name.text ++ behind) end A.letters (codes "]" ++ E.letters) A.encoded
          (joined_text (codes "]") (printed_end comment) (codes "]") E.letters (plain_text (codes "]") refl) E.encoded))) f.encoded;
      front = inr ((A.letters ++ (codes "]" ++ E.letters)) ++ f.letters, refl);
      again = λ r rest h d.
          let r3 : List ℕ = f.letters ++ rest in
          let r2 : List ℕ = E.letters ++ r3 in
          let spread : r.rest ≡ codes "[" ++ (A.letters ++ (codes "]" ++ r2)) =
          h ∙ (append_assoc line f.letters rest ∙ ap (λ (l : List ℕ). codes "[" ++ l) (append_assoc A.letters (codes "]" ++ E.letters) r3)) in
          let (m2, t2, l1) = token_back (codes "[") (A.letters ++ (codes "]" ++ r2)) r spread in
          let (n2, y, j, l2, shape) = A.again m2 r2 (l1 ∙ beyond_dark A.letters A.head A.tail (codes "]" ++ r2) A.begins_so A.dark_head) in
          let (o2, u2, l3) = token_back (codes "]") r2 n2 l2 in
          let (s2, w2, l4) = E.again o2 r3 l3 in
          let skipped : (skip s2).rest ≡ r3 =
          past_rest is_blank s2 ∙ (ap (beyond is_blank) l4 ∙ beyond_nothing is_blank r3 (front_dark more f.letters rest f.front d)) in
          let (t3, lines, are, l5, shapes) = f.again (skip s2) rest skipped d in (
            t3,
            (commented comment y ∷ []) ∷ lines,
            (skip s2, in_brackets m2 n2 n2 o2 s2 y [] comment t2 j refl u2 w2 refl refl, are),
            l5,
            ap (λ (a : Attribute). commented comment a ∷ map bare_attribute (concat lines)) shape
                ∙ ap (λ (l : List Attribute). bare_attribute (commented comment x) ∷ l) shapes,
          );
    }

-- the attributes of a line, of which the last has the comment
listed_back : (n o : Place) (x : Attribute) (xs more : List Attribute) (comment : Option (List ℕ)) → AttributeBack x → AreMany IsFurtherAttribute n o xs → LineEnd comment
    → AttributesBack more → AttributesBack (with_comment comment (x ∷ xs) ++ more)
listed_back n o x [] more comment A are E f = one_more comment x more A E f
listed_back n o x (y ∷ ys) more comment A (k, (m, t, i), are) E f =
    let others : List Attribute = with_comment comment (y ∷ ys) ++ more in
    subst (λ (a : Attribute). AttributesBack (a ∷ others)) A.no_comment
    (one_more None x others A bare_end (listed_back k o y ys more comment (attribute_back m k y i) are E f))

-- the attributes of a line, before others
line_back : (p q : Place) (line more : List Attribute) → IsAttributeLine p q line → AttributesBack more → AttributesBack (line ++ more)
line_back p q line more (in_brackets m n o r s x xs comment t i are u w k z) f =
    subst (λ (l : List Attribute). AttributesBack (l ++ more)) (sym z)
    (listed_back n o x xs more comment (attribute_back m n x i) are (rest_end r s comment w) f)

-- the attributes of lines
lines_back : (p q : Place) (lines : List (List Attribute)) → AreMany IsAttributeLine p q lines → AttributesBack (concat lines)
lines_back p q [] k = nothing_back
lines_back p q (line ∷ lines) (m, i, are) = line_back p m line (concat lines) i (lines_back m q lines are)

-- attributes are printed and read with the same shape
pub attributes_back : (p q : Place) (xs : List Attribute) → AreAttributes p q xs → AttributesBack xs
attributes_back p q xs (line_by_line lines are n z) = subst (λ (l : List Attribute). AttributesBack l) (sym z) (lines_back p q lines are)

-- what is printed of attributes is attributes of the same shape, up to a text that begins with neither a bracket nor a blank
pub attributes_stand : (xs : List Attribute) (b : AttributesBack xs) (r : Place) (rest : List ℕ) → r.rest ≡ b.letters ++ rest → begins_in (codes "[") rest ≡ false
    → passes is_blank (first_in rest) ≡ false
    → (s : Place) × (ys : List Attribute) × AreAttributes r s ys × (s.rest ≡ rest) × (map bare_attribute ys ≡ map bare_attribute xs)
attributes_stand xs b r rest h n d =
    let (s, lines, are, left, shapes) = b.again r rest h d in (s, concat lines, line_by_line lines are (ap (begins_in (codes "[")) left ∙ n) refl, left, shapes)
